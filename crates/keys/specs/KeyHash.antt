-- The number of a key, for an index: like trees have equal numbers.
use Rattle.std.specs.Prelude.{◌≡◌, List, [], ◌∷◌, ℕ}
use Rattle.spec_trees.specs.Tree.{Tree}
use Rattle.spec_trees.specs.Bytes.{tree_bytes}
use Rattle.areas.specs.Area.{IsAt}
use Rattle.areas.specs.declared.span.Span.{Span}
use Rattle.spec_queries.specs.Query.{Pair}
use Rattle.queries.specs.Places.{pair_bytes, pairs_bytes}
use Rattle.spec_stages.specs.Paths.{Given, apply}
use Rattle.spec_stages.specs.Group.{key}
use Rattle.paths.specs.Hash.{given_hash}

-- the number h with the values of a key behind it
unfoldable pub key_hash_from : ℕ → List Given → ℕ
key_hash_from h [] = h
key_hash_from h (x ∷ xs) = key_hash_from (given_hash h x) xs

abbrev pub key_hash : List Given → ℕ
key_hash xs = key_hash_from 0 xs

-- r is the number h with the source of the pair behind it, of whatever pair and tree stand there; and so below
abbrev pub SourceHashIs : ℕ → (q : List ℕ) (pair_at : Span) (w : List ℕ) (tree_at : Span) → ℕ → Type 0
SourceHashIs h q pair_at w tree_at r = (x : Pair) (t : Tree) → IsAt q pair_at (pair_bytes x) → IsAt w tree_at (tree_bytes t)
    → r ≡ given_hash h (apply x.source t)

-- with the key behind it
abbrev pub KeyHashFrom : ℕ → (q : List ℕ) (keys_at : Span) (w : List ℕ) (tree_at : Span) → ℕ → Type 0
KeyHashFrom h q keys_at w tree_at r = (gs : List Pair) (t : Tree) → IsAt q keys_at (pairs_bytes gs) → IsAt w tree_at (tree_bytes t)
    → r ≡ key_hash_from h (key gs t)

-- the key's number
abbrev pub KeyHashIs : (q : List ℕ) (keys_at : Span) (w : List ℕ) (tree_at : Span) → ℕ → Type 0
KeyHashIs q keys_at w tree_at r = (gs : List Pair) (t : Tree) → IsAt q keys_at (pairs_bytes gs) → IsAt w tree_at (tree_bytes t)
    → r ≡ key_hash (key gs t)
