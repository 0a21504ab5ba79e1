-- A group told by keys: the keys that occur, each once, in the order of the classes; and the tree of the class of a key.
use Rattle.std.specs.Prelude.{List, [], ◌∷◌, ◌++◌, map, Bool, not, ℕ, ◌^◌, length, eqb}
use Rattle.std.proofs.Math.Option.{Option, none, some}
use Rattle.spec_trees.specs.Lists.{filter, gather}
use Rattle.spec_trees.specs.Tree.{Tree, bare_void}
use Rattle.spec_queries.specs.Query.{Pair}
use Rattle.spec_stages.specs.Paths.{Given}
use Rattle.spec_stages.specs.Merge.{build}
use Rattle.spec_stages.specs.Project.{place_at, placed}
use Rattle.spec_stages.specs.Group.{key, same_key, sum, upto, aggregate}

-- ---- lists, by what e finds equal
module _ {A : Type 0} (e : A → A → Bool) where
  -- those that are not x
  unfoldable pub without : A → List A → List A
  without x = filter (λ y. not (e x y))

  -- each once, in order of first appearance
  unfoldable pub once : List A → List A
  once [] = []
  once (x ∷ xs) = x ∷ without x (once xs)

  -- each once, by rising rank below n; those of one rank in order of first appearance
  unfoldable pub ranked : (A → ℕ) → ℕ → List A → List A
  ranked f n xs = gather (λ m. once (filter (λ x. eqb (f x) m) xs)) (upto n)

-- ---- keys
-- the keys of a group's classes, in order
unfoldable pub keys : List Pair → List Tree → List (List Given)
keys gs ts = ranked same_key sum (2 ^ length gs) (map (key gs) ts)

-- the trees whose key is x
unfoldable pub sharing : List Pair → List Given → List Tree → List Tree
sharing gs x = filter (λ t. same_key x (key gs t))

-- the values of a key that are present, each placed
unfoldable pub shown : List Pair → List Given → List Tree
shown [] x = []
shown (p ∷ gs) [] = []
shown (p ∷ gs) (none ∷ x) = shown gs x
shown (p ∷ gs) (some a ∷ x) = place_at p.target a ∷ shown gs x

-- the tree of the class that has the key x and the members ms
unfoldable pub made : List Pair → List Pair → List Given → List Tree → Option Tree
made ag gs x ms = build bare_void (map (λ p. placed p.target (aggregate p ms)) ag ++ shown gs x)
