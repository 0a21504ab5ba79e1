-- What a group asks of trees, read where the pairs and the trees stand, in the terms of the code.
use Rattle.std.specs.Prelude.{◌≡◌, List, Bool, ℕ, ◌^◌, ◌≤◌, length}
use Rattle.spec_trees.specs.Tree.{Tree}
use Rattle.spec_trees.specs.Bytes.{tree_bytes}
use Rattle.areas.specs.Area.{IsAt}
use Rattle.areas.specs.declared.span.Span.{Span}
use Rattle.spec_trees.specs.Limits.{depth_max, grouping_max}
use Rattle.spec_trees.specs.Within.{Allowed}
use Rattle.spec_queries.specs.Query.{Pair}
use Rattle.queries.specs.Places.{pair_bytes, pairs_bytes}
use Rattle.spec_stages.specs.Paths.{present, apply}
use Rattle.spec_stages.specs.Equality.{same_given}
use Rattle.spec_stages.specs.Group.{key, sum, alike}

-- A group's grouping pairs stand in q, one behind another: as many as the rules allow
abbrev pub FewPairs : List Pair → Type 0
FewPairs gs = length gs ≤ grouping_max

-- r is whether the pair's source is present in the tree, of whatever pair and tree stand there; and so below
abbrev pub SourcedIs : (q : List ℕ) (pair_at : Span) (s : List ℕ) (tree_at : Span) → Bool → Type 0
SourcedIs q pair_at s tree_at r = (x : Pair) (t : Tree) → IsAt q pair_at (pair_bytes x) → IsAt s tree_at (tree_bytes t)
    → r ≡ present (apply x.source t)

-- whether the pair's source gives the same of both trees
abbrev pub SameSourceIs : (q : List ℕ) (pair_at : Span) (s : List ℕ) (tree_at : Span) (s2 : List ℕ) (tree_at2 : Span) → Bool → Type 0
SameSourceIs q pair_at s tree_at s2 tree_at2 r =
    (x : Pair) (t u : Tree) → IsAt q pair_at (pair_bytes x) → Allowed depth_max t → IsAt s tree_at (tree_bytes t)
    → Allowed depth_max u → IsAt s2 tree_at2 (tree_bytes u) → r ≡ same_given (apply x.source t) (apply x.source u)

-- the sum of the pairs whose sources are present
abbrev pub SubsetIs : (q : List ℕ) (keys_at : Span) (s : List ℕ) (tree_at : Span) → ℕ → Type 0
SubsetIs q keys_at s tree_at r = (gs : List Pair) (t : Tree) → IsAt q keys_at (pairs_bytes gs) → IsAt s tree_at (tree_bytes t)
    → r ≡ sum (key gs t)

-- whether the trees have equal source values
abbrev pub AlikeIs : (q : List ℕ) (keys_at : Span) (s : List ℕ) (tree_at : Span) (s2 : List ℕ) (tree_at2 : Span) → Bool → Type 0
AlikeIs q keys_at s tree_at s2 tree_at2 r =
    (gs : List Pair) (t u : Tree) → IsAt q keys_at (pairs_bytes gs) → Allowed depth_max t → IsAt s tree_at (tree_bytes t)
    → Allowed depth_max u → IsAt s2 tree_at2 (tree_bytes u) → r ≡ alike gs t u

-- r is how many subsets the grouping pairs have, whatever pairs stand there
abbrev pub SubsetsIs : (q : List ℕ) (keys_at : Span) → ℕ → Type 0
SubsetsIs q keys_at r = (gs : List Pair) → IsAt q keys_at (pairs_bytes gs) → r ≡ 2 ^ length gs
