-- States side by side, as over parts of one list.
use Rattle.std.specs.Prelude.{◌≡◌, List, [], ◌∷◌, ◌++◌, false}
use Rattle.spec_trees.specs.Lists.{All}
use Rattle.spec_trees.specs.Tree.{Tree}
use Rattle.spec_queries.specs.Query.{Stage}
use Rattle.spec_stages.specs.Stages.{State, going, large, halted, is_group}

-- lists are joined; the first stop stands
unfoldable pub beside : State → State → State
beside large y = large
beside (halted h) y = halted h
beside (going a) large = large
beside (going a) (halted h) = halted h
beside (going a) (going b) = going (a ++ b)

-- what f gives of each tree, side by side
unfoldable pub in_turn : (Tree → State) → List Tree → State
in_turn f [] = going []
in_turn f (t ∷ ts) = beside (f t) (in_turn f ts)

abbrev pub GroupFree : List Stage → Type 0
GroupFree ss = All (λ s. is_group s ≡ false) ss
