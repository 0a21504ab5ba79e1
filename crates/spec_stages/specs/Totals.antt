-- Totals: the integer roots of an array, added exactly.
use Rattle.std.specs.Prelude.{List, [], ◌∷◌, Bool, true, ◌^◌, ℤ, pos, ltb}
use Rattle.std.proofs.Math.Option.{Option, none, some, map}
use Rattle.std.specs.Int.Signed.{mag}
use Rattle.spec_trees.specs.Lists.{gather}
use Rattle.spec_trees.specs.Options.{maybe}
use Rattle.spec_trees.specs.Tree.{Root, void, boolean, integer, text, Tree, node, bare, root}
use Rattle.spec_queries.specs.Query.{Route}
use Rattle.spec_stages.specs.Paths.{Given, over, apply}
use Rattle.spec_stages.specs.Sums.{Adding, integers, perhaps, added}

-- ---- the integers that are added
-- other roots add nothing
unfoldable pub root_integers : Root → List ℤ
root_integers void = []
root_integers (boolean b) = []
root_integers (integer z) = z ∷ []
root_integers (text s) = []

-- the integer roots of trees; roots deeper in them have no part
unfoldable pub tree_integers : List Tree → List ℤ
tree_integers ts = gather (λ t. root_integers (root t)) ts

-- those of an array; absent has none
unfoldable pub given_integers : Given → List ℤ
given_integers x = maybe [] tree_integers x

-- ---- the total
-- exact: no sum on the way has a limit. Without an integer there is none
unfoldable pub sum_of : List ℤ → Option ℤ
sum_of [] = none
sum_of (z ∷ zs) = some (added integers (λ y. y) (z ∷ zs))

-- that of what the path gives of the trees: applied to each, joined
unfoldable pub total : Route → List Tree → Option ℤ
total p ts = sum_of (given_integers (over (apply p) ts))

-- whether it fits a signed 64-bit integer: `mag` of n is n, and of -n it is n - 1
unfoldable pub fits_signed : Option ℤ → Bool
fits_signed x = maybe true (λ z. ltb (mag z) (2 ^ 63)) x

-- what a total places: an array of one bare tree, or nothing
unfoldable pub total_given : Option ℤ → Given
total_given x = map (λ z. node (integer z) bare ∷ []) x

-- ---- totals, added: one that is absent counts nothing
abbrev pub totals : Adding (Option ℤ)
totals = perhaps integers

-- a total as a number
unfoldable pub counted : Option ℤ → ℤ
counted x = maybe (pos 0) (λ z. z) x
