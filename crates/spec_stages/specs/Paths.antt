-- Path application: absent, or an array.
use Rattle.std.specs.Prelude.{List, [], ◌∷◌, ◌++◌, map, Bool, true, false, ℕ}
use Rattle.std.proofs.Math.Option.{Option, none, some}
use Rattle.spec_trees.specs.Options.{◌>>=◌}
use Rattle.spec_trees.specs.Tree.{Tree, labels, find}
use Rattle.spec_queries.specs.Query.{Route}

abbrev pub Given : Type 0
Given = Option (List Tree)

abbrev pub absent : Given
absent = none

unfoldable pub present : Given → Bool
present none = false
present (some a) = true

-- absent joined with an array is that array
unfoldable pub join : Given → Given → Given
join none y = y
join (some a) none = some a
join (some a) (some b) = some (a ++ b)

-- all absent gives absent
unfoldable pub joins : List Given → Given
joins [] = absent
joins (x ∷ xs) = join x (joins xs)

-- f of each tree, joined in order; over an empty array the result is the empty array
unfoldable pub over : (Tree → Given) → List Tree → Given
over f [] = some []
over f (t ∷ ts) = joins (map f (t ∷ ts))

-- what a step k reaches: the trees under k; absent if the tree lacks k
unfoldable pub reached : ℕ → Tree → Given
reached k t = find k (labels t)

-- the empty path gives the array of the tree alone; k.p gives absent if that is what k reaches, else p is applied to
-- each tree that k reaches
unfoldable pub apply : Route → Tree → Given
apply [] t = some (t ∷ [])
apply (k ∷ p) t = reached k t >>= over (apply p)
