-- The classes of a group and the tree of each.
use Rattle.std.specs.Prelude.{List, [], ◌∷◌, ◌++◌, map, Bool, true, false, cond, not, ◌&&◌, ℕ, zero, suc, ◌+◌, ◌*◌, ◌^◌, length, eqb}
use Rattle.std.proofs.Math.Option.{Option}
use Rattle.spec_trees.specs.Lists.{filter, all, gather}
use Rattle.spec_trees.specs.Tree.{Tree, bare_void}
use Rattle.spec_queries.specs.Query.{Pair}
use Rattle.spec_stages.specs.Paths.{Given, present, over, apply}
use Rattle.spec_stages.specs.Equality.{same_given}
use Rattle.spec_stages.specs.Merge.{build}
use Rattle.spec_stages.specs.Project.{placed}
use Rattle.spec_stages.specs.Totals.{total, fits_signed, total_given}

-- ---- the sources of a tree
unfoldable pub key : List Pair → Tree → List Given
key gs t = map (λ p. apply p.source t) gs

unfoldable pub same_key : List Given → List Given → Bool
same_key [] [] = true
same_key [] (y ∷ ys) = false
same_key (x ∷ xs) [] = false
same_key (x ∷ xs) (y ∷ ys) = same_given x y && same_key xs ys

-- equal source values
unfoldable pub alike : List Pair → Tree → Tree → Bool
alike gs t u = same_key (key gs t) (key gs u)

-- pair j counts 2 to the power j, from j = 0, if its source is present
unfoldable pub sum : List Given → ℕ
sum [] = 0
sum (x ∷ xs) = cond (present x) 1 0 + 2 * sum xs

-- the trees having exactly the sources present whose sum is m
unfoldable pub having : List Pair → ℕ → List Tree → List Tree
having gs m = filter (λ t. eqb (sum (key gs t)) m)

-- ---- classes: the first tree, and the others
abbrev pub Class : Type 0
Class = Tree × List Tree

-- the classes of what e finds equal, in order of first appearance: a tree that is like none seen before begins one
unfoldable pub classes : (Tree → Tree → Bool) → List Tree → List Tree → List Class
classes e seen [] = []
classes e seen (t ∷ ts) =
    let rest = classes e (t ∷ seen) ts in
    cond (all (λ u. not (e u t)) seen) ((t, filter (e t) ts) ∷ rest) rest

-- 0 to n - 1
unfoldable pub upto : ℕ → List ℕ
upto zero = []
upto (suc n) = upto n ++ (n ∷ [])

-- for each subset of pairs by rising sum, the classes of its trees
unfoldable pub grouped : List Pair → List Tree → List Class
grouped gs ts = gather (λ m. classes (alike gs) [] (having gs m ts)) (upto (2 ^ length gs))

-- ---- the tree of a class
-- what an aggregate takes from the members: the source applied to each, joined; a total, the sum of the integer roots
-- of that
unfoldable pub aggregate : Pair → List Tree → Given
aggregate p ts = cond p.is_total (total_given (total p.source ts)) (over (apply p.source) ts)

-- an aggregate placed
unfoldable pub aggregated : Class → Pair → Tree
aggregated c p = placed p.target (aggregate p (c.0 ∷ c.1))

-- whether what it takes is a total that fits, or no total
unfoldable pub total_fits : Pair → Class → Bool
total_fits p c = cond p.is_total (fits_signed (total p.source (c.0 ∷ c.1))) true

-- each total of each class fits
unfoldable pub totals_fit : List Pair → List Class → Bool
totals_fit ag cs = all (λ p. all (total_fits p) cs) ag

-- a grouping value placed
unfoldable pub identified : Class → Pair → Tree
identified c p = placed p.target (apply p.source c.0)

-- whether a pair is in the class's subset
unfoldable pub sourced : Class → Pair → Bool
sourced c p = present (apply p.source c.0)

-- the bare void tree merged with the aggregates, then with the subset's grouping values, in list order
unfoldable pub class_tree : List Pair → List Pair → Class → Option Tree
class_tree ag gs c = build bare_void (map (aggregated c) ag ++ map (identified c) (filter (sourced c) gs))
