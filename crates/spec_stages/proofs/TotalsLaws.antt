-- Totals: those of all classes add to that of the array that entered, and the order of the members has no part.
use Rattle.std.specs.Prelude.{◌≡◌, true, ℤ, ◌+ℤ◌}
use Rattle.std.proofs.Math.Path.{refl, sym, ap}
use Rattle.std.proofs.Common.{◌∙◌}
use mathlib.Core.List.{List, [], ◌∷◌, ◌++◌, map, append-nil}
use Rattle.std.proofs.Math.Option.{Option, none, some}
use Rattle.std.proofs.Math.IntN.{+ℤ_idl, +ℤ_idr}
use Rattle.spec_trees.specs.Options.{maybe}
use Rattle.spec_trees.specs.Lists.{gather}
use Rattle.spec_trees.specs.FilterLaws.{gather_append, gather_map}
use Rattle.spec_trees.specs.Tree.{Tree, root}
use Rattle.spec_queries.specs.Query.{Route, Pair}
use Rattle.spec_stages.specs.Paths.{Given, join, joins, over, apply}
use Rattle.spec_stages.specs.Sums.{integers, added}
use Rattle.spec_stages.specs.Totals.{root_integers, tree_integers, given_integers, sum_of, total, total_given, totals, counted}
use Rattle.spec_stages.specs.Group.{grouped, aggregate}
use Rattle.spec_stages.specs.Permutes.{Permutes}
use Rattle.spec_stages.specs.Flat.{members, flat}
use Rattle.spec_stages.specs.SumsLaws.{added_append, added_permutes, added_gather, added_same}
use Rattle.spec_stages.proofs.GroupedLaws.{grouped_permutes}

-- ---- joined lists
pub sum_append : (ys zs : List ℤ) → sum_of (ys ++ zs) ≡ totals.plus (sum_of ys) (sum_of zs)
unfolding sum_of
sum_append [] zs = refl
sum_append (y ∷ ys) [] = ap sum_of (append-nil (y ∷ ys))
sum_append (y ∷ ys) (z ∷ zs) = ap some (added_append integers (λ x. x) (y ∷ ys) (z ∷ zs))

-- ---- the integers of what a path gives over trees are those of what it gives of each
pub integers_join : (x y : Given) → given_integers (join x y) ≡ given_integers x ++ given_integers y
unfolding given_integers tree_integers maybe join
integers_join none y = refl
integers_join (some a) none = sym (append-nil (given_integers (some a)))
integers_join (some a) (some b) = gather_append (λ t. root_integers (root t)) a b

integers_joins : (xs : List Given) → given_integers (joins xs) ≡ gather given_integers xs
unfolding joins gather given_integers maybe
integers_joins [] = refl
integers_joins (x ∷ xs) = integers_join x (joins xs) ∙ ap (λ l. given_integers x ++ l) (integers_joins xs)

integers_over : (p : Route) (ts : List Tree) → given_integers (over (apply p) ts) ≡ gather (λ t. given_integers (apply p t)) ts
unfolding over given_integers tree_integers maybe gather
integers_over p [] = refl
integers_over p (t ∷ ts) = integers_joins (map (apply p) (t ∷ ts)) ∙ gather_map given_integers (apply p) (t ∷ ts)

-- ---- totals of joined arrays
module _ (p : Route) where
  -- of one tree
  abbrev pub one : Tree → Option ℤ
  one t = sum_of (given_integers (apply p t))

  -- tree by tree
  sums_added : (ts : List Tree) → sum_of (gather (λ t. given_integers (apply p t)) ts) ≡ added totals one ts
  unfolding added gather sum_of
  sums_added [] = refl
  sums_added (t ∷ ts) =
      sum_append (given_integers (apply p t)) (gather (λ u. given_integers (apply p u)) ts) ∙ ap (totals.plus (one t)) (sums_added ts)

  pub total_added : (ts : List Tree) → total p ts ≡ added totals one ts
  unfolding total
  total_added ts = ap sum_of (integers_over p ts) ∙ sums_added ts

  -- the total of what is joined is the parts' totals, added
  pub total_gather : {A : Type 0} (f : A → List Tree) (xs : List A) → total p (gather f xs) ≡ added totals (λ x. total p (f x)) xs
  total_gather f xs =
      total_added (gather f xs) ∙ added_gather totals one f xs
      ∙ sym (added_same totals (λ x. total p (f x)) (λ x. added totals one (f x)) (λ x. total_added (f x)) xs)

  -- ---- any order of the members gives the same total
  pub total_any_order : {ts us : List Tree} → Permutes ts us → total p ts ≡ total p us
  total_any_order {ts} {us} h = total_added ts ∙ added_permutes totals one h ∙ sym (total_added us)

  -- ---- the totals of all classes add to the total of the array that entered: absent counts nothing, and the sum is
  -- absent where all of them are
  pub totals_add : (gs : List Pair) (ts : List Tree) → added totals (λ c. total p (members c)) (grouped gs ts) ≡ total p ts
  unfolding flat
  totals_add gs ts = sym (total_gather members (grouped gs ts)) ∙ total_any_order (grouped_permutes gs ts)

-- ---- each total taken as placed, before merging
-- what a total places has that total
pub total_placed : (x : Option ℤ) → sum_of (given_integers (total_given x)) ≡ x
unfolding sum_of given_integers tree_integers maybe total_given gather root_integers added
total_placed none = refl
total_placed (some z) = ap some (+ℤ_idr z)

taken_total : (p : Pair) → p.is_total ≡ true → (ts : List Tree) → sum_of (given_integers (aggregate p ts)) ≡ total p.source ts
unfolding aggregate
taken_total p o ts = rw o (total_placed (total p.source ts))

-- the theorem: what the pair places of all classes adds to the total over the array that entered
pub placed_add : (p : Pair) → p.is_total ≡ true → (gs : List Pair) (ts : List Tree)
    → added totals (λ c. sum_of (given_integers (aggregate p (members c)))) (grouped gs ts) ≡ total p.source ts
placed_add p o gs ts =
    added_same totals (λ c. sum_of (given_integers (aggregate p (members c)))) (λ c. total p.source (members c)) (λ c. taken_total p o (members c)) (grouped gs ts)
    ∙ totals_add p.source gs ts

-- and as numbers
counted_plus : (x y : Option ℤ) → counted (totals.plus x y) ≡ counted x +ℤ counted y
unfolding counted maybe
counted_plus none y = sym (+ℤ_idl (counted y))
counted_plus (some a) none = sym (+ℤ_idr a)
counted_plus (some a) (some b) = refl

counted_added : {A : Type 0} (f : A → Option ℤ) (xs : List A) → counted (added totals f xs) ≡ added integers (λ x. counted (f x)) xs
unfolding added counted maybe
counted_added f [] = refl
counted_added f (x ∷ xs) = counted_plus (f x) (added totals f xs) ∙ ap (λ z. counted (f x) +ℤ z) (counted_added f xs)

pub totals_counted : (p : Route) (gs : List Pair) (ts : List Tree)
    → added integers (λ c. counted (total p (members c))) (grouped gs ts) ≡ counted (total p ts)
totals_counted p gs ts = sym (counted_added (λ c. total p (members c)) (grouped gs ts)) ∙ ap counted (totals_add p gs ts)
