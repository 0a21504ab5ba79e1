-- Totals that fit, class by class.
use Rattle.std.specs.Prelude.{◌≡◌, refl, List, [], ◌∷◌, Bool, true, ◌&&◌}
use Rattle.std.proofs.Common.{ap₂}
use Rattle.spec_trees.specs.Lists.{all, All}
use Rattle.spec_trees.specs.OptionLaws.{both_true}
use Rattle.spec_trees.specs.ListLaws.{All-every, All-both}
use Rattle.spec_queries.specs.Query.{Pair}
use Rattle.spec_queries.specs.Rules.{Plain}
use Rattle.spec_stages.specs.Group.{Class, total_fits, totals_fit}

-- each total of the class fits
abbrev pub ClassFits : List Pair → Class → Type 0
ClassFits ag c = All (λ p. total_fits p c ≡ true) ag

all_pass : {A : Type 0} (f : A → Bool) (xs : List A) → all f xs ≡ true → All (λ x. f x ≡ true) xs
unfolding all
all_pass f [] h = tt
all_pass f (x ∷ xs) h = let a = both_true (f x) (all f xs) h in (a.0, all_pass f xs a.1)

pub fit_classes : (ag : List Pair) (cs : List Class) → totals_fit ag cs ≡ true → All (ClassFits ag) cs
unfolding totals_fit all
fit_classes [] cs h = All-every (λ c. tt) cs
fit_classes (p ∷ ag) cs h =
    let a = both_true (all (total_fits p) cs) (totals_fit ag cs) h in
    All-both (λ c. total_fits p c ≡ true) (ClassFits ag) cs (all_pass (total_fits p) cs a.0) (fit_classes ag cs a.1)

-- a pair that is no total
plain_one : (p : Pair) → Plain p → (c : Class) → total_fits p c ≡ true
unfolding total_fits
plain_one p o c = rw o refl

-- where no pair is a total, all fit
pub plain_fits : (ag : List Pair) → All Plain ag → (cs : List Class) → totals_fit ag cs ≡ true
unfolding totals_fit all
plain_fits [] o cs = refl
plain_fits (p ∷ ag) o cs = ap₂ ◌&&◌ (go cs) (plain_fits ag o.1 cs)
  where
    go : (cs : List Class) → all (total_fits p) cs ≡ true
    go [] = refl
    go (c ∷ cs) = ap₂ ◌&&◌ (plain_one p o.0 c) (go cs)
