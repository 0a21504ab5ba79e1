-- What the test of equality says is `≡`.
use Rattle.std.specs.Prelude.{◌≡◌, refl, true, ◌↔◌, ℕ}
use Rattle.std.proofs.Math.Bool.{decide}
use Rattle.std.proofs.Common.{arith}
use Rattle.spec_stages.specs.Paths.{Given}
use Rattle.spec_stages.specs.DecisionLaws.{given?}
use Rattle.spec_stages.specs.Equality.{same_given}

decide_true : {A : Type 0} (d : Dec A) → decide d ≡ true → A
unfolding decide
decide_true (yes a) e = a
decide_true (no f) e = let z : ◌≡◌ {A = ℕ} 0 1 = cc in absurd (omega arith)

decide_yes : {A : Type 0} (d : Dec A) → A → decide d ≡ true
unfolding decide
decide_yes (yes a) x = refl
decide_yes (no f) x = absurd (f x)

pub same_given_lem : (x y : Given) → (same_given x y ≡ true) ↔ (x ≡ y)
unfolding same_given
same_given_lem x y = (decide_true (given? x y), decide_yes (given? x y))
