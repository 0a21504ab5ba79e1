-- Laws of equivalences.
use Rattle.std.specs.Prelude.{◌≡◌, Bool, true, ℕ, eqb}
use Rattle.std.proofs.Common.{sym, ap, ◌∙◌, eqb-true}
use Rattle.spec_trees.specs.OptionLaws.{eqb_same, split, apart}
use Rattle.spec_stages.specs.Equivalence.{Equivalence}

module _ {A : Type 0} (e : A → A → Bool) (q : Equivalence e) where
  passes_back : (x y : A) → e x y ≡ true → e y x ≡ true
  passes_back x y h = sym (q.same x y h x) ∙ q.self x

  -- the order of the two has no part
  pub turned : (x y : A) → e x y ≡ e y x
  turned x y =
      split (e x y)
      (λ h. h ∙ sym (passes_back x y h))
      (λ h. h ∙ sym (split (e y x) (λ k. apart (passes_back y x k) h) (λ k. k)))

  -- the others are like the same of the two
  pub same_right : (x y : A) → e x y ≡ true → (z : A) → e z x ≡ e z y
  same_right x y h z = turned z x ∙ q.same x y h z ∙ turned y z

-- the same number
pub by_number : {A : Type 0} (f : A → ℕ) → Equivalence (λ x y. eqb (f x) (f y))
by_number f = record { self = λ x. eqb_same (f x); same = λ x y h z. ap (λ n. eqb n (f z)) (eqb-true (f x) (f y) h) }

pub eqb_turned : (m n : ℕ) → eqb m n ≡ eqb n m
eqb_turned = turned eqb (by_number (λ n. n))
