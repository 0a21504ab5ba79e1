-- Laws of sums: over joined lists, over what is gathered, and in any order.
use Rattle.std.specs.Prelude.{◌≡◌}
use Rattle.std.proofs.Math.Path.{refl, sym, ap, ap₂}
use Rattle.std.proofs.Common.{◌∙◌}
use mathlib.Core.List.{List, [], ◌∷◌, ◌++◌}
use Rattle.spec_trees.specs.Lists.{gather}
use Rattle.spec_stages.specs.Permutes.{Permutes, empty, behind, swapped, through}
use Rattle.spec_stages.specs.Sums.{Adding, added}

module _ {M : Type 0} (k : Adding M) where
  open k use {plus, nothing, nothing_plus, plus_turned, plus_shifted}

  module _ {A : Type 0} (f : A → M) where
    pub added_append : (xs ys : List A) → added k f (xs ++ ys) ≡ plus (added k f xs) (added k f ys)
    unfolding added
    added_append [] ys = sym (nothing_plus (added k f ys))
    added_append (x ∷ xs) ys = ap (plus (f x)) (added_append xs ys) ∙ sym (plus_shifted (f x) (added k f xs) (added k f ys))

    pub added_permutes : {xs ys : List A} → Permutes xs ys → added k f xs ≡ added k f ys
    unfolding added
    added_permutes empty = refl
    added_permutes (behind x p) = ap (plus (f x)) (added_permutes p)
    added_permutes (swapped x y {zs = zs}) =
        let s = added k f zs in
        sym (plus_shifted (f x) (f y) s) ∙ ap (λ a. plus a s) (plus_turned (f x) (f y)) ∙ plus_shifted (f y) (f x) s
    added_permutes (through p q) = added_permutes p ∙ added_permutes q

    -- the sum of sums
    pub added_gather : {B : Type 0} (g : B → List A) (xs : List B) → added k f (gather g xs) ≡ added k (λ x. added k f (g x)) xs
    unfolding added gather
    added_gather g [] = refl
    added_gather g (x ∷ xs) = added_append (g x) (gather g xs) ∙ ap (plus (added k f (g x))) (added_gather g xs)

  pub added_same : {A : Type 0} (f g : A → M) → ((x : A) → f x ≡ g x) → (xs : List A) → added k f xs ≡ added k g xs
  unfolding added
  added_same f g h [] = refl
  added_same f g h (x ∷ xs) = ap₂ plus (h x) (added_same f g h xs)
