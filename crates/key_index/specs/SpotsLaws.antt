-- Laws of elements that stand one behind another: their offsets, their order, and what is found among them.
use Rattle.std.specs.Prelude.{◌≡◌, Bool, true, not, ◌↔◌, ℕ, ◌+◌, ◌≤◌, ◌<◌}
use Rattle.std.proofs.Math.Path.{refl, sym, ap}
use Rattle.std.proofs.Common.{◌∙◌}
use mathlib.Core.List.{List, [], ◌∷◌, ◌++◌, reverse, reverse_aux}
use native.Mathlib.Omega.{arith}
use Rattle.spec_trees.specs.Lists.{filter, all}
use Rattle.spec_trees.specs.ListLaws.{All-reverse}
use Rattle.spec_trees.specs.FilterLaws.{filter_map, all_map}
use Rattle.key_index.specs.Links.{Spot, spots, end, elements, Ordered, Rising, Positive, passing, first_of, none_of}
use Rattle.spec_stages.specs.PermutesLaws.{test_permutes, permutes_reverse}
use Rattle.key_index.specs.LinksLaws.{first_none, none_first}

-- ---- what stands there
module _ {A : Type 0} where
  pub elements_passing : (f : A → Bool) (ss : List (Spot A)) → elements (passing f ss) ≡ filter f (elements ss)
  unfolding passing
  elements_passing f ss = sym (filter_map f (λ s. s.1) ss)

  -- ---- from the back the order is the other way: all stand before c
  module _ (R : ℕ → ℕ → Type 0) (c : ℕ) (x : A) where
    abbrev Back : ℕ → List (Spot A) → Type 0
    Back = Ordered (λ a b. R b a)

    back_onto : (ss rs : List (Spot A)) (r : Spot A) → Ordered R r.0 (ss ++ ((c, x) ∷ [])) → Back r.0 rs → Back c (reverse_aux ss (r ∷ rs))
    back_onto [] rs r o p = (o.0, p)
    back_onto (s ∷ ss) rs r o p = back_onto ss (r ∷ rs) s o.1 (o.0, p)

    pub ordered_reverse : (a : ℕ) (ss : List (Spot A)) → Ordered R a (ss ++ ((c, x) ∷ [])) → Back c (reverse ss)
    ordered_reverse a [] o = tt
    ordered_reverse a (s ∷ ss) o = back_onto ss [] s o.1 tt

module _ {A : Type 0} (size : A → ℕ) where
  -- ---- one behind another
  pub spots_append : (a : ℕ) (xs ys : List A) → spots size a (xs ++ ys) ≡ spots size a xs ++ spots size (end size a xs) ys
  unfolding spots end
  spots_append a [] ys = refl
  spots_append a (x ∷ xs) ys = ap (λ l. (a, x) ∷ l) (spots_append (a + size x) xs ys)

  pub spots_elements : (a : ℕ) (xs : List A) → elements (spots size a xs) ≡ xs
  unfolding spots
  spots_elements a [] = refl
  spots_elements a (x ∷ xs) = ap (λ l. x ∷ l) (spots_elements (a + size x) xs)

  pub end_from : (a : ℕ) (xs : List A) → a ≤ end size a xs
  unfolding end
  end_from a [] = omega arith
  end_from a (x ∷ xs) = let l = end_from (a + size x) xs in omega arith

  -- no size is below g: the offsets are g or more apart
  pub spots_rising : (g : ℕ) → ((x : A) → g ≤ size x) → (a b : ℕ) → a + g ≤ b → (xs : List A) → Rising g a (spots size b xs)
  unfolding spots
  spots_rising g h a b l [] = tt
  spots_rising g h a b l (x ∷ xs) = (l, spots_rising g h b (b + size x) (let k = h x in omega arith) xs)

  pub spots_positive : (a : ℕ) → 0 < a → (xs : List A) → Positive (spots size a xs)
  unfolding spots
  spots_positive a l [] = tt
  spots_positive a l (x ∷ xs) = (l, spots_positive (a + size x) (omega arith) xs)

  -- ---- nothing is found among those seen exactly if none of them passes
  none_back : (f : A → Bool) (a : ℕ) (xs : List A) → none_of f (reverse (spots size a xs)) ≡ all (λ x. not (f x)) xs
  none_back f a xs =
      test_permutes (λ s. not (f s.1)) (permutes_reverse (spots size a xs)) ∙ sym (all_map (λ x. not (f x)) (λ s. s.1) (spots size a xs))
      ∙ ap (all (λ x. not (f x))) (spots_elements a xs)

  pub first_unseen : (f : A → Bool) (a : ℕ) → 0 < a → (xs : List A)
      → (first_of f (reverse (spots size a xs)) ≡ 0) ↔ (all (λ x. not (f x)) xs ≡ true)
  first_unseen f a l xs = (
    λ z. sym (none_back f a xs) ∙ none_first f (reverse (spots size a xs)) (All-reverse (λ s. 0 < s.0) (spots size a xs) (spots_positive a l xs)) z,
    λ n. first_none f (reverse (spots size a xs)) (none_back f a xs ∙ n),
  )
