-- `All` of parts of lists, for every property; and when bytes are the same.
use Rattle.std.specs.Prelude.{◌≡◌, refl, Bool, true, ℕ, zero, suc, ◌<◌, length, take, drop, get_or, eqb}
use Rattle.std.proofs.Common.{ap₂, subst, arith, eqb→eq}
use mathlib.Core.List.{List, [], ◌∷◌, ◌++◌, map, reverse, reverse_aux}
use Rattle.spec_trees.specs.Lists.{All, filter, gather, same_bytes}
use Rattle.spec_trees.specs.OptionLaws.{cond_cases, T_and, T_true, true_T, eqb_same}

module _ {A : Type 0} (P : A → Type 0) where
  pub All-take : (n : ℕ) (xs : List A) → All P xs → All P (take n xs)
  All-take zero xs h = tt
  All-take (suc n) [] h = tt
  All-take (suc n) (x ∷ xs) h = (h.0, All-take n xs h.1)

  pub All-drop : (n : ℕ) (xs : List A) → All P xs → All P (drop n xs)
  All-drop zero xs h = h
  All-drop (suc n) [] h = tt
  All-drop (suc n) (x ∷ xs) h = All-drop n xs h.1

  pub All-left : (xs ys : List A) → All P (xs ++ ys) → All P xs
  All-left [] ys h = tt
  All-left (x ∷ xs) ys h = (h.0, All-left xs ys h.1)

  pub All-right : (xs ys : List A) → All P (xs ++ ys) → All P ys
  All-right [] ys h = h
  All-right (x ∷ xs) ys h = All-right xs ys h.1

  pub All-append : (xs ys : List A) → All P xs → All P ys → All P (xs ++ ys)
  All-append [] ys h k = k
  All-append (x ∷ xs) ys h k = (h.0, All-append xs ys h.1 k)

  pub All-filter : (f : A → Bool) (xs : List A) → All P xs → All P (filter f xs)
  unfolding filter
  All-filter f [] h = tt
  All-filter f (x ∷ xs) h = cond_cases (All P) (f x) (λ e. (h.0, All-filter f xs h.1)) (λ e. All-filter f xs h.1)

  All-onto : (xs ys : List A) → All P xs → All P ys → All P (reverse_aux xs ys)
  All-onto [] ys h k = k
  All-onto (x ∷ xs) ys h k = All-onto xs (x ∷ ys) h.1 (h.0, k)

  pub All-reverse : (xs : List A) → All P xs → All P (reverse xs)
  All-reverse xs h = All-onto xs [] h tt

  -- from what is known index by index, as of a slice
  pub All-of : (d : A) (xs : List A) → ((i : ℕ) → i < length xs → P (get_or xs i d)) → All P xs
  All-of d [] h = tt
  All-of d (x ∷ xs) h = (h 0 (omega arith), All-of d xs (λ i l. h (suc i) (omega arith)))

-- what holds of every element holds of those of a list
pub All-every : {A : Type 0} {P : A → Type 0} → ((x : A) → P x) → (xs : List A) → All P xs
All-every h [] = tt
All-every h (x ∷ xs) = (h x, All-every h xs)

-- what passed a test passes it
pub All-passed : {A : Type 0} (f : A → Bool) (xs : List A) → All (λ x. f x ≡ true) (filter f xs)
unfolding filter
All-passed f [] = tt
All-passed f (x ∷ xs) = cond_cases (All (λ y. f y ≡ true)) (f x) (λ e. (e, All-passed f xs)) (λ e. All-passed f xs)

pub All-imply : {A : Type 0} (P Q : A → Type 0) → ((x : A) → P x → Q x) → (xs : List A) → All P xs → All Q xs
All-imply P Q h [] o = tt
All-imply P Q h (x ∷ xs) o = (h x o.0, All-imply P Q h xs o.1)

pub All-both : {A : Type 0} (P Q : A → Type 0) (xs : List A) → All P xs → All Q xs → All (λ x. P x × Q x) xs
All-both P Q [] o k = tt
All-both P Q (x ∷ xs) o k = ((o.0, k.0), All-both P Q xs o.1 k.1)

pub All-map : {A B : Type 0} (P : A → Type 0) (Q : B → Type 0) (f : A → B) → ((x : A) → P x → Q (f x)) → (xs : List A) → All P xs → All Q (map f xs)
All-map P Q f h [] o = tt
All-map P Q f h (x ∷ xs) o = (h x o.0, All-map P Q f h xs o.1)

pub All-gather : {A B : Type 0} (P : A → Type 0) (Q : B → Type 0) (f : A → List B) → ((x : A) → P x → All Q (f x)) → (xs : List A) → All P xs → All Q (gather f xs)
unfolding gather
All-gather P Q f h [] o = tt
All-gather P Q f h (x ∷ xs) o = All-append Q (f x) (gather f xs) (h x o.0) (All-gather P Q f h xs o.1)

-- ---- the same bytes
same_refl : (a : List ℕ) → same_bytes a a ≡ true
unfolding same_bytes
same_refl [] = refl
same_refl (x ∷ xs) = rw (eqb_same, same_refl xs) refl

pub equal_same : (a b : List ℕ) → a ≡ b → same_bytes a b ≡ true
equal_same a b q = subst (λ l. same_bytes a l ≡ true) q (same_refl a)

pub same_equal : (a b : List ℕ) → same_bytes a b ≡ true → a ≡ b
unfolding same_bytes
same_equal [] [] e = refl
same_equal [] (y ∷ ys) e = let z : ◌≡◌ {A = ℕ} 0 1 = cc in absurd (omega arith)
same_equal (x ∷ xs) [] e = let z : ◌≡◌ {A = ℕ} 0 1 = cc in absurd (omega arith)
same_equal (x ∷ xs) (y ∷ ys) e =
    let t = T_and (eqb x y) (same_bytes xs ys) (true_T e) in
    ap₂ ◌∷◌ (eqb→eq x y t.0) (same_equal xs ys (T_true (same_bytes xs ys) t.1))
