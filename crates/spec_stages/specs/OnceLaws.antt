-- Laws of lists that hold each element once: what passes a test, what stands before another list, and what is ranked.
use Rattle.std.specs.Prelude.{◌≡◌, ◌↔◌, eqb}
use Rattle.std.proofs.Math.Path.{refl, sym, ap, ap₂}
use Rattle.std.proofs.Common.{◌∙◌, arith}
use mathlib.Core.List.{List, [], ◌∷◌, ◌++◌, append-nil}
use Rattle.std.proofs.Math.Bool.{Bool, true, false, not}
use Prim.Native.Nat.{ℕ, zero, suc, ◌≤◌, ◌<◌}
use borrow.Author.Tests.{eqb-true, eq-eqb, ne_eqb}
use Rattle.spec_trees.specs.OptionLaws.{split, apart}
use Rattle.spec_trees.specs.Lists.{filter, All, gather}
use Rattle.spec_trees.specs.ListLaws.{All-append, All-filter, All-every, All-passed, All-imply, All-gather}
use Rattle.spec_trees.specs.FilterLaws.{filter_append, filter_swap, filter_implied, filter_inside, filter_constant, gather_append, gather_same, filter_gather}
use Rattle.spec_stages.specs.Group.{upto}
use Rattle.spec_stages.specs.Keys.{without, once, ranked}

-- ---- numbers
upto_below : (n : ℕ) → All (λ m. m < n) (upto n)
unfolding upto
upto_below zero = tt
upto_below (suc n) =
    All-append (λ m. m < suc n) (upto n) (n ∷ []) (All-imply (λ m. m < n) (λ m. m < suc n) (λ m l. omega arith) (upto n) (upto_below n)) (omega arith, tt)

pub gather_upto : {B : Type 0} (f : ℕ → List B) (n : ℕ) → gather f (upto (suc n)) ≡ gather f (upto n) ++ f n
unfolding upto gather
gather_upto f n = gather_append f (upto n) (n ∷ []) ∙ ap (λ l. gather f (upto n) ++ l) (append-nil (f n))

-- ---- each once, where e tells equal elements
module _ {A : Type 0} (e : A → A → Bool) (tells : (x y : A) → (e x y ≡ true) ↔ (x ≡ y)) where
  pub All-once : (P : A → Type 0) (xs : List A) → All P xs → All P (once e xs)
  unfolding once without
  All-once P [] h = tt
  All-once P (x ∷ xs) h = (h.0, All-filter P (λ y. not (e x y)) (once e xs) (All-once P xs h.1))

  -- what passes of those that stand once, is once what passes
  once_filter : (f : A → Bool) (xs : List A) → filter f (once e xs) ≡ once e (filter f xs)
  unfolding once without filter
  once_filter f [] = refl
  once_filter f (x ∷ xs) = split (f x)
      (λ p. rw p (ap (λ l. x ∷ l) (filter_swap f (λ y. not (e x y)) (once e xs) ∙ ap (without e x) (once_filter f xs))))
      (λ p. rw p (filter_implied f (λ y. not (e x y)) (other p) (once e xs) ∙ once_filter f xs))
    where
      other : f x ≡ false → (y : A) → f y ≡ true → not (e x y) ≡ true
      other p y q = split (e x y) (λ z. apart q (ap f (sym ((tells x y).0 z)) ∙ p)) (λ z. ap not z)

  -- a list before another may stand once already
  once_before : (a b : List A) → once e (once e a ++ b) ≡ once e (a ++ b)
  unfolding once without
  once_before [] b = refl
  once_before (x ∷ a) b =
      let f : A → Bool = λ y. not (e x y) in
      ap (λ l. x ∷ l)
      (once_filter f (filter f (once e a) ++ b) ∙ ap (once e) (filter_inside f (once e a) b) ∙ sym (once_filter f (once e a ++ b))
      ∙ ap (without e x) (once_before a b))

  once_behind : (a b c : List A) → once e b ≡ once e c → once e (a ++ b) ≡ once e (a ++ c)
  unfolding once
  once_behind [] b c h = h
  once_behind (x ∷ a) b c h = ap (λ l. x ∷ without e x l) (once_behind a b c h)

  once_gather : {B : Type 0} (f : B → List A) (ks : List B) → once e (gather (λ k. once e (f k)) ks) ≡ once e (gather f ks)
  unfolding gather
  once_gather f [] = refl
  once_gather f (k ∷ ks) =
      once_before (f k) (gather (λ j. once e (f j)) ks) ∙ once_behind (f k) (gather (λ j. once e (f j)) ks) (gather f ks) (once_gather f ks)

  -- equal elements stand once
  pub once_equal : (x : A) (xs : List A) → All (λ y. e x y ≡ true) xs → once e (x ∷ xs) ≡ x ∷ []
  unfolding once without
  once_equal x xs h =
      let f : A → Bool = λ y. not (e x y) in
      let none_left = All-imply (λ y. e x y ≡ true) (λ y. f y ≡ false) (λ y z. ap not z) xs h in
      ap (λ l. x ∷ l) (filter_constant f false (once e xs) (All-once (λ y. f y ≡ false) xs none_left))

  -- ---- ranked
  module _ (f : A → ℕ) where
    abbrev at : ℕ → A → Bool
    at m x = eqb (f x) m

    pub All-ranked : (P : A → Type 0) (n : ℕ) (xs : List A) → All P xs → All P (ranked e f n xs)
    unfolding ranked
    All-ranked P n xs h =
        All-gather (λ m. m < n) P (λ m. once e (filter (at m) xs)) (λ m l. All-once P (filter (at m) xs) (All-filter P (at m) xs h)) (upto n) (upto_below n)

    -- one rank among those of one rank
    rank_here : (m : ℕ) (xs : List A) → filter (at m) (once e (filter (at m) xs)) ≡ once e (filter (at m) xs)
    rank_here m xs = once_filter (at m) (filter (at m) xs) ∙ ap (once e) (filter_implied (at m) (at m) (λ x z. z) xs)

    rank_other : (m j : ℕ) (xs : List A) → (m ≡ j → ⊥) → filter (at m) (once e (filter (at j) xs)) ≡ []
    unfolding once
    rank_other m j xs n =
        let differ : (x : A) → at j x ≡ true → at m x ≡ false = λ x z. ne_eqb (f x) m (λ q. n (sym q ∙ eqb-true (f x) j z)) in
        let ys = filter (at j) xs in
        once_filter (at m) ys
        ∙ ap (once e) (filter_constant (at m) false ys (All-imply (λ x. at j x ≡ true) (λ x. at m x ≡ false) differ ys (All-passed (at j) xs)))

    -- of what is ranked below n, one rank
    ranked_split : (m n : ℕ) (xs : List A)
        → filter (at m) (ranked e f (suc n) xs) ≡ filter (at m) (ranked e f n xs) ++ filter (at m) (once e (filter (at n) xs))
    unfolding ranked
    ranked_split m n xs =
        ap (filter (at m)) (gather_upto (λ j. once e (filter (at j) xs)) n) ∙ filter_append (at m) (ranked e f n xs) (once e (filter (at n) xs))

    ranked_above : (m n : ℕ) (xs : List A) → n ≤ m → filter (at m) (ranked e f n xs) ≡ []
    unfolding ranked upto gather filter
    ranked_above m zero xs l = refl
    ranked_above m (suc n) xs l = ranked_split m n xs ∙ ap₂ ◌++◌ (ranked_above m n xs (omega arith)) (rank_other m n xs (λ z. omega arith))

    ranked_at : (m n : ℕ) (xs : List A) → m < n → filter (at m) (ranked e f n xs) ≡ once e (filter (at m) xs)
    ranked_at m zero xs l = absurd (omega arith)
    ranked_at m (suc n) xs l = ranked_split m n xs ∙ split (eqb m n)
        (λ z. let q : m ≡ n = eqb-true m n z in ap₂ ◌++◌ (ranked_above m n xs (omega arith)) (rw q (rank_here n xs)))
        (λ z. let q : m ≡ n → ⊥ = λ q. apart (eq-eqb m n q) z in
        ap₂ ◌++◌ (ranked_at m n xs (omega arith)) (rank_other m n xs q) ∙ append-nil (once e (filter (at m) xs)))

    -- lists that are ranked already, ranked together
    module _ {B : Type 0} (n : ℕ) (g : B → List A) (ks : List B) where
      one_rank : (m : ℕ) → m < n → once e (filter (at m) (gather (λ k. ranked e f n (g k)) ks)) ≡ once e (filter (at m) (gather g ks))
      one_rank m l =
          let before : B → List A = λ k. filter (at m) (ranked e f n (g k)) in
          let behind : B → List A = λ k. once e (filter (at m) (g k)) in
          ap (once e) (filter_gather (at m) (λ k. ranked e f n (g k)) ks ∙ gather_same before behind ks (All-every (λ k. ranked_at m n (g k) l) ks))
          ∙ once_gather (λ k. filter (at m) (g k)) ks ∙ ap (once e) (sym (filter_gather (at m) g ks))

      pub ranked_gather : ranked e f n (gather (λ k. ranked e f n (g k)) ks) ≡ ranked e f n (gather g ks)
      unfolding ranked
      ranked_gather =
          let before : ℕ → List A = λ m. once e (filter (at m) (gather (λ k. ranked e f n (g k)) ks)) in
          let behind : ℕ → List A = λ m. once e (filter (at m) (gather g ks)) in
          gather_same before behind (upto n) (All-imply (λ m. m < n) (λ m. before m ≡ behind m) one_rank (upto n) (upto_below n))

    -- of what is ranked, the elements that are x
    pub ranked_equal : (x : A) (n : ℕ) (xs : List A) → f x < n → filter (e x) (ranked e f n xs) ≡ once e (filter (e x) xs)
    ranked_equal x n xs l =
        sym (filter_implied (e x) (at (f x)) alike (ranked e f n xs)) ∙ ap (filter (e x)) (ranked_at (f x) n xs l)
        ∙ once_filter (e x) (filter (at (f x)) xs) ∙ ap (once e) (filter_implied (e x) (at (f x)) alike xs)
      where
        alike : (y : A) → e x y ≡ true → at (f x) y ≡ true
        alike y z = eq-eqb (f y) (f x) (ap f (sym ((tells x y).0 z)))
