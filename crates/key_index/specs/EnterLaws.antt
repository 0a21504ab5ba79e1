-- Laws of entering an element behind all others: only the link of the last that is like it changes.
use Rattle.std.specs.Prelude.{◌≡◌, Bool, true, false, ℕ, ◌+◌, ◌≤◌, ◌<◌}
use Rattle.std.proofs.Math.Path.{refl, sym, ap, subst}
use Rattle.std.proofs.Common.{◌∙◌, arith}
use mathlib.Core.List.{List, [], ◌∷◌, ◌++◌, reverse, reverse_aux, append-nil}
use Rattle.std.proofs.Math.Bool.{cond}
use Rattle.spec_trees.specs.OptionLaws.{split, apart, cond_cases}
use Rattle.spec_trees.specs.Lists.{filter, all, All}
use Rattle.spec_stages.specs.Equivalence.{Equivalence}
use Rattle.std.proofs.Math.Logic.{inl, inr}
use Rattle.key_index.specs.Links.{Spot, Apart, Rising, passing, offset, first_of, none_of, Links, Entered}
use Rattle.spec_stages.specs.EquivalenceLaws.{turned}
use Rattle.key_index.specs.LinksLaws.{first_step, none_same, passing_append, passing_none, first_behind, first_before}

module _ {A : Type 0} where
  -- ---- the last that passes, or d
  last_from : ℕ → (A → Bool) → List (Spot A) → ℕ
  last_from d f [] = d
  last_from d f (s ∷ ss) = last_from (cond (f s.1) s.0 d) f ss

  last_onto : (f : A → Bool) (ss rs : List (Spot A)) → last_from (first_of f rs) f ss ≡ first_of f (reverse_aux ss rs)
  unfolding last_from
  last_onto f [] rs = refl
  last_onto f (s ∷ ss) rs = ap (λ d. last_from d f ss) (sym (first_step f s rs)) ∙ last_onto f ss (s ∷ rs)

  last_none : (d : ℕ) (f : A → Bool) (ss : List (Spot A)) → none_of f ss ≡ true → last_from d f ss ≡ d
  unfolding last_from all
  last_none d f [] n = refl
  last_none d f (s ∷ ss) n = split (f s.1) (λ p. apart n (rw p refl)) (λ p. rw p (last_none d f ss (rw p at n)))

  last_some : (g d a : ℕ) (f : A → Bool) (ss : List (Spot A)) → none_of f ss ≡ false → Rising g a ss → a + g ≤ last_from d f ss
  unfolding last_from all
  last_some g d a f [] n r = apart refl n
  last_some g d a f (s ∷ ss) n r =
      let r₀ = r.0 in
      split (none_of f ss)
      (λ m. split (f s.1) (λ p. rw (p, last_none s.0 f ss m) r₀) (λ p. apart m (rw p at n)))
      (λ m. let l = last_some g (cond (f s.1) s.0 d) s.0 f ss m r.1 in omega arith)

  rising_from : (g a c : ℕ) → a ≤ c → (ss : List (Spot A)) → Rising g c ss → Rising g a ss
  rising_from g a c l [] r = tt
  rising_from g a c l (s ∷ ss) r = let r₀ = r.0 in (omega arith, r.1)

  -- each offset is that of the last that passes, or apart from it
  apart_last : (g d : ℕ) (f : A → Bool) (ss : List (Spot A)) → Rising g d ss → All (λ s. Apart g s.0 (last_from d f ss)) ss
  unfolding last_from all
  apart_last g d f [] r = tt
  apart_last g d f (s ∷ ss) r =
      let r₀ = r.0 in
      let c = cond (f s.1) s.0 d in
      let l : c ≤ s.0 = cond_cases (λ k. k ≤ s.0) (f s.1) (λ p. omega arith) (λ p. omega arith) in
      let first : Apart g s.0 (last_from c f ss) =
      split (none_of f ss)
      (λ n. rw (last_none c f ss n) (cond_cases (Apart g s.0) (f s.1) (λ p. inl refl) (λ p. inr (inr r₀))))
      (λ n. inr (inl (last_some g c s.0 f ss n r.1)))
      in
      (first, apart_last g c f ss (rising_from g c s.0 l ss r.1))

  pub apart_found : (g : ℕ) (f : A → Bool) (ss : List (Spot A)) → Rising g 0 ss → All (λ s. Apart g s.0 (first_of f (reverse ss))) ss
  unfolding first_of passing filter offset
  apart_found g f ss r = subst (λ y. All (λ s. Apart g s.0 y) ss) (last_onto f ss []) (apart_last g 0 f ss r)

  -- ---- rising offsets
  pub rising_last : (g a : ℕ) (ss : List (Spot A)) (s : Spot A) → Rising g a (ss ++ (s ∷ [])) → a + g ≤ s.0
  rising_last g a [] s r = r.0
  rising_last g a (t ∷ ss) s r = let r₀ = r.0 in let l = rising_last g t.0 ss s r.1 in omega arith

  pub rising_left : (g a : ℕ) (ss rs : List (Spot A)) → Rising g a (ss ++ rs) → Rising g a ss
  rising_left g a [] rs r = tt
  rising_left g a (s ∷ ss) rs r = (r.0, rising_left g s.0 ss rs r.1)

  -- ---- an element at the end
  first_unlike : (f : A → Bool) (ss : List (Spot A)) (s : Spot A) → f s.1 ≡ false → first_of f (ss ++ (s ∷ [])) ≡ first_of f ss
  unfolding first_of all
  first_unlike f ss s p =
      ap offset (passing_append f ss (s ∷ []) ∙ ap (λ l. passing f ss ++ l) (passing_none f (s ∷ []) (rw p refl)) ∙ append-nil (passing f ss))

  first_alone : (f : A → Bool) (s : Spot A) → f s.1 ≡ true → first_of f (s ∷ []) ≡ s.0
  unfolding first_of passing filter offset
  first_alone f s p = rw p refl

  -- ---- x enters at b
  module _ (e : A → A → Bool) (q : Equivalence e) (g : ℕ) (z : 0 < g) (link link' : ℕ → ℕ) (x : A) (b y : ℕ) (m : Entered g link link' y b) where
    abbrev like_x : A → Bool
    like_x t = e t x

    -- one that is like x has those behind it that are like x
    like_same : (t : A) → like_x t ≡ true → (u : A) → e t u ≡ like_x u
    like_same t p u = q.same t x p u ∙ turned e q x u

    -- the link of s, behind which ss stand and then x; the last before s that is like x stands at d
    module _ (d : ℕ) (s : Spot A) (ss : List (Spot A)) (r : Rising g d ((s ∷ ss) ++ ((b, x) ∷ []))) (h : link s.0 ≡ first_of (e s.1) ss) where
      abbrev Relinked : Type 0
      Relinked = link' s.0 ≡ first_of (e s.1) (ss ++ ((b, x) ∷ []))

      -- one behind it is like x: then its link stays
      like_behind : (c : ℕ) → y ≡ last_from c like_x ss → none_of like_x ss ≡ false → link' s.0 ≡ first_of (e s.1) ss
      like_behind c w n =
          let l = last_some g c s.0 like_x ss n (rising_left g s.0 ss ((b, x) ∷ []) r.1) in
          m.before s.0 (omega arith) ∙ h

      -- it is the last that is like x: its link becomes b
      relinked_last : like_x s.1 ≡ true → y ≡ last_from s.0 like_x ss → none_of like_x ss ≡ true → Relinked
      relinked_last p w n =
          let v : y ≡ s.0 = w ∙ last_none s.0 like_x ss n in
          let r₀ = r.0 in
          subst (λ o. link' o ≡ b) v (m.linked (λ k. omega arith))
          ∙ sym (first_behind (e s.1) ss ((b, x) ∷ []) (none_same (e s.1) like_x (like_same s.1 p) ss ∙ n) ∙ first_alone (e s.1) (b, x) p)

      relinked_like : like_x s.1 ≡ true → y ≡ last_from s.0 like_x ss → Relinked
      relinked_like p w =
          split (none_of like_x ss)
          (relinked_last p w)
          (λ n. like_behind s.0 w n ∙ sym (first_before (e s.1) ss ((b, x) ∷ []) (none_same (e s.1) like_x (like_same s.1 p) ss ∙ n)))

      -- the last that is like x stands before it: its link stays
      like_before : y ≡ last_from d like_x ss → none_of like_x ss ≡ true → link' s.0 ≡ first_of (e s.1) ss
      like_before w n =
          let v : y ≡ d = w ∙ last_none d like_x ss n in
          let r₀ = r.0 in
          m.between s.0 (omega arith) (rising_last g s.0 ss (b, x) r.1) ∙ h

      relinked_unlike : like_x s.1 ≡ false → y ≡ last_from d like_x ss → Relinked
      relinked_unlike p w = split (none_of like_x ss) (like_before w) (like_behind d w) ∙ sym (first_unlike (e s.1) ss (b, x) p)

      relinked : y ≡ last_from d like_x (s ∷ ss) → Relinked
      unfolding last_from
      relinked w = split (like_x s.1) (λ p. relinked_like p (rw p at w)) (λ p. relinked_unlike p (rw p at w))

    -- one element after another: behind s the last that is like x stands at d or at s
    relinked_all : (d : ℕ) (ss : List (Spot A)) → Rising g d (ss ++ ((b, x) ∷ [])) → y ≡ last_from d like_x ss → Links e link ss
        → Links e link' (ss ++ ((b, x) ∷ []))
    unfolding last_from
    relinked_all d [] r w h = (m.ended ∙ sym (unfold first_of passing filter offset in refl), tt)
    relinked_all d (s ∷ ss) r w h =
        let c = cond (like_x s.1) s.0 d in
        let l : c ≤ s.0 = let r₀ = r.0 in cond_cases (λ k. k ≤ s.0) (like_x s.1) (λ p. omega arith) (λ p. omega arith) in
        (relinked d s ss r h.0 w, relinked_all c ss (rising_from g c s.0 l (ss ++ ((b, x) ∷ [])) r.1) w h.1)

  -- only the link of the last that is like x changes
  pub entered_next : (e : A → A → Bool) → Equivalence e → (g : ℕ) → 0 < g → (link link' : ℕ → ℕ) (ss : List (Spot A)) (b : ℕ) (x : A)
      → Rising g 0 (ss ++ ((b, x) ∷ [])) → Entered g link link' (first_of (λ t. e t x) (reverse ss)) b → Links e link ss
      → Links e link' (ss ++ ((b, x) ∷ []))
  unfolding first_of passing filter offset
  entered_next e q g z link link' ss b x r m h =
      relinked_all e q g z link link' x b (first_of (λ t. e t x) (reverse ss)) m 0 ss r (sym (last_onto (λ t. e t x) ss [])) h
