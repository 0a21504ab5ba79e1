-- Laws of links: entering an element, following the links, and searching along them.
use Rattle.std.specs.Prelude.{◌≡◌, Bool, true, false, cond, not, ◌≢◌, ℕ, ◌<◌, eqb}
use Rattle.std.proofs.Math.Path.{refl, sym, ap, subst}
use Rattle.std.proofs.Common.{◌∙◌, arith, eqb-true, eq-eqb}
use mathlib.Core.List.{List, [], ◌∷◌, ◌++◌}
use Rattle.spec_trees.specs.OptionLaws.{split, apart, cond_cases}
use Rattle.spec_trees.specs.Lists.{filter, all, All}
use Rattle.spec_trees.specs.FilterLaws.{filter_append, filter_same, all_same, filter_implied}
use Rattle.spec_stages.specs.Equivalence.{Equivalence}
use Rattle.key_index.specs.Links.{Spot, Ordered, Positive, passing, offset, first_of, none_of, Links, Follows, same_slot, Heads}
use Rattle.spec_stages.specs.EquivalenceLaws.{eqb_turned}

module _ {A : Type 0} where
  -- ---- the first that passes
  pub first_step : (f : A → Bool) (s : Spot A) (ss : List (Spot A)) → first_of f (s ∷ ss) ≡ cond (f s.1) s.0 (first_of f ss)
  unfolding first_of passing filter offset
  first_step f s ss = split (f s.1) (λ p. rw p refl) (λ p. rw p refl)

  pub first_same : (f g : A → Bool) → ((x : A) → f x ≡ g x) → (ss : List (Spot A)) → first_of f ss ≡ first_of g ss
  unfolding first_of passing
  first_same f g h ss = ap offset (filter_same (λ s. f s.1) (λ s. g s.1) (λ s. h s.1) ss)

  pub none_same : (f g : A → Bool) → ((x : A) → f x ≡ g x) → (ss : List (Spot A)) → none_of f ss ≡ none_of g ss
  none_same f g h ss = all_same (λ s. not (f s.1)) (λ s. not (g s.1)) (λ s. ap not (h s.1)) ss

  pub passing_append : (f : A → Bool) (ss rs : List (Spot A)) → passing f (ss ++ rs) ≡ passing f ss ++ passing f rs
  unfolding passing
  passing_append f ss rs = filter_append (λ s. f s.1) ss rs

  pub passing_none : (f : A → Bool) (ss : List (Spot A)) → none_of f ss ≡ true → passing f ss ≡ []
  unfolding all passing filter
  passing_none f [] n = refl
  passing_none f (s ∷ ss) n = split (f s.1) (λ p. apart n (rw p refl)) (λ p. rw p (passing_none f ss (rw p at n)))

  -- a joined list: none of the first part passes, or one does
  pub first_behind : (f : A → Bool) (ss rs : List (Spot A)) → none_of f ss ≡ true → first_of f (ss ++ rs) ≡ first_of f rs
  unfolding first_of
  first_behind f ss rs n = ap offset (passing_append f ss rs) ∙ ap (λ l. offset (l ++ passing f rs)) (passing_none f ss n)

  pub first_before : (f : A → Bool) (ss rs : List (Spot A)) → none_of f ss ≡ false → first_of f (ss ++ rs) ≡ first_of f ss
  unfolding all
  first_before f [] rs n = apart refl n
  first_before f (s ∷ ss) rs n =
      first_step f s (ss ++ rs)
      ∙ split (f s.1) (λ p. rw p refl) (λ p. rw p (first_before f ss rs (rw p at n)))
      ∙ sym (first_step f s ss)

  -- no offset is found exactly if none passes
  pub first_none : (f : A → Bool) (ss : List (Spot A)) → none_of f ss ≡ true → first_of f ss ≡ 0
  unfolding first_of offset
  first_none f ss n = ap offset (passing_none f ss n)

  pub none_first : (f : A → Bool) (ss : List (Spot A)) → Positive ss → first_of f ss ≡ 0 → none_of f ss ≡ true
  unfolding all
  none_first f [] o z = refl
  none_first f (s ∷ ss) o z =
      let c = sym (first_step f s ss) ∙ z in
      split (f s.1)
      (λ p. let y : s.0 ≡ 0 = rw p at c in let l = o.0 in absurd (omega arith))
      (λ p. rw p (none_first f ss o.1 (rw p at c)))

  -- ---- following links
  -- f holds of just those that are like any of which it holds: from the first of them, the links lead through all of them, in order
  pub follow_all : (e : A → A → Bool) (f : A → Bool) → ((x : A) → f x ≡ true → (y : A) → e x y ≡ f y) → (link : ℕ → ℕ) (ss : List (Spot A))
      → Links e link ss → Follows link (first_of f ss) (passing f ss)
  unfolding first_of passing filter offset
  follow_all e f q link [] h = refl
  follow_all e f q link (s ∷ ss) h =
      let ih = follow_all e f q link ss h.1 in
      split (f s.1)
      (λ p. rw p (refl, subst (λ o. Follows link o (passing f ss)) (sym (h.0 ∙ first_same (e s.1) f (q s.1 p) ss)) ih))
      (λ p. rw p ih)

  -- from an element: itself, and those behind it that are alike
  pub follow : (e : A → A → Bool) → Equivalence e → (link : ℕ → ℕ) (s : Spot A) (ss : List (Spot A))
      → Links e link (s ∷ ss) → Follows link s.0 (s ∷ passing (e s.1) ss)
  follow e q link s ss h =
      let like = follow_all e (e s.1) (λ x p y. sym (q.same s.1 x p y)) link ss h.1 in
      (refl, subst (λ o. Follows link o (passing (e s.1) ss)) (sym h.0) like)

  -- 0 ends the list, and any other offset is the first of it
  pub follow_ended : (link : ℕ → ℕ) (ss : List (Spot A)) → Positive ss → Follows link 0 ss → ss ≡ []
  follow_ended link [] o h = refl
  follow_ended link (s ∷ ss) o h = let l = o.0 in let z = h.0 in absurd (omega arith)

  pub follow_on : (link : ℕ → ℕ) (o : ℕ) (ss : List (Spot A)) → o ≢ 0 → Follows link o ss
      → (x : A) × (rest : List (Spot A)) × (ss ≡ (o, x) ∷ rest) × Follows link (link o) rest
  follow_on link o [] n h = absurd (n h)
  follow_on link o (s ∷ ss) n h = (
    s.1,
    ss,
    ap (λ p. (p, s.1) ∷ ss) (sym h.0),
    subst (λ p. Follows link (link p) ss) (sym h.0) h.1,
  )

  -- ---- searching along links
  -- what passes f passes g: only those that pass g need be tried
  pub first_within : (f g : A → Bool) → ((x : A) → f x ≡ true → g x ≡ true) → (ss : List (Spot A)) → first_of f (passing g ss) ≡ first_of f ss
  unfolding first_of passing
  first_within f g h ss = ap offset (filter_implied (λ s. f s.1) (λ s. g s.1) (λ s. h s.1) ss)

  module _ (slot : A → ℕ) where
    -- from the head of a number the links among those of equal numbers lead through all that have it
    pub chain : (n : ℕ) (heads link : ℕ → ℕ) (ss : List (Spot A)) → Heads slot n heads ss → Links (same_slot slot) link ss
        → (h : ℕ) → h < n → Follows link (heads h) (passing (λ x. eqb (slot x) h) ss)
    chain n heads link ss k ls h l =
        let like : (x : A) → eqb (slot x) h ≡ true → (y : A) → same_slot slot x y ≡ eqb (slot y) h
        = λ x p y. ap (λ m. eqb m (slot y)) (eqb-true (slot x) h p) ∙ eqb_turned h (slot y) in
        subst (λ o. Follows link o (passing (λ x. eqb (slot x) h) ss)) (sym (k h l)) (follow_all (same_slot slot) (λ x. eqb (slot x) h) like link ss ls)

    -- alike elements have the same number: the first on the chain that is like x is the first of all
    pub search : (e : A → A → Bool) → ((x y : A) → e x y ≡ true → slot x ≡ slot y) → (x : A) (ss : List (Spot A))
        → first_of (λ y. e y x) (passing (λ y. eqb (slot y) (slot x)) ss) ≡ first_of (λ y. e y x) ss
    search e k x ss = first_within (λ y. e y x) (λ y. eqb (slot y) (slot x)) (λ y h. eq-eqb (slot y) (slot x) (k y x h)) ss

  -- ---- entering a new first
  -- the others' links stay
  pub links_kept : (e : A → A → Bool) (link link' : ℕ → ℕ) (ss : List (Spot A)) → All (λ s. link' s.0 ≡ link s.0) ss
      → Links e link ss → Links e link' ss
  links_kept e link link' [] k h = tt
  links_kept e link link' (s ∷ ss) k h = (k.0 ∙ h.0, links_kept e link link' ss k.1 h.1)

  -- its own is the first of them that is alike
  pub entered_first : (e : A → A → Bool) (link link' : ℕ → ℕ) (s : Spot A) (ss : List (Spot A)) → All (λ r. link' r.0 ≡ link r.0) ss
      → link' s.0 ≡ first_of (e s.1) ss → Links e link ss → Links e link' (s ∷ ss)
  entered_first e link link' s ss k z h = (z, links_kept e link link' ss k h)

  pub entered_head : (slot : A → ℕ) (n : ℕ) (heads heads' : ℕ → ℕ) (s : Spot A) (ss : List (Spot A))
      → ((h : ℕ) → h < n → heads' h ≡ cond (eqb (slot s.1) h) s.0 (heads h)) → Heads slot n heads ss → Heads slot n heads' (s ∷ ss)
  entered_head slot n heads heads' s ss k hs h l =
      k h l ∙ ap (cond (eqb (slot s.1) h) s.0) (hs h l) ∙ sym (first_step (λ x. eqb (slot x) h) s ss)

  -- ---- parts of lists
  pub links_behind : (e : A → A → Bool) (link : ℕ → ℕ) (ss rs : List (Spot A)) → Links e link (ss ++ rs) → Links e link rs
  links_behind e link [] rs h = h
  links_behind e link (s ∷ ss) rs h = links_behind e link ss rs h.1

  module _ (R : ℕ → ℕ → Type 0) (through : (a b c : ℕ) → R a b → R b c → R a c) where
    ordered_from : (a b : ℕ) → R a b → (ss : List (Spot A)) → Ordered R b ss → Ordered R a ss
    ordered_from a b l [] o = tt
    ordered_from a b l (s ∷ ss) o = (through a b s.0 l o.0, o.1)

    -- those that pass keep the order
    pub ordered_passing : (f : A → Bool) (a : ℕ) (ss : List (Spot A)) → Ordered R a ss → Ordered R a (passing f ss)
    unfolding passing filter
    ordered_passing f a [] o = tt
    ordered_passing f a (s ∷ ss) o =
        cond_cases (Ordered R a) (f s.1)
        (λ p. (o.0, ordered_passing f s.0 ss o.1))
        (λ p. ordered_from a s.0 o.0 (passing f ss) (ordered_passing f s.0 ss o.1))
