-- Laws of the index over elements one behind another: an element enters, its like is searched, a class is followed.
use Rattle.std.specs.Prelude.{◌≡◌, refl, List, [], ◌∷◌, ◌++◌, reverse, Bool, true, false, ◌≢◌, ℕ, ◌+◌, ◌≤◌, ◌<◌}
use Rattle.std.proofs.Common.{sym, ap, subst, ◌∙◌}
use Rattle.std.proofs.lemmas.List.{reverse-append}
use native.Mathlib.Omega.{arith}
use Rattle.std.proofs.Math.Dec.{eqb}
use Rattle.spec_trees.specs.Lists.{filter, All}
use Rattle.spec_trees.specs.ListLaws.{All-imply, All-reverse, All-filter, All-right}
use Rattle.spec_stages.specs.Equivalence.{Equivalence}
use Rattle.key_index.specs.Links.{Spot, spots, end, elements, up, down, Ordered, Rising, passing, offset, first_of, Links, Follows, same_slot, Heads, Walk, Indexed, Stored}
use Rattle.spec_stages.specs.EquivalenceLaws.{eqb_turned}
use Rattle.key_index.specs.LinksLaws.{first_step, first_same, follow, follow_on, follow_ended, chain, entered_first, entered_head, links_behind, ordered_passing}
use Rattle.key_index.specs.EnterLaws.{rising_last, entered_next}
use Rattle.key_index.specs.SpotsLaws.{elements_passing, ordered_reverse, spots_append, spots_elements, spots_rising, end_from}

module _ {A : Type 0} where
  -- ---- walks
  module _ (P : Spot A → Type 0) (R : ℕ → ℕ → Type 0) (link : ℕ → ℕ) (a o : ℕ) (ss : List (Spot A)) (w : Walk P R link a o ss) where
    -- at 0 nothing is left
    pub walk_ended : ((s : Spot A) → P s → 0 < s.0) → o ≡ 0 → ss ≡ []
    walk_ended p z = follow_ended link ss (All-imply P (λ s. 0 < s.0) p ss w.holds) (subst (λ n. Follows link n ss) z w.follows)

    -- elsewhere an element of the list stands, the first that is left
    pub walk_on : o ≢ 0 → (x : A) × (rest : List (Spot A)) × (ss ≡ (o, x) ∷ rest) × P (o, x) × R a o × Walk P R link o (link o) rest
    walk_on n =
        let f = follow_on link o ss n w.follows in
        let h = subst (All P) f.2 w.holds in
        let r = subst (Ordered R a) f.2 w.ordered in
        (f.0, f.1, f.2, h.0, r.0, record { follows = f.3; holds = h.1; ordered = r.1 })

    -- ---- a search along the walk, for the first that passes f, at y
    pub search_ended : (f : A → Bool) (y : ℕ) → first_of f ss ≡ y → ((s : Spot A) → P s → 0 < s.0) → o ≡ 0 → y ≡ 0
    search_ended f y v p z = sym v ∙ ap (first_of f) (walk_ended p z) ∙ (unfold first_of passing filter offset in refl)

    -- the element at o passes and is the one, or the search goes on
    pub search_on : (f : A → Bool) (y : ℕ) → first_of f ss ≡ y → o ≢ 0
        → (x : A) × (rest : List (Spot A)) × P (o, x) × R a o × Walk P R link o (link o) rest × (f x ≡ true → y ≡ o) × (f x ≡ false → first_of f rest ≡ y)
    search_on f y v n =
        let (x, rest, z, p, r, w') = walk_on n in
        let c = sym (first_step f (o, x) rest) ∙ ap (first_of f) (sym z) ∙ v in
        (x, rest, p, r, w', λ h. sym (rw h at c), λ h. rw h at c)

  -- a walk down
  pub walk_down : (P : Spot A → Type 0) (g : ℕ) (link : ℕ → ℕ) (a o : ℕ) (ss : List (Spot A)) → Walk P (down g) link a o ss → 0 < g → 0 < a → o < a
  walk_down P g link a o [] w z l = let k = w.follows in omega arith
  walk_down P g link a o (s ∷ ss) w z l = let k = w.follows.0 in let r = w.ordered.0 in omega arith

  -- ---- an element enters
  pub rising_below : (g a : ℕ) (ss : List (Spot A)) (s : Spot A) → Rising g a (ss ++ (s ∷ [])) → All (λ r. r.0 + g ≤ s.0) ss
  rising_below g a [] s r = tt
  rising_below g a (t ∷ ss) s r = (rising_last g t.0 ss s r.1, rising_below g t.0 ss s r.1)

  module _ (e : A → A → Bool) (q : Equivalence e) (slot : A → ℕ) (n g : ℕ) (ss : List (Spot A)) (x : A) (l : slot x < n) (next back heads : ℕ → ℕ)
      (i : Indexed e slot n next back heads ss) where
    pub index_entered : 0 < g → (b : ℕ) (next' back' heads' : ℕ → ℕ) → Rising g 0 (ss ++ ((b, x) ∷ []))
        → Stored e slot n g ss b x next back heads next' back' heads' → Indexed e slot n next' back' heads' (ss ++ ((b, x) ∷ []))
    index_entered z b next' back' heads' r m =
        let turn = sym (reverse-append ss ((b, x) ∷ [])) in
        let stay = All-reverse (λ s. back' s.0 ≡ back s.0) ss m.backs_stay in
        let first = i.tops (slot x) l ∙ first_same (λ u. eqb (slot u) (slot x)) (same_slot slot x) (λ u. eqb_turned (slot u) (slot x)) (reverse ss) in
        let backs' = entered_first (same_slot slot) back back' (b, x) (reverse ss) stay (m.back_set ∙ first) i.backs in
        let tops' = entered_head slot n heads heads' (b, x) (reverse ss) m.tops i.tops in
        record {
          nexts = entered_next e q g z next next' ss b x r m.nexts i.nexts;
          backs = subst (Links (same_slot slot) back') turn backs';
          tops = subst (Heads slot n heads') turn tops';
        }

    -- the links back from the head of the number of x lead through those entered that have it, the last first
    pub index_walk : (P : Spot A → Type 0) → All P ss → (b : ℕ) → Rising g 0 (ss ++ ((b, x) ∷ []))
        → Walk P (down g) back b (heads (slot x)) (passing (λ t. eqb (slot t) (slot x)) (reverse ss))
    unfolding passing
    index_walk P h b r = record {
      follows = chain slot n heads back (reverse ss) i.tops i.backs (slot x) l;
      holds = All-filter P (λ s. eqb (slot s.1) (slot x)) (reverse ss) (All-reverse P ss h);
      ordered = ordered_passing (down g) (λ a b c p q. omega arith) (λ t. eqb (slot t) (slot x)) b (reverse ss) (ordered_reverse (up g) b x 0 ss r);
    }

-- ---- elements one behind another, none smaller than g
module _ {A : Type 0} (e : A → A → Bool) (q : Equivalence e) (size : A → ℕ) (g : ℕ) (z : 0 < g) (least : (x : A) → g ≤ size x) (a : ℕ) (l : g ≤ a) where
  spots_behind : (ts : List A) (x : A) → spots size a (ts ++ (x ∷ [])) ≡ spots size a ts ++ ((end size a ts, x) ∷ [])
  unfolding spots
  spots_behind ts x = spots_append size a ts (x ∷ [])

  pub rising_behind : (ts : List A) (x : A) → Rising g 0 (spots size a ts ++ ((end size a ts, x) ∷ []))
  rising_behind ts x = subst (Rising g 0) (spots_behind ts x) (spots_rising size g least 0 a (omega arith) (ts ++ (x ∷ [])))

  -- x enters behind ts
  pub spots_entered : (slot : A → ℕ) (n : ℕ) (next back heads next' back' heads' : ℕ → ℕ) (ts : List A) (x : A) → slot x < n
      → Indexed e slot n next back heads (spots size a ts)
      → Stored e slot n g (spots size a ts) (end size a ts) x next back heads next' back' heads'
      → Indexed e slot n next' back' heads' (spots size a (ts ++ (x ∷ [])))
  spots_entered slot n next back heads next' back' heads' ts x k i m =
      subst (Indexed e slot n next' back' heads') (sym (spots_behind ts x))
      (index_entered e q slot n g (spots size a ts) x k next back heads i z (end size a ts) next' back' heads' (rising_behind ts x) m)

  -- the class of t, which stands behind seen: t, and those behind it that are alike
  module _ (seen : List A) (t : A) (ts : List A) where
    from_t : spots size a (seen ++ (t ∷ ts)) ≡ spots size a seen ++ ((end size a seen, t) ∷ spots size (end size a seen + size t) ts)
    unfolding spots
    from_t = spots_append size a seen (t ∷ ts)

    -- a walk along the links lists it
    pub class_walk : (next : ℕ → ℕ) (P : Spot A → Type 0) → All P (spots size a (seen ++ (t ∷ ts))) → Links e next (spots size a (seen ++ (t ∷ ts)))
        → Walk P (up g) next 0 (end size a seen) ((end size a seen, t) ∷ passing (e t) (spots size (end size a seen + size t) ts))
    unfolding passing
    class_walk next P h ls =
        let o = end size a seen in
        let rest = spots size (o + size t) ts in
        let h' = All-right P (spots size a seen) ((o, t) ∷ rest) (subst (All P) from_t h) in
        let ls' = links_behind e next (spots size a seen) ((o, t) ∷ rest) (subst (Links e next) from_t ls) in
        let high = end_from size a seen in
        let rising = spots_rising size g least o (o + size t) (let m = least t in omega arith) ts in
        record {
          follows = follow e q next (o, t) rest ls';
          holds = (h'.0, All-filter P (λ s. e t s.1) rest h'.1);
          ordered = (omega arith, ordered_passing (up g) (λ b c d p r. omega arith) (e t) o rest rising);
        }

    pub class_elements : elements ((end size a seen, t) ∷ passing (e t) (spots size (end size a seen + size t) ts)) ≡ t ∷ filter (e t) ts
    class_elements =
        let o = end size a seen + size t in
        ap (λ l. t ∷ l) (elements_passing (e t) (spots size o ts) ∙ ap (filter (e t)) (spots_elements size o ts))
