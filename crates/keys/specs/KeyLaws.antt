-- Laws of keys where they stand: pair by pair.
use Rattle.std.specs.Prelude.{◌≡◌, List, [], ◌∷◌, Bool, false, ◌&&◌, ℕ, suc, ◌+◌, ◌*◌, ◌^◌, ◌≤◌, length}
use Rattle.std.proofs.Math.Path.{refl, sym, ap, subst}
use Rattle.std.proofs.Common.{◌∙◌, arith}
use Rattle.std.proofs.Math.Bool.{true, cond}
use Rattle.std.proofs.Math.Numerals.{unary_clauses}
use Rattle.spec_trees.specs.Limits.{grouping_max}
use Rattle.spec_trees.specs.Bytes.{tree_bytes}
use Rattle.areas.specs.Area.{field_end, IsAt, span}
use Rattle.format.specs.Stand.{Holds}
use Rattle.spec_queries.specs.Query.{Pair}
use Rattle.spec_queries.specs.Bytes.{pair_f}
use Rattle.queries.specs.Places.{route_bytes, pair_bytes, pairs_bytes, HoldsOk, PairIs, ReadsPair}
use Rattle.queries.specs.PartLaws.{list_parts, list_none}
use Rattle.queries.specs.declared.item.PairAt.{PairAt}
use Rattle.spec_stages.specs.Paths.{present, apply}
use Rattle.spec_stages.specs.Group.{key, same_key, sum, alike}
use Rattle.paths.specs.Walk.{Walk, Tells, application, EqualPaths}
use Rattle.paths.specs.WalkLaws.{walk_at}
use Rattle.keys.specs.Keys.{FewPairs, SourcedIs, SameSourceIs, SubsetIs, AlikeIs, SubsetsIs}

-- ---- the source of a pair
pub pair_source : {q : List ℕ} {p e : ℕ} {x : Pair} {r : PairAt} → PairIs q (span p e) x r → IsAt q r.source (route_bytes x.source)
pair_source {q} {r = r} k = subst (λ y. IsAt q r.source (route_bytes y)) (sym (ap (λ y. y.source) k.same)) k.first_is

module _ {q : List ℕ} {p e : ℕ} {r : PairAt} (reads : ReadsPair q (span p e) r) {s : List ℕ} {a b : ℕ} where
  pub pair_walk : Holds pair_bytes q p e → Holds tree_bytes s a b → Walk tree_bytes q r.source 0 s (span a b)
  pair_walk h k = walk_at h.value.source k.value (pair_source (reads h.value h.value_is)) k.value_is

  pub sourced_is : {o : Bool} → Tells q r.source 0 s (span a b) (λ y. o ≡ present y) → SourcedIs q (span p e) s (span a b) o
  sourced_is k x t g h = k x.source t (pair_source (reads x g)) h

  pub same_source_is : {s2 : List ℕ} {a2 b2 : ℕ} {o : Bool} → EqualPaths q s (application r.source (span a b)) s2 (application r.source (span a2 b2)) o
      → SameSourceIs q (span p e) s (span a b) s2 (span a2 b2) o
  same_source_is k x t u g ot h ou i = let l = pair_source (reads x g) in k x.source x.source t u l l ot h ou i

-- ---- the weights of few pairs are small

-- doubled for each pair, w does not pass 16
abbrev pub WeightFits : ℕ → List Pair → Type 0
WeightFits w [] = w ≤ 16
WeightFits w (x ∷ xs) = WeightFits (w + w) xs

fits_small : (w : ℕ) (gs : List Pair) → WeightFits w gs → w ≤ 16
fits_small w [] h = h
fits_small w (x ∷ xs) h = omega (arith, fits_small (w + w) xs h)

fits_few : (gs : List Pair) → length gs ≤ grouping_max → WeightFits 1 gs
fits_few [] h = omega arith
fits_few (a ∷ []) h = omega arith
fits_few (a ∷ b ∷ []) h = omega arith
fits_few (a ∷ b ∷ c ∷ []) h = omega arith
fits_few (a ∷ b ∷ c ∷ d ∷ []) h = omega arith
fits_few (a ∷ b ∷ c ∷ d ∷ e ∷ gs) h = absurd (omega arith)

pub weighed_first : {q : List ℕ} {g ge : ℕ} → HoldsOk FewPairs pairs_bytes q g ge → HoldsOk (WeightFits 1) pairs_bytes q g ge
weighed_first h = record { value = h.value; allowed = fits_few h.value h.allowed; value_is = h.value_is }

pub weighed_small : {q : List ℕ} {g ge w : ℕ} → HoldsOk (WeightFits w) pairs_bytes q g ge → w ≤ 16
weighed_small {w = w} h = fits_small w h.value h.allowed

pub weighed_next : {q : List ℕ} {at m ge w : ℕ} → (at ≡ ge → ⊥) → m ≡ field_end q at → HoldsOk (WeightFits w) pairs_bytes q at ge → HoldsOk (WeightFits (w + w)) pairs_bytes q m ge
weighed_next {w = w} n z h =
    let c = list_parts pair_f h.value z n h.value_is in
    record { value = c.rest; allowed = subst (WeightFits w) c.same h.allowed; value_is = c.rest_is }

-- ---- the sum: none, or the first pair and the rest
module _ (q : List ℕ) (at ge : ℕ) (s : List ℕ) (a b : ℕ) where
  subset_none : at ≡ ge → SubsetIs q (span at ge) s (span a b) 0
  unfolding sum key
  subset_none z gs t g h = subst (λ l. 0 ≡ sum (key l t)) (sym (list_none pair_f gs z g)) refl

  subset_next : {m : ℕ} {o : Bool} → (at ≡ ge → ⊥) → m ≡ field_end q at → SourcedIs q (span at m) s (span a b) o → (n : ℕ) → SubsetIs q (span m ge) s (span a b) n
      → SubsetIs q (span at ge) s (span a b) (cond o 1 0 + 2 * n)
  unfolding sum key
  subset_next k z i n j gs t g h =
      let c = list_parts pair_f gs z k g in
      ap (λ w. cond w 1 0 + 2 * n) (i c.first t c.first_is h)
      ∙ ap (λ w. cond (present (apply c.first.source t)) 1 0 + 2 * w) (j c.rest t c.rest_is h)
      ∙ sym (ap (λ l. sum (key l t)) c.same)

-- what is right for the pairs from `at` on, w each as much, is right for all
weight_doubled : (o : Bool) (c sum w n : ℕ) → c ≡ cond o w 0 → sum + w * (cond o 1 0 + 2 * n) ≡ (sum + c) + (w + w) * n
weight_doubled true c sum w n z = omega arith
weight_doubled false c sum w n z = omega arith

module _ (q : List ℕ) (g at ge : ℕ) (s : List ℕ) (a b total w : ℕ) (inv : (n : ℕ) → SubsetIs q (span at ge) s (span a b) n → SubsetIs q (span g ge) s (span a b) (total + w * n)) where
  pub subset_end : at ≡ ge → SubsetIs q (span g ge) s (span a b) total
  subset_end z = let y : total + w * 0 ≡ total = omega arith in subst (SubsetIs q (span g ge) s (span a b)) y (inv 0 (subset_none q at ge s a b z))

  pub subset_on : {m c : ℕ} {o : Bool} → (at ≡ ge → ⊥) → m ≡ field_end q at → SourcedIs q (span at m) s (span a b) o → c ≡ cond o w 0
      → (n : ℕ) → SubsetIs q (span m ge) s (span a b) n → SubsetIs q (span g ge) s (span a b) (total + c + (w + w) * n)
  subset_on {c = c} {o = o} k z i y n j =
      subst (SubsetIs q (span g ge) s (span a b)) (weight_doubled o c total w n y) (inv (cond o 1 0 + 2 * n) (subset_next q at ge s a b k z i n j))

-- before the first pair
pub subset_start : (q : List ℕ) (g ge : ℕ) (s : List ℕ) (a b n : ℕ) → SubsetIs q (span g ge) s (span a b) n → SubsetIs q (span g ge) s (span a b) (0 + 1 * n)
subset_start q g ge s a b n h = let y : n ≡ 0 + 1 * n = omega arith in subst (SubsetIs q (span g ge) s (span a b)) y h

-- ---- equal source values: none, or the first pair and the rest
module _ (q : List ℕ) (at ge : ℕ) (s : List ℕ) (a b : ℕ) (s2 : List ℕ) (a2 b2 : ℕ) where
  pub alike_none : at ≡ ge → AlikeIs q (span at ge) s (span a b) s2 (span a2 b2) true
  unfolding alike same_key key
  alike_none z gs t u g ot h ou i = subst (λ l. true ≡ alike l t u) (sym (list_none pair_f gs z g)) refl

  module _ {m : ℕ} {o : Bool} (k : at ≡ ge → ⊥) (z : m ≡ field_end q at) (d : SameSourceIs q (span at m) s (span a b) s2 (span a2 b2) o) where
    pub alike_other : o ≡ false → AlikeIs q (span at ge) s (span a b) s2 (span a2 b2) false
    unfolding alike same_key key
    alike_other y gs t u g ot h ou i =
        let c = list_parts pair_f gs z k g in
        sym (ap (λ w. w && alike c.rest t u) (sym (d c.first t u c.first_is ot h ou i) ∙ y)) ∙ sym (ap (λ l. alike l t u) c.same)

    pub alike_next : o ≡ true → (r : Bool) → AlikeIs q (span m ge) s (span a b) s2 (span a2 b2) r → AlikeIs q (span at ge) s (span a b) s2 (span a2 b2) r
    unfolding alike same_key key
    alike_next y r j gs t u g ot h ou i =
        let c = list_parts pair_f gs z k g in
        j c.rest t u c.rest_is ot h ou i
        ∙ sym (ap (λ w. w && alike c.rest t u) (sym (d c.first t u c.first_is ot h ou i) ∙ y)) ∙ sym (ap (λ l. alike l t u) c.same)

-- ---- the subsets: two for each pair, multiplied
doubled : (c n : ℕ) → n * (2 * c) ≡ (n + n) * c
doubled c n = omega arith

module _ (q : List ℕ) (g at h n : ℕ) (inv : (c : ℕ) → SubsetsIs q (span at h) c → SubsetsIs q (span g h) (n * c)) where
  pub subsets_end : at ≡ h → SubsetsIs q (span g h) n
  subsets_end z = let y : n * 1 ≡ n = omega arith in subst (SubsetsIs q (span g h)) y (inv 1 (λ gs k. subst (λ l. 1 ≡ 2 ^ length l) (sym (list_none pair_f gs z k)) refl))

  pub subsets_on : {m : ℕ} → (at ≡ h → ⊥) → m ≡ field_end q at → (c : ℕ) → SubsetsIs q (span m h) c → SubsetsIs q (span g h) ((n + n) * c)
  subsets_on {m} ne z c k = subst (SubsetsIs q (span g h)) (doubled c n) (inv (2 * c) twice)
    where
      twice : SubsetsIs q (span at h) (2 * c)
      twice gs y =
          let p = list_parts pair_f gs z ne y in
          ap (λ i. 2 * i) (k p.rest p.rest_is) ∙ power (length p.rest) ∙ sym (ap (λ l. 2 ^ length l) p.same)
        where
          power : (i : ℕ) → 2 * 2 ^ i ≡ 2 ^ suc i
          power i = simp unary_clauses (omega arith)

pub subsets_start : (q : List ℕ) (g h c : ℕ) → SubsetsIs q (span g h) c → SubsetsIs q (span g h) (1 * c)
subsets_start q g h c k = let y : c ≡ 1 * c = omega arith in subst (SubsetsIs q (span g h)) y k
