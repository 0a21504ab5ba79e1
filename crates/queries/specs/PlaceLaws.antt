-- The readers are right: the tag that stands at a place says which constructor stands there, and where its parts stand.
use Rattle.std.specs.Prelude.{◌≡◌, refl, List, [], ◌∷◌, map, Bool, true, false, cond, ℕ, ◌+◌, ◌*◌, ◌/◌, ◌%◌, ◌≤◌, length, T, eqb, leb}
use Rattle.std.proofs.Common.{sym, ap, ◌∙◌, take_all, leb→le, ne_eqb}
use Rattle.std.proofs.Math.Path.{subst}
use native.Mathlib.Omega.{arith}
use Rattle.std.proofs.Math.ListN.{get_or}
use Rattle.spec_trees.specs.Limits.{divisor_max}
use Rattle.spec_trees.specs.Bytes.{field_bytes, bytes, low, big, array_f}
use Rattle.areas.specs.Area.{Is, field_end, span}
use Rattle.areas.specs.declared.span.Span.{Span}
use Rattle.areas.specs.AreaLaws.{is_head, is_tail, is_tag, is_content}
use Rattle.spec_trees.specs.OptionLaws.{T_and}
use Rattle.format.specs.Stand.{Holds}
use Rattle.spec_queries.specs.Query.{Route, Criterion, always, exists, equal, same, negated, both, either, Data, literal, path, listed, test, choice, reduced, Datas, Item, keep, place, Pair, pair_with, Stage, match, unwind, project, group, lookup, is_divisor}
use Rattle.spec_queries.specs.Bytes.{path_f, route_f, criterion_f, divisor_f, data_f, data_fs, item_f, pair_tag, pair_f, pairs_f, stage_f, query_f, query_bytes}
use Rattle.spec_queries.specs.Rules.{OkD}
use Rattle.queries.specs.Places.{TagNot, path_bytes, route_bytes, array_trees, criterion_bytes, data_bytes, datas_bytes, item_bytes, items_bytes, pair_bytes, stage_bytes, stages_bytes, OnePart, TwoParts, ThreeParts, CriterionIs, ReadsCriterion, divisor_at, ReducedIs, DataIs, ReadsData, ItemIs, ReadsItem, GroupIs, LookupIs, StageIs, ReadsStage}
use Rattle.queries.specs.PartLaws.{two_inside, three_inside, one_whole, one_held, two_whole, two_held, two_mixed, three_whole}
use Rattle.queries.specs.declared.criterion.CriterionAt.{CriterionAt}
use Rattle.queries.specs.declared.data.DataAt.{DataAt}
use Rattle.queries.specs.declared.item.ItemAt.{ItemAt}
use Rattle.queries.specs.declared.stage.GroupAt.{GroupAt}
use Rattle.queries.specs.declared.stage.LookupAt.{LookupAt}
use Rattle.queries.specs.declared.stage.StageAt.{StageAt}

-- Below, m is where the first field inside ends, and n where the second does.

-- ---- criteria

-- the answer by the tag
abbrev pub criterion_tagged : (p m e tag : ℕ) → CriterionAt
criterion_tagged p m e tag =
    cond (eqb tag 33) CriterionAt.Always
    (cond (eqb tag 34) (CriterionAt.Exists (span (p + 3) e))
    (cond (eqb tag 37) (CriterionAt.Negated (span (p + 3) e))
    (cond (eqb tag 35) (CriterionAt.Equal (span (p + 3) m) (span (m + 3) e))
    (cond (eqb tag 36) (CriterionAt.Same (span (p + 3) m) (span m e))
    (cond (eqb tag 38) (CriterionAt.Both (span (p + 3) m) (span m e))
    (CriterionAt.Either (span (p + 3) m) (span m e)))))))

-- what an answer says, by cases
abbrev CriterionCase : (q : List ℕ) (at : Span) → Criterion → CriterionAt → Type 0
CriterionCase q at x CriterionAt.Always = x ≡ always
CriterionCase q at x (CriterionAt.Exists f) = OnePart exists route_bytes q at x f
CriterionCase q at x (CriterionAt.Equal f g) = TwoParts equal route_bytes array_trees q at x f g
CriterionCase q at x (CriterionAt.Same f g) = TwoParts same route_bytes route_bytes q at x f g
CriterionCase q at x (CriterionAt.Negated f) = OnePart negated criterion_bytes q at x f
CriterionCase q at x (CriterionAt.Both f g) = TwoParts both criterion_bytes criterion_bytes q at x f g
CriterionCase q at x (CriterionAt.Either f g) = TwoParts either criterion_bytes criterion_bytes q at x f g

criterion_is : {q : List ℕ} {p e : ℕ} {x : Criterion} {r : CriterionAt} → CriterionCase q (span p e) x r → CriterionIs q (span p e) x r
criterion_is {q} {p} {e} {x} h = record {
  always_is = λ z. subst (CriterionCase q (span p e) x) z h;
  exists_is = λ f z. subst (CriterionCase q (span p e) x) z h;
  equal_is = λ f g z. subst (CriterionCase q (span p e) x) z h;
  same_is = λ f g z. subst (CriterionCase q (span p e) x) z h;
  negated_is = λ f z. subst (CriterionCase q (span p e) x) z h;
  both_is = λ f g z. subst (CriterionCase q (span p e) x) z h;
  either_is = λ f g z. subst (CriterionCase q (span p e) x) z h;
}

criterion_case : {q : List ℕ} {p m e : ℕ} → m ≡ field_end q (p + 3) → (x : Criterion) → Is q p e (criterion_bytes x)
    → CriterionCase q (span p e) x (criterion_tagged p m e (criterion_f x).0)
unfolding criterion_f path_f array_f
criterion_case y always h = refl
criterion_case y (exists s) h = one_whole exists route_f 34 s h
criterion_case y (equal s a) h = two_mixed equal route_f array_f 35 s a y h
criterion_case y (same s s') h = two_whole same route_f route_f 36 s s' y h
criterion_case y (negated c) h = one_whole negated criterion_f 37 c h
criterion_case y (both c d) h = two_whole both criterion_f criterion_f 38 c d y h
criterion_case y (either c d) h = two_whole either criterion_f criterion_f 39 c d y h

-- right, wherever the tag stands
pub criterion_reads : (q : List ℕ) (p e : ℕ) {m tag : ℕ} → m ≡ field_end q (p + 3) → get_or q p 0 ≡ tag → ReadsCriterion q (span p e) (criterion_tagged p m e tag)
criterion_reads q p e {m} y z x h =
    criterion_is (subst (λ t. CriterionCase q (span p e) x (criterion_tagged p m e t)) (sym (is_tag (criterion_f x) h) ∙ z) (criterion_case y x h))

-- the last of them
pub criterion_reads_either : (q : List ℕ) (p e : ℕ) {m : ℕ} → m ≡ field_end q (p + 3) → TagNot q p 33 → TagNot q p 34 → TagNot q p 37
    → TagNot q p 35 → TagNot q p 36 → TagNot q p 38 → ReadsCriterion q (span p e) (CriterionAt.Either (span (p + 3) m) (span m e))
criterion_reads_either q p e {m} y a b c d f g =
    let t : ℕ = get_or q p 0 in
    let z : criterion_tagged p m e t ≡ CriterionAt.Either (span (p + 3) m) (span m e)
    = rw (ne_eqb t 33 a, ne_eqb t 34 b, ne_eqb t 37 c, ne_eqb t 35 d, ne_eqb t 36 f, ne_eqb t 38 g) refl in
    subst (ReadsCriterion q (span p e)) z (criterion_reads q p e y refl)

-- two parts have their heads
criterion_two : {q : List ℕ} {p m e : ℕ} (x : Criterion) → m ≡ field_end q (p + 3) → TagNot q p 33 → TagNot q p 34 → TagNot q p 37
    → Is q p e (criterion_bytes x) → (p + 6 ≤ m) × (m + 3 ≤ e)
unfolding criterion_f
criterion_two always y a b c h = absurd (a (is_tag (33, []) h))
criterion_two (exists s) y a b c h = absurd (b (is_tag (34, bytes (route_f s ∷ [])) h))
criterion_two (equal s v) y a b c h = let i = two_inside 35 (route_f s) (array_f v) y h in (i.after, i.within)
criterion_two (same s s') y a b c h = let i = two_inside 36 (route_f s) (route_f s') y h in (i.after, i.within)
criterion_two (negated d) y a b c h = absurd (c (is_tag (37, bytes (criterion_f d ∷ [])) h))
criterion_two (both d d') y a b c h = let i = two_inside 38 (criterion_f d) (criterion_f d') y h in (i.after, i.within)
criterion_two (either d d') y a b c h = let i = two_inside 39 (criterion_f d) (criterion_f d') y h in (i.after, i.within)

pub criterion_room : {q : List ℕ} {p m e : ℕ} → Holds criterion_bytes q p e → m ≡ field_end q (p + 3) → TagNot q p 33 → TagNot q p 34
    → TagNot q p 37 → (p + 6 ≤ m) × (m + 3 ≤ e) × (e ≤ length q)
criterion_room h y a b c = let r = criterion_two h.value y a b c h.value_is in (r.0, r.1, h.value_is.inside)

-- ---- the divisor, in two bytes
pub divisor_range : (d : ℕ) → T (is_divisor d) → (1 ≤ d) × (d ≤ divisor_max)
unfolding is_divisor
divisor_range d o = let b = T_and (leb 1 d) (leb d divisor_max) o in (leb→le 1 d b.0, leb→le d divisor_max b.1)

module _ {q : List ℕ} {m e : ℕ} (d : ℕ) (h : Is q m e (field_bytes (divisor_f d))) where
  pub divisor_room : m + 5 ≤ e
  unfolding divisor_f big low
  divisor_room = omega (arith, (is_content (divisor_f d) h).ends)

  -- any number's last two bytes
  divisor_bytes : divisor_at q m ≡ d / 256 % 256 * 256 + d % 256
  unfolding divisor_f big low
  divisor_bytes =
      let c : Is q (m + 3) e (d / 256 % 256 ∷ d % 256 ∷ []) = is_content (divisor_f d) h in
      let k : m + 3 + 1 ≡ m + 4 = omega arith in
      let l : get_or q (m + 4) 0 ≡ d % 256 = subst (λ i. get_or q i 0 ≡ d % 256) k (is_head (is_tail c)) in
      omega (arith, is_head c)

  pub divisor_is : T (is_divisor d) → divisor_at q m ≡ d
  divisor_is o = omega (arith, divisor_bytes, divisor_range d o)

-- ---- data
abbrev pub data_tagged : (p m n d e tag : ℕ) → DataAt
data_tagged p m n d e tag =
    cond (eqb tag 40) (DataAt.Literal (span (p + 6) e))
    (cond (eqb tag 41) (DataAt.Path (span (p + 3) e))
    (cond (eqb tag 42) (DataAt.Listed (span (p + 3) e))
    (cond (eqb tag 43) (DataAt.Test (span (p + 3) e))
    (cond (eqb tag 44) (DataAt.Choice (span (p + 3) m) (span m n) (span n e))
    (DataAt.Reduced (span (p + 3) m) d)))))

abbrev DataCase : (q : List ℕ) (at : Span) → Data → DataAt → Type 0
DataCase q at x (DataAt.Literal f) = OnePart literal array_trees q at x f
DataCase q at x (DataAt.Path f) = OnePart path route_bytes q at x f
DataCase q at x (DataAt.Listed f) = OnePart listed datas_bytes q at x f
DataCase q at x (DataAt.Test f) = OnePart test criterion_bytes q at x f
DataCase q at x (DataAt.Choice f g i) = ThreeParts choice criterion_bytes data_bytes data_bytes q at x f g i
DataCase q at x (DataAt.Reduced f n) = ReducedIs q at x f n

data_is : {q : List ℕ} {p e : ℕ} {x : Data} {r : DataAt} → DataCase q (span p e) x r → DataIs q (span p e) x r
data_is {q} {p} {e} {x} h = record {
  literal_is = λ f z. subst (DataCase q (span p e) x) z h;
  path_is = λ f z. subst (DataCase q (span p e) x) z h;
  listed_is = λ f z. subst (DataCase q (span p e) x) z h;
  test_is = λ f z. subst (DataCase q (span p e) x) z h;
  choice_is = λ f g i z. subst (DataCase q (span p e) x) z h;
  reduced_is = λ f n z. subst (DataCase q (span p e) x) z h;
}

reduced_case : {q : List ℕ} {p m d e : ℕ} → m ≡ field_end q (p + 3) → d ≡ divisor_at q m → (s : Route) (k : ℕ)
    → Is q p e (field_bytes (45, bytes (route_f s ∷ divisor_f k ∷ []))) → ReducedIs q (span p e) (reduced s k) (span (p + 3) m) d
unfolding path_f
reduced_case {q} {p} y w s k h =
    let i = two_inside 45 (route_f s) (divisor_f k) y h in
    record {
      source = s;
      divisor = k;
      same = refl;
      source_is = i.first_is;
      divisor_is = λ o. w ∙ divisor_is k i.second_is o.1;
      after = omega arith;
      within = omega (arith, i.within);
    }

-- the list's members stand where its content does
listed_case : {q : List ℕ} {p e : ℕ} (ds : Datas) → Is q p e (field_bytes (42, datas_bytes ds)) → OnePart listed datas_bytes q (span p e) (listed ds) (span (p + 3) e)
listed_case ds h = let c = is_content (42, datas_bytes ds) h in record { part = ds; same = refl; part_is = c; after = omega arith; within = omega arith }

data_case : {q : List ℕ} {p m n d e : ℕ} → m ≡ field_end q (p + 3) → n ≡ field_end q m → d ≡ divisor_at q m → (x : Data) → Is q p e (data_bytes x)
    → DataCase q (span p e) x (data_tagged p m n d e (data_f x).0)
unfolding data_f path_f array_f
data_case y z w (literal a) h = one_held literal array_f 40 a h
data_case y z w (path s) h = one_whole path route_f 41 s h
data_case y z w (listed ds) h = listed_case ds h
data_case y z w (test c) h = one_whole test criterion_f 43 c h
data_case y z w (choice c a b) h = three_whole choice criterion_f data_f data_f 44 c a b y z h
data_case y z w (reduced s k) h = reduced_case y w s k h

pub data_reads : (q : List ℕ) (p e : ℕ) {m n d tag : ℕ} → m ≡ field_end q (p + 3) → n ≡ field_end q m → d ≡ divisor_at q m → get_or q p 0 ≡ tag
    → ReadsData q (span p e) (data_tagged p m n d e tag)
data_reads q p e {m} {n} {d} y z w v x h =
    data_is (subst (λ t. DataCase q (span p e) x (data_tagged p m n d e t)) (sym (is_tag (data_f x) h) ∙ v) (data_case y z w x h))

-- the last of them
pub data_reads_reduced : (q : List ℕ) (p e : ℕ) {m d : ℕ} → m ≡ field_end q (p + 3) → d ≡ divisor_at q m → TagNot q p 40 → TagNot q p 41
    → TagNot q p 42 → TagNot q p 43 → TagNot q p 44 → ReadsData q (span p e) (DataAt.Reduced (span (p + 3) m) d)
data_reads_reduced q p e {m} {d} y w a b c f g =
    let t : ℕ = get_or q p 0 in
    let z : data_tagged p m (field_end q m) d e t ≡ DataAt.Reduced (span (p + 3) m) d
    = rw (ne_eqb t 40 a, ne_eqb t 41 b, ne_eqb t 42 c, ne_eqb t 43 f, ne_eqb t 44 g) refl in
    subst (ReadsData q (span p e)) z (data_reads q p e y refl w refl)

-- the divisor that is read of data that the rules allow: never 0
pub reduced_range : {q : List ℕ} {p e : ℕ} {x : Data} {f : Span} {n : ℕ} → ReducedIs q (span p e) x f n → OkD x → (1 ≤ n) × (n ≤ divisor_max)
reduced_range h o =
    let r = divisor_range h.divisor (subst OkD h.same o).1 in
    let z = h.divisor_is o in
    (omega (arith, r), omega (arith, r))

-- the parts of a choice or a reduced have their heads, and the divisor its bytes
pub record SeveralData (q : List ℕ) (p m e : ℕ) : Type 0 where
  pub after : p + 6 ≤ m
  pub choice_within : get_or q p 0 ≡ 44 → field_end q m + 3 ≤ e
  pub reduced_within : TagNot q p 44 → m + 5 ≤ e
  pub within : m + 3 ≤ e
  pub inside : e ≤ length q

data_several : {q : List ℕ} {p m e : ℕ} (x : Data) → m ≡ field_end q (p + 3) → TagNot q p 40 → TagNot q p 41 → TagNot q p 42
    → TagNot q p 43 → Is q p e (data_bytes x) → SeveralData q p m e
unfolding data_f
data_several (literal v) y a b c d h = absurd (a (is_tag (40, bytes (array_f v ∷ [])) h))
data_several (path s) y a b c d h = absurd (b (is_tag (41, bytes (route_f s ∷ [])) h))
data_several (listed ds) y a b c d h = absurd (c (is_tag (42, bytes (data_fs ds)) h))
data_several (test k) y a b c d h = absurd (d (is_tag (43, bytes (criterion_f k ∷ [])) h))
data_several (choice k u v) y a b c d h =
    let i = three_inside 44 (criterion_f k) (data_f u) (data_f v) y refl h in
    record {
      after = i.after;
      choice_within = λ z. i.within;
      reduced_within = λ z. absurd (z (is_tag (44, bytes (criterion_f k ∷ data_f u ∷ data_f v ∷ [])) h));
      within = omega arith;
      inside = h.inside;
    }
data_several (reduced s k) y a b c d h =
    let i = two_inside 45 (route_f s) (divisor_f k) y h in
    record {
      after = i.after;
      choice_within = λ z. absurd (omega (arith, is_tag (45, bytes (route_f s ∷ divisor_f k ∷ [])) h));
      reduced_within = λ z. divisor_room k i.second_is;
      within = i.within;
      inside = h.inside;
    }

pub data_room : {q : List ℕ} {p m e : ℕ} → Holds data_bytes q p e → m ≡ field_end q (p + 3) → TagNot q p 40 → TagNot q p 41
    → TagNot q p 42 → TagNot q p 43 → SeveralData q p m e
data_room h y a b c d = data_several h.value y a b c d h.value_is

-- ---- items
abbrev pub item_tagged : (p m e tag : ℕ) → ItemAt
item_tagged p m e tag = cond (eqb tag 47) (ItemAt.Keep (span (p + 3) e)) (ItemAt.Place (span (p + 3) m) (span m e))

abbrev ItemCase : (q : List ℕ) (at : Span) → Item → ItemAt → Type 0
ItemCase q at x (ItemAt.Keep f) = OnePart keep path_bytes q at x f
ItemCase q at x (ItemAt.Place f g) = TwoParts place data_bytes path_bytes q at x f g

item_is : {q : List ℕ} {p e : ℕ} {x : Item} {r : ItemAt} → ItemCase q (span p e) x r → ItemIs q (span p e) x r
item_is {q} {p} {e} {x} h = record {
  keep_is = λ f z. subst (ItemCase q (span p e) x) z h;
  place_is = λ f g z. subst (ItemCase q (span p e) x) z h;
}

item_case : {q : List ℕ} {p m e : ℕ} → m ≡ field_end q (p + 3) → (x : Item) → Is q p e (item_bytes x) → ItemCase q (span p e) x (item_tagged p m e (item_f x).0)
unfolding item_f path_f
item_case y (keep s) h = one_whole keep path_f 47 s h
item_case y (place d s) h = two_whole place data_f path_f 48 d s y h

pub item_reads : (q : List ℕ) (p e : ℕ) {m tag : ℕ} → m ≡ field_end q (p + 3) → get_or q p 0 ≡ tag → ReadsItem q (span p e) (item_tagged p m e tag)
item_reads q p e {m} y z x h =
    item_is (subst (λ t. ItemCase q (span p e) x (item_tagged p m e t)) (sym (is_tag (item_f x) h) ∙ z) (item_case y x h))

-- the last of them
pub item_reads_place : (q : List ℕ) (p e : ℕ) {m : ℕ} → m ≡ field_end q (p + 3) → TagNot q p 47 → ReadsItem q (span p e) (ItemAt.Place (span (p + 3) m) (span m e))
item_reads_place q p e {m} y a =
    let z : item_tagged p m e (get_or q p 0) ≡ ItemAt.Place (span (p + 3) m) (span m e) = rw (ne_eqb (get_or q p 0) 47 a) refl in
    subst (ReadsItem q (span p e)) z (item_reads q p e y refl)

item_two : {q : List ℕ} {p m e : ℕ} (x : Item) → m ≡ field_end q (p + 3) → TagNot q p 47 → Is q p e (item_bytes x) → (p + 6 ≤ m) × (m + 3 ≤ e)
unfolding item_f
item_two (keep s) y a h = absurd (a (is_tag (47, bytes (path_f s ∷ [])) h))
item_two (place d s) y a h = let i = two_inside 48 (data_f d) (path_f s) y h in (i.after, i.within)

pub item_room : {q : List ℕ} {p m e : ℕ} → Holds item_bytes q p e → m ≡ field_end q (p + 3) → TagNot q p 47 → (p + 6 ≤ m) × (m + 3 ≤ e) × (e ≤ length q)
item_room h y a = let r = item_two h.value y a h.value_is in (r.0, r.1, h.value_is.inside)

-- ---- pairs
pub pair_reads : {q : List ℕ} {p m e : ℕ} → m ≡ field_end q (p + 3) → (x : Pair) → Is q p e (pair_bytes x)
    → TwoParts (pair_with x.is_total) route_bytes path_bytes q (span p e) x (span (p + 3) m) (span m e)
unfolding pair_f path_f
pair_reads y x h = two_whole (pair_with x.is_total) route_f path_f (pair_tag x.is_total) x.source x.target y h

pub pair_room : {q : List ℕ} {p m e : ℕ} → Holds pair_bytes q p e → m ≡ field_end q (p + 3) → (p + 6 ≤ m) × (m + 3 ≤ e) × (e ≤ length q)
unfolding pair_f
pair_room h y =
    let i = two_inside (pair_tag h.value.is_total) (route_f h.value.source) (path_f h.value.target) y h.value_is in
    (i.after, i.within, h.value_is.inside)

-- only a total has the tag 54
total_tag : (b : Bool) → eqb (pair_tag b) 54 ≡ b
total_tag true = refl
total_tag false = refl

pub total_reads : {q : List ℕ} {p e : ℕ} → (x : Pair) → Is q p e (pair_bytes x) → eqb (get_or q p 0) 54 ≡ x.is_total
unfolding pair_f
total_reads x h = ap (λ t. eqb t 54) (is_tag (pair_f x) h) ∙ total_tag x.is_total

-- ---- stages
abbrev pub group_at : Span → Span → GroupAt
group_at a k = record { aggregates = a; keys = k }

abbrev pub lookup_at : Span → Span → Span → LookupAt
lookup_at f g h = record { own = f; theirs = g; target = h }

abbrev pub stage_tagged : (p m n e tag : ℕ) → StageAt
stage_tagged p m n e tag =
    cond (eqb tag 17) (StageAt.Match (span (p + 3) e))
    (cond (eqb tag 18) (StageAt.Unwind (span (p + 3) e))
    (cond (eqb tag 19) (StageAt.Project (span (p + 3) e))
    (cond (eqb tag 20) (StageAt.Group (group_at (span (p + 6) m) (span (m + 3) e)))
    (StageAt.Lookup (lookup_at (span (p + 3) m) (span m n) (span n e))))))

abbrev StageCase : (q : List ℕ) (at : Span) → Stage → StageAt → Type 0
StageCase q at x (StageAt.Match f) = OnePart match criterion_bytes q at x f
StageCase q at x (StageAt.Unwind f) = OnePart unwind path_bytes q at x f
StageCase q at x (StageAt.Project f) = OnePart project items_bytes q at x f
StageCase q at x (StageAt.Group f) = GroupIs q at x f
StageCase q at x (StageAt.Lookup f) = LookupIs q at x f

stage_is : {q : List ℕ} {p e : ℕ} {x : Stage} {r : StageAt} → StageCase q (span p e) x r → StageIs q (span p e) x r
stage_is {q} {p} {e} {x} h = record {
  match_is = λ f z. subst (StageCase q (span p e) x) z h;
  unwind_is = λ f z. subst (StageCase q (span p e) x) z h;
  project_is = λ f z. subst (StageCase q (span p e) x) z h;
  group_is = λ f z. subst (StageCase q (span p e) x) z h;
  lookup_is = λ f z. subst (StageCase q (span p e) x) z h;
}

-- a project's items stand where its content does
project_case : {q : List ℕ} {p e : ℕ} (is : List Item) → Is q p e (field_bytes (19, items_bytes is)) → OnePart project items_bytes q (span p e) (project is) (span (p + 3) e)
project_case is h = let c = is_content (19, items_bytes is) h in record { part = is; same = refl; part_is = c; after = omega arith; within = omega arith }

stage_case : {q : List ℕ} {p m n e : ℕ} → m ≡ field_end q (p + 3) → n ≡ field_end q m → (x : Stage) → Is q p e (stage_bytes x)
    → StageCase q (span p e) x (stage_tagged p m n e (stage_f x).0)
unfolding stage_f pairs_f path_f
stage_case y z (match c) h = one_whole match criterion_f 17 c h
stage_case y z (unwind s) h = one_whole unwind path_f 18 s h
stage_case y z (project is) h = project_case is h
stage_case y z (group a b) h = two_held group (pairs_f 50) (pairs_f 51) 20 a b y h
stage_case y z (lookup a b c) h = three_whole lookup route_f route_f path_f 21 a b c y z h

pub stage_reads : (q : List ℕ) (p e : ℕ) {m n tag : ℕ} → m ≡ field_end q (p + 3) → n ≡ field_end q m → get_or q p 0 ≡ tag → ReadsStage q (span p e) (stage_tagged p m n e tag)
stage_reads q p e {m} {n} y z v x h =
    stage_is (subst (λ t. StageCase q (span p e) x (stage_tagged p m n e t)) (sym (is_tag (stage_f x) h) ∙ v) (stage_case y z x h))

-- the last of them
pub stage_reads_lookup : (q : List ℕ) (p e : ℕ) {m n : ℕ} → m ≡ field_end q (p + 3) → n ≡ field_end q m → TagNot q p 17 → TagNot q p 18
    → TagNot q p 19 → TagNot q p 20 → ReadsStage q (span p e) (StageAt.Lookup (lookup_at (span (p + 3) m) (span m n) (span n e)))
stage_reads_lookup q p e {m} {n} y z a b c d =
    let t : ℕ = get_or q p 0 in
    let w : stage_tagged p m n e t ≡ StageAt.Lookup (lookup_at (span (p + 3) m) (span m n) (span n e))
    = rw (ne_eqb t 17 a, ne_eqb t 18 b, ne_eqb t 19 c, ne_eqb t 20 d) refl in
    subst (ReadsStage q (span p e)) w (stage_reads q p e y z refl)

-- the parts of a group or a lookup have their heads
pub record SeveralStage (q : List ℕ) (p m e : ℕ) : Type 0 where
  pub after : p + 6 ≤ m
  pub lookup_within : TagNot q p 20 → (m + 3 ≤ field_end q m) × (field_end q m + 3 ≤ e)
  pub within : m + 3 ≤ e
  pub inside : e ≤ length q

stage_several : {q : List ℕ} {p m e : ℕ} (x : Stage) → m ≡ field_end q (p + 3) → TagNot q p 17 → TagNot q p 18 → TagNot q p 19
    → Is q p e (stage_bytes x) → SeveralStage q p m e
unfolding stage_f
stage_several (match k) y a b c h = absurd (a (is_tag (17, bytes (criterion_f k ∷ [])) h))
stage_several (unwind s) y a b c h = absurd (b (is_tag (18, bytes (path_f s ∷ [])) h))
stage_several (project is) y a b c h = absurd (c (is_tag (19, bytes (map item_f is)) h))
stage_several (group u v) y a b c h =
    let i = two_inside 20 (pairs_f 50 u) (pairs_f 51 v) y h in
    record {
      after = i.after;
      lookup_within = λ z. absurd (z (is_tag (20, bytes (pairs_f 50 u ∷ pairs_f 51 v ∷ [])) h));
      within = i.within;
      inside = h.inside;
    }
stage_several (lookup s u v) y a b c h =
    let i = three_inside 21 (route_f s) (route_f u) (path_f v) y refl h in
    record {
      after = i.after;
      lookup_within = λ z. (i.between, i.within);
      within = omega arith;
      inside = h.inside;
    }

pub stage_room : {q : List ℕ} {p m e : ℕ} → Holds stage_bytes q p e → m ≡ field_end q (p + 3) → TagNot q p 17 → TagNot q p 18
    → TagNot q p 19 → SeveralStage q p m e
stage_room h y a b c = stage_several h.value y a b c h.value_is

-- ---- queries
is_all : (q : List ℕ) → Is q 0 (length q) q
is_all q = record { lies = take_all (length q) q (omega arith); ends = omega arith; inside = omega arith }

pub query_reads : (q : List ℕ) (ss : List Stage) → q ≡ query_bytes ss → Is q 3 (length q) (stages_bytes ss)
unfolding query_bytes query_f
query_reads q ss z = is_content (16, bytes (map stage_f ss)) (subst (Is q 0 (length q)) z (is_all q))
