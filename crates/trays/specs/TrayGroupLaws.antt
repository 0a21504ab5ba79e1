-- Laws of the search for a tray group: destination by destination, no total, and the query that is one such group alone.
use Rattle.std.proofs.Math.Path.{◌≡◌, refl, sym, ap, subst}
use Rattle.std.proofs.Common.{◌∙◌, arith}
use mathlib.Core.List.{List, [], ◌∷◌, ◌++◌}
use Rattle.std.specs.Prelude.{Bool, ◌&&◌, ℕ, ◌+◌, ◌≤◌, length, get_or, eqb, Some, None, Option}
use Rattle.std.proofs.Math.Bool.{true, false, not}
use Rattle.std.proofs.Math.Option.{none, some}
use borrow.Author.Tests.{eq-eqb, ne_eqb}
use Rattle.spec_trees.specs.Options.{only}
use Rattle.spec_trees.specs.Lists.{all, All}
use Rattle.spec_trees.specs.Bytes.{bytes}
use Rattle.spec_queries.specs.Query.{Path, Pair, Stage, match, unwind, project, group, lookup}
use Rattle.spec_queries.specs.Bytes.{pair_f, stage_f, query_bytes}
use Rattle.spec_queries.specs.Rules.{OkP⁺, OkPair, OkS, OkQ}
use Rattle.spec_queries.specs.Again.{leads, distinct_targets, no_totals, regroups, regrouped, regrouping}
use Rattle.areas.specs.Area.{Is, IsAt, field_end, span}
use Rattle.areas.specs.declared.span.Span.{Span}
use Rattle.format.specs.Stand.{Holds}
use Rattle.queries.specs.Places.{path_bytes, pair_bytes, pairs_bytes, stage_bytes, stages_bytes, HoldsAt, HoldsOk, OkAt, PairIs, ReadsPair, TotalIs, group_of, ReadsStage, ReadsQuery, Pairs}
use Rattle.queries.specs.PartLaws.{list_parts, list_none, holds_of}
use Rattle.queries.specs.Steps.{step_count, step_at, StepInside}
use Rattle.queries.specs.StepLaws.{steps_are, step_is, step_inside, path_room}
use Rattle.queries.specs.declared.item.PairAt.{PairAt}
use Rattle.queries.specs.declared.stage.GroupAt.{GroupAt}
use Rattle.queries.specs.declared.stage.StageAt.{StageAt}
use Rattle.paths.specs.ComparedLaws.{is_none}
use Rattle.trays.specs.TrayGroup.{none_leads, alone, apart, NoneLeadsIs, AloneIs, ApartIs, NoTotalsIs, GroupStands, DistinctIs, RegroupsIs, QueryForm, IsTrayGroup, TrayGroupIs}
use Rattle.trays.specs.TargetLaws.{leads_both, distinct_parts}

-- ---- the destination of a pair
pub pair_target : {q : List ℕ} {p e : ℕ} {x : Pair} {r : PairAt} → PairIs q (span p e) x r → IsAt q r.target (path_bytes x.target)
pair_target {q} {r = r} k = subst (λ y. IsAt q r.target (path_bytes y)) (sym (ap (λ y. y.target) k.same)) k.second_is

lead_is : {q : List ℕ} {at : Span} (k : ℕ) (p : Path) → OkP⁺ p → IsAt q at (path_bytes p) → leads k p ≡ eqb k (step_at q at 0)
unfolding leads
lead_is k [] o h = absurd (omega (arith, o.1))
lead_is k (j ∷ p) o h = ap (eqb k) (sym (step_is (j ∷ p) h 0 (omega arith)))

-- the first step of an allowed destination can be read
pub lead_inside : {q : List ℕ} {at : Span} → OkAt OkP⁺ path_bytes q at → StepInside q at 0
lead_inside h = step_inside h.value h.value_is 0 (omega (arith, h.allowed.1))

pub target_room : {q : List ℕ} {at : Span} → OkAt OkP⁺ path_bytes q at → (at.from + 3 ≤ at.to) × (at.to ≤ length q)
target_room h = path_room h.value h.value_is

-- ---- pairs, one after another
module _ {q : List ℕ} {at m e : ℕ} (n : at ≡ e → ⊥) (z : m ≡ field_end q at) where
  pub first_target : {x : PairAt} → ReadsPair q (span at m) x → HoldsOk (All OkPair) pairs_bytes q at e → OkAt OkP⁺ path_bytes q x.target
  first_target reads h =
      let c = list_parts pair_f h.value z n h.value_is in
      record {
        value = c.first.target;
        allowed = (subst (All OkPair) c.same h.allowed).0.1;
        value_is = pair_target (reads c.first c.first_is);
      }

-- ---- no destination begins with k
module _ (q : List ℕ) (at e k : ℕ) where
  pub none_end : at ≡ e → NoneLeadsIs q (span at e) k true
  unfolding none_leads all
  none_end z ps o h = sym (ap (none_leads k) (list_none pair_f ps z h))

  module _ {m : ℕ} {x : PairAt} {s : ℕ} (n : at ≡ e → ⊥) (z : m ≡ field_end q at) (reads : ReadsPair q (span at m) x) (y : s ≡ step_at q x.target 0) where
    none_first : (p : Pair) → OkPair p → Is q at m (pair_bytes p) → leads k p.target ≡ eqb k s
    none_first p o h = lead_is k p.target o.1 (pair_target (reads p h)) ∙ ap (eqb k) (sym y)

    pub none_found : s ≡ k → NoneLeadsIs q (span at e) k false
    unfolding none_leads all
    none_found l ps o h =
        let c = list_parts pair_f ps z n h in
        let d = subst (All OkPair) c.same o in
        let f : leads k c.first.target ≡ true = none_first c.first d.0 c.first_is ∙ eq-eqb k s (sym l) in
        sym (ap (none_leads k) c.same ∙ ap (λ b. not b && none_leads k c.rest) f)

    pub none_next : (s ≡ k → ⊥) → (r : Bool) → NoneLeadsIs q (span m e) k r → NoneLeadsIs q (span at e) k r
    unfolding none_leads all
    none_next l r i ps o h =
        let c = list_parts pair_f ps z n h in
        let d = subst (All OkPair) c.same o in
        let f : leads k c.first.target ≡ false = none_first c.first d.0 c.first_is ∙ ne_eqb k s (λ g. l (sym g)) in
        i c.rest d.1 c.rest_is ∙ sym (ap (none_leads k) c.same ∙ ap (λ b. not b && none_leads k c.rest) f)

-- ---- one destination
not_single : (p : Path) (ps : List Pair) → (length p ≡ 1 → ⊥) → alone p ps ≡ false
unfolding alone
not_single [] ps n = refl
not_single (k ∷ []) ps n = absurd (n refl)
not_single (k ∷ j ∷ p) ps n = refl

single : (p : Path) (ps : List Pair) → length p ≡ 1 → alone p ps ≡ none_leads (get_or p 0 0) ps
unfolding alone
single [] ps n = absurd (omega arith)
single (k ∷ []) ps n = refl
single (k ∷ j ∷ p) ps n = absurd (omega arith)

module _ {q : List ℕ} {t : Span} {s : ℕ} (y : s ≡ step_count q t) where
  pub alone_not : {b o : Span} → (s ≡ 1 → ⊥) → AloneIs q t b o false
  alone_not n p ps qs h op hp oq hq = sym (not_single p (ps ++ qs) (λ l. n (y ∙ steps_are p h ∙ l)))

  module _ (l : s ≡ 1) {k : ℕ} (x : k ≡ step_at q t 0) where
    alone_is : (p : Path) (ps qs : List Pair) → IsAt q t (path_bytes p) → alone p (ps ++ qs) ≡ none_leads k ps && none_leads k qs
    alone_is p ps qs h =
        let c : length p ≡ 1 = sym (steps_are p h) ∙ sym y ∙ l in
        single p (ps ++ qs) c ∙ ap (λ i. none_leads i (ps ++ qs)) (sym (x ∙ step_is p h 0 (omega (arith, c)))) ∙ leads_both k ps qs

    pub alone_behind : {b o : Span} {r : Bool} → NoneLeadsIs q b k r → r ≡ false → AloneIs q t b o false
    alone_behind i z p ps qs h op hp oq hq =
        sym (alone_is p ps qs h ∙ ap (λ c. c && none_leads k qs) (sym (i ps op hp) ∙ z))

    pub alone_others : {b o : Span} {r : Bool} → NoneLeadsIs q b k r → r ≡ true → {u : Bool} → NoneLeadsIs q o k u → AloneIs q t b o u
    alone_others i z j p ps qs h op hp oq hq =
        j qs oq hq ∙ sym (alone_is p ps qs h ∙ ap (λ c. c && none_leads k qs) (sym (i ps op hp) ∙ z))

-- ---- all destinations
module _ (q : List ℕ) (at e : ℕ) (o : Span) where
  pub apart_end : at ≡ e → ApartIs q (span at e) o true
  unfolding apart
  apart_end z ps qs op hp oq hq = sym (ap (λ l. apart l qs) (list_none pair_f ps z hp))

  module _ {m : ℕ} {x : PairAt} {s : Bool} (n : at ≡ e → ⊥) (z : m ≡ field_end q at) (reads : ReadsPair q (span at m) x) (i : AloneIs q x.target (span m e) o s) where
    apart_first : (ps qs : List Pair) (op : All OkPair ps) (hp : Is q at e (pairs_bytes ps)) → All OkPair qs → IsAt q o (pairs_bytes qs)
        → let c = list_parts pair_f ps z n hp in apart ps qs ≡ s && apart c.rest qs
    unfolding apart
    apart_first ps qs op hp oq hq =
        let c = list_parts pair_f ps z n hp in
        let d = subst (All OkPair) c.same op in
        ap (λ l. apart l qs) c.same
        ∙ ap (λ b. b && apart c.rest qs) (sym (i c.first.target c.rest qs (pair_target (reads c.first c.first_is)) d.1 c.rest_is oq hq))

    pub apart_not : s ≡ false → ApartIs q (span at e) o false
    apart_not y ps qs op hp oq hq = let c = list_parts pair_f ps z n hp in sym (apart_first ps qs op hp oq hq ∙ ap (λ b. b && apart c.rest qs) y)

    pub apart_next : s ≡ true → (r : Bool) → ApartIs q (span m e) o r → ApartIs q (span at e) o r
    apart_next y r j ps qs op hp oq hq =
        let c = list_parts pair_f ps z n hp in
        let d = subst (All OkPair) c.same op in
        j c.rest qs d.1 c.rest_is oq hq ∙ sym (apart_first ps qs op hp oq hq ∙ ap (λ b. b && apart c.rest qs) y)

-- ---- no total
module _ (q : List ℕ) (at e : ℕ) where
  pub totals_end : at ≡ e → NoTotalsIs q (span at e) true
  unfolding no_totals all
  totals_end z ps h = sym (ap no_totals (list_none pair_f ps z h))

  module _ {m : ℕ} {b : Bool} (n : at ≡ e → ⊥) (z : m ≡ field_end q at) (i : TotalIs q (span at m) b) where
    totals_first : (ps : List Pair) (h : Is q at e (pairs_bytes ps)) → let c = list_parts pair_f ps z n h in no_totals ps ≡ not b && no_totals c.rest
    unfolding no_totals all
    totals_first ps h =
        let c = list_parts pair_f ps z n h in
        ap no_totals c.same ∙ ap (λ t. not t && no_totals c.rest) (sym (i c.first c.first_is))

    pub totals_found : b ≡ true → NoTotalsIs q (span at e) false
    totals_found y ps h = let c = list_parts pair_f ps z n h in sym (totals_first ps h ∙ ap (λ t. not t && no_totals c.rest) y)

    pub totals_next : b ≡ false → (r : Bool) → NoTotalsIs q (span m e) r → NoTotalsIs q (span at e) r
    totals_next y r j ps h =
        let c = list_parts pair_f ps z n h in
        j c.rest c.rest_is ∙ sym (totals_first ps h ∙ ap (λ t. not t && no_totals c.rest) y)

-- ---- a group
module _ {q : List ℕ} {at : GroupAt} where
  pub group_aggregates : GroupStands q at → OkAt (All OkPair) pairs_bytes q at.aggregates
  group_aggregates h = record { value = h.aggregates; allowed = h.pairs.aggregates_ok.0; value_is = h.pairs.aggregates_is }

  pub group_keys : GroupStands q at → OkAt (All OkPair) pairs_bytes q at.keys
  group_keys h = record { value = h.grouping; allowed = h.pairs.grouping_ok.0; value_is = h.pairs.grouping_is }

  -- pairs stand at both places
  pub group_held : GroupStands q at → HoldsAt pairs_bytes q at.aggregates × HoldsAt pairs_bytes q at.keys
  group_held h = (holds_of (group_aggregates h), holds_of (group_keys h))

  -- no pairs stand at the end of the key
  no_pairs : (h : GroupStands q at) → Is q at.keys.to at.keys.to (pairs_bytes [])
  unfolding bytes
  no_pairs h = is_none h.pairs.grouping_is.inside

  pub group_none : GroupStands q at → OkAt (All OkPair) pairs_bytes q (span at.keys.to at.keys.to)
  group_none h = record { value = []; allowed = tt; value_is = no_pairs h }

  pub distinct_not : {r : Bool} → ApartIs q at.aggregates at.keys r → r ≡ false → DistinctIs q at false
  distinct_not i z ag gs h =
      sym (distinct_parts ag gs ∙ ap (λ b. b && apart gs []) (sym (i ag gs h.aggregates_ok.0 h.aggregates_is h.grouping_ok.0 h.grouping_is) ∙ z))

  pub distinct_is : GroupStands q at → {r : Bool} → ApartIs q at.aggregates at.keys r → r ≡ true → {u : Bool} → ApartIs q at.keys (span at.keys.to at.keys.to) u → DistinctIs q at u
  distinct_is g i z j ag gs h =
      j gs [] h.grouping_ok.0 h.grouping_is tt (no_pairs g)
      ∙ sym (distinct_parts ag gs ∙ ap (λ b. b && apart gs []) (sym (i ag gs h.aggregates_ok.0 h.aggregates_is h.grouping_ok.0 h.grouping_is) ∙ z))

-- its tray results can be grouped again: no aggregate is a total, and the destinations are single and distinct
module _ (q : List ℕ) (at : GroupAt) {r : Bool} (i : NoTotalsIs q at.aggregates r) where
  pub regroups_not : r ≡ false → RegroupsIs q at false
  unfolding regroups
  regroups_not z ag gs h = sym (ap (λ b. b && distinct_targets ag gs) (sym (i ag h.aggregates_is) ∙ z))

  pub regroups_is : r ≡ true → {u : Bool} → DistinctIs q at u → RegroupsIs q at u
  unfolding regroups
  regroups_is z j ag gs h = j ag gs h ∙ sym (ap (λ b. b && distinct_targets ag gs) (sym (i ag h.aggregates_is) ∙ z))

-- ---- a query
other_only : {q : List ℕ} → ((ss : List Stage) → q ≡ query_bytes ss → OkQ ss → regrouping ss ≡ none) → TrayGroupIs q None
other_only h ss z o = record {
  at_is = λ at y. let x : ◌≡◌ {A = ℕ} 0 1 = cc in absurd (omega arith);
  other_is = λ y. h ss z o;
}

-- a query of several stages
regrouping_several : (s t : Stage) (ss : List Stage) → regrouping (s ∷ t ∷ ss) ≡ none
unfolding regrouping
regrouping_several (match c) t ss = refl
regrouping_several (unwind p) t ss = refl
regrouping_several (project is) t ss = refl
regrouping_several (group ag gs) t ss = refl
regrouping_several (lookup a b p) t ss = refl

module _ {q : List ℕ} {x : Span} (reads : ReadsQuery q x) where
  -- of no stage
  pub query_empty : x.from ≡ x.to → TrayGroupIs q None
  unfolding regrouping
  query_empty z = other_only (λ ss y o. ap regrouping (list_none stage_f ss z (reads ss y)))

  module _ (n : x.from ≡ x.to → ⊥) {m : ℕ} (z : m ≡ field_end q x.from) where
    -- the first stage can be read
    pub query_end : QueryForm q → field_end q x.from ≤ length q
    query_end h =
        let y = reads h.query h.query_is in
        let c = list_parts stage_f h.query z n y in
        omega (arith, c.within, y.inside)

    pub query_more : (m ≡ x.to → ⊥) → TrayGroupIs q None
    unfolding bytes
    query_more l = other_only go
      where
        several : (s : Stage) (ss : List Stage) → Is q m x.to (stages_bytes ss) → regrouping (s ∷ ss) ≡ none
        several s [] h = absurd (l (sym (omega (arith, h.ends))))
        several s (t ∷ ss) h = regrouping_several s t ss

        go : (ss : List Stage) → q ≡ query_bytes ss → OkQ ss → regrouping ss ≡ none
        go ss y o = let c = list_parts stage_f ss z n (reads ss y) in ap regrouping c.same ∙ several c.first c.rest c.rest_is

    module _ (l : m ≡ x.to) where
      -- the only stage
      one_stage : (ss : List Stage) → q ≡ query_bytes ss → (s : Stage) × (ss ≡ s ∷ []) × IsAt q x (stage_bytes s)
      one_stage ss y =
          let c = list_parts stage_f ss z n (reads ss y) in (
            c.first,
            c.same ∙ ap (λ r. c.first ∷ r) (list_none stage_f c.rest l c.rest_is),
            subst (λ i. Is q x.from i (stage_bytes c.first)) l c.first_is,
          )

      pub query_stage : QueryForm q → Holds stage_bytes q x.from x.to
      query_stage h = let c = one_stage h.query h.query_is in record { value = c.0; value_is = c.2 }

      module _ {st : StageAt} (r : ReadsStage q x st) {found : (Option GroupAt)} (k : found ≡ group_of st) where
        -- is no group
        pub query_plain : found ≡ None → TrayGroupIs q None
        unfolding regrouping
        query_plain g = other_only (λ ss y o. let c = one_stage ss y in ap regrouping c.1 ∙ go c.0 c.2 st refl (sym k ∙ g))
          where
            go : (s : Stage) → IsAt q x (stage_bytes s) → (i : StageAt) → st ≡ i → group_of i ≡ None → regrouping (s ∷ []) ≡ none
            go s h (StageAt.Match f) w e = ap (λ j. regrouping (j ∷ [])) ((r s h).match_is f w).same
            go s h (StageAt.Unwind f) w e = ap (λ j. regrouping (j ∷ [])) ((r s h).unwind_is f w).same
            go s h (StageAt.Project f) w e = ap (λ j. regrouping (j ∷ [])) ((r s h).project_is f w).same
            go s h (StageAt.Group f) w e = let a : ◌≡◌ {A = ℕ} 0 1 = cc in absurd (omega arith)
            go s h (StageAt.Lookup f) w e = ap (λ j. regrouping (j ∷ [])) ((r s h).lookup_is f w).same

        module _ {at : GroupAt} (w : found ≡ Some at) where
          is_group_lem : st ≡ StageAt.Group at
          is_group_lem = go st refl (sym k ∙ w)
            where
              go : (i : StageAt) → st ≡ i → group_of i ≡ Some at → st ≡ StageAt.Group at
              go (StageAt.Match f) z e = let a : ◌≡◌ {A = ℕ} 0 1 = cc in absurd (omega arith)
              go (StageAt.Unwind f) z e = let a : ◌≡◌ {A = ℕ} 0 1 = cc in absurd (omega arith)
              go (StageAt.Project f) z e = let a : ◌≡◌ {A = ℕ} 0 1 = cc in absurd (omega arith)
              go (StageAt.Group f) z e = let b : f ≡ at = cc in z ∙ ap StageAt.Group b
              go (StageAt.Lookup f) z e = let a : ◌≡◌ {A = ℕ} 0 1 = cc in absurd (omega arith)

          stage_group : (ss : List Stage) → q ≡ query_bytes ss → OkQ ss → (ag : List Pair) × (gs : List Pair) × (ss ≡ group ag gs ∷ []) × Pairs q at ag gs
          stage_group ss y o =
              let c = one_stage ss y in
              let d = (r c.0 c.2).group_is at is_group_lem in
              let e : ss ≡ group d.first d.second ∷ [] = c.1 ∙ ap (λ j. j ∷ []) d.same in
              let p = (subst (All OkS) e o.stages).0 in (
                d.first,
                d.second,
                e,
                record { aggregates_ok = p.0; aggregates_is = d.first_is; grouping_ok = p.1; grouping_is = d.second_is },
              )

          pub query_group : QueryForm q → GroupStands q at
          query_group h = let c = stage_group h.query h.query_is h.query_ok in record { aggregates = c.0; grouping = c.1; pairs = c.3 }

          pub query_such : {b : Bool} → RegroupsIs q at b → b ≡ true → TrayGroupIs q (Some at)
          query_such i y ss u o =
              let c = stage_group ss u o in
              let t : IsTrayGroup q ss at = record { aggregates = c.0; grouping = c.1; same = c.2; again = sym (i c.0 c.1 c.3) ∙ y; pairs = c.3 } in
              record {
                at_is = λ f v. let e : at ≡ f = cc in subst (IsTrayGroup q ss) e t;
                other_is = λ v. let a : ◌≡◌ {A = ℕ} 0 1 = cc in absurd (omega arith);
              }

          pub query_not_such : {b : Bool} → RegroupsIs q at b → b ≡ false → TrayGroupIs q None
          unfolding regrouping only
          query_not_such i y = other_only (λ ss u o.
              let c = stage_group ss u o in
              ap regrouping c.2 ∙ ap (λ b. only b (some (regrouped c.0 c.1))) (sym (i c.0 c.1 c.3) ∙ y))
