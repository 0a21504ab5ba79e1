-- Laws of the search for the next group, stage by stage.
use Rattle.std.proofs.Math.Path.{◌≡◌, refl, ap}
use Rattle.std.proofs.Common.{sym, subst, ◌∙◌, arith}
use Rattle.std.specs.Prelude.{List, ◌∷◌, ℕ, ◌+◌, ◌≤◌, length, Option as Maybe, Some, None}
use Rattle.std.proofs.Math.Bool.{false}
use Rattle.areas.specs.Area.{Is, field_end, span}
use Rattle.format.specs.Stand.{Holds}
use Rattle.spec_queries.specs.Query.{Pair, Stage, group}
use Rattle.spec_queries.specs.Bytes.{stage_f}
use Rattle.queries.specs.Places.{stage_bytes, stages_bytes, group_of, ReadsStage}
use Rattle.queries.specs.PartLaws.{list_parts, list_none}
use Rattle.queries.specs.declared.stage.StageAt.{StageAt}
use Rattle.spec_stages.specs.Stages.{is_group}
use Rattle.spec_stages.specs.Stretch.{behind}
use Rattle.queries.specs.declared.stage.GroupAt.{GroupAt}
use Rattle.stretch.specs.declared.next.StretchAt.{StretchAt}
use Rattle.stretch.specs.Next.{stretch_at, StretchIs, NextIs, NextPost}

behind_plain : (s : Stage) (ss : List Stage) → is_group s ≡ false → behind (s ∷ ss) ≡ behind ss
unfolding behind
behind_plain s ss e = rw e refl

behind_group : (ags gs : List Pair) (ss : List Stage) → behind (group ags gs ∷ ss) ≡ group ags gs ∷ ss
unfolding behind is_group
behind_group ags gs ss = refl

-- ---- no stage is left
pub next_end : {q : List ℕ} {p e : ℕ} → p ≡ e → NextPost q (span p e) None
unfolding behind
next_end z ss h = record {
  group_is = λ at y. let x : ◌≡◌ {A = ℕ} 0 1 = cc in absurd (omega arith);
  none = λ y. ap behind (list_none stage_f ss z h);
}

module _ {q : List ℕ} {p m e : ℕ} (z : p ≡ e → ⊥) (y : m ≡ field_end q p) where
  module _ (h : Holds stages_bytes q p e) where
    pub next_places : (p + 3 ≤ m) × (m ≤ e) × (e ≤ length q)
    next_places = let c = list_parts stage_f h.value y z h.value_is in (c.after, c.within, h.value_is.inside)

    pub next_stage : Holds stage_bytes q p m
    next_stage = let c = list_parts stage_f h.value y z h.value_is in record { value = c.first; value_is = c.first_is }

    pub next_rest : Holds stages_bytes q m e
    next_rest = let c = list_parts stage_f h.value y z h.value_is in record { value = c.rest; value_is = c.rest_is }

  module _ {x : StageAt} (reads : ReadsStage q (span p m) x) {n : Maybe GroupAt} (k : n ≡ group_of x) where
    -- the stage is no group
    plain : n ≡ None → (s : Stage) → Is q p m (stage_bytes s) → is_group s ≡ false
    unfolding is_group
    plain l s h = go x refl (sym k ∙ l)
      where
        go : (x2 : StageAt) → x ≡ x2 → group_of x2 ≡ None → is_group s ≡ false
        go (StageAt.Match f) w v = ap is_group ((reads s h).match_is f w).same
        go (StageAt.Unwind f) w v = ap is_group ((reads s h).unwind_is f w).same
        go (StageAt.Project f) w v = ap is_group ((reads s h).project_is f w).same
        go (StageAt.Group f) w v = let a : ◌≡◌ {A = ℕ} 0 1 = cc in absurd (omega arith)
        go (StageAt.Lookup f) w v = ap is_group ((reads s h).lookup_is f w).same

    pub next_on : n ≡ None → (r : Maybe StretchAt) → NextPost q (span m e) r → NextPost q (span p e) r
    next_on l r f ss h =
        let c = list_parts stage_f ss y z h in
        let i = f c.rest c.rest_is in
        let b : behind ss ≡ behind c.rest = ap behind c.same ∙ behind_plain c.first c.rest (plain l c.first c.first_is) in
        record {
          group_is = λ at w. let j = i.group_is at w in record {
            aggregates = j.aggregates;
            grouping = j.grouping;
            others = j.others;
            same = b ∙ j.same;
            aggregates_is = j.aggregates_is;
            grouping_is = j.grouping_is;
            others_is = j.others_is;
            after = omega (arith, c.after, j.after);
            within = j.within;
            end = j.end;
          };
          none = λ w. b ∙ i.none w;
        }

    -- the stage is a group
    pub next_here : {at : GroupAt} → n ≡ Some at → NextPost q (span p e) (Some (stretch_at at (span m e)))
    next_here {at} l ss h = go x refl (sym k ∙ l)
      where
        go : (x2 : StageAt) → x ≡ x2 → group_of x2 ≡ Some at → NextIs q (span p e) ss (Some (stretch_at at (span m e)))
        go (StageAt.Match f) w v = let a : ◌≡◌ {A = ℕ} 0 1 = cc in absurd (omega arith)
        go (StageAt.Unwind f) w v = let a : ◌≡◌ {A = ℕ} 0 1 = cc in absurd (omega arith)
        go (StageAt.Project f) w v = let a : ◌≡◌ {A = ℕ} 0 1 = cc in absurd (omega arith)
        go (StageAt.Lookup f) w v = let a : ◌≡◌ {A = ℕ} 0 1 = cc in absurd (omega arith)
        go (StageAt.Group g) w v =
            let c = list_parts stage_f ss y z h in
            let d = (reads c.first c.first_is).group_is g w in
            let ga : g ≡ at = cc in
            let there : StretchIs q (span p e) ss (stretch_at g (span m e)) = record {
              aggregates = d.first;
              grouping = d.second;
              others = c.rest;
              same = ap behind c.same ∙ ap (λ s. behind (s ∷ c.rest)) d.same ∙ behind_group d.first d.second c.rest;
              aggregates_is = d.first_is;
              grouping_is = d.second_is;
              others_is = c.rest_is;
              after = omega (arith, c.after);
              within = omega (arith, c.within);
              end = refl;
            } in
            subst (λ i. NextIs q (span p e) ss (Some (stretch_at i (span m e)))) ga record {
              group_is = λ at2 v3. let e1 : stretch_at g (span m e) ≡ at2 = cc in subst (StretchIs q (span p e) ss) e1 there;
              none = λ v3. let a : ◌≡◌ {A = ℕ} 0 1 = cc in absurd (omega arith);
            }
