-- The regrouping call answers as the plain regrouping: one that passed its tests by its group, another by its refusal.
use Rattle.std.specs.Prelude.{◌≡◌, cond, ℕ, ◌≤◌, length, replicate, Ok, Err, Result}
use Rattle.std.proofs.Common.{sym}
use mathlib.Core.List.{List, [], ◌∷◌, ◌++◌}
use Rattle.spec_trees.specs.Limits.{work_min}
use Rattle.spec_trees.specs.Within.{AllBytes}
use Rattle.spec_trees.proofs.ArrayLaws.{array_only, read_array_lem}
use Rattle.spec_queries.specs.Again.{regrouped}
use Rattle.spec_stages.specs.Stages.{going, stages}
use Rattle.spec_stages.specs.Positions.{carried}
use Rattle.spec_stages.specs.Positions as borne
use Rattle.queries.specs.declared.stage.GroupAt.{GroupAt}
use Rattle.stretches.specs.Ended.{Ended}
use Rattle.regrouping.specs.JoinedGroup.{RegroupReady, Regroups}
use Rattle.spec_run.specs.declared.answer.Refusal.{Refusal}
use Rattle.spec_run.specs.Refusal.{keeps_work}
use Rattle.spec_run.specs.Regroup.{RegroupCall, regroup_verdict, plain_regroup}
use Rattle.spec_run.proofs.RegroupLaws.{reads_regroup}
use Rattle.spec_run.specs.Answer.{numbered, lengthened, Regrouped, Answer}
use Rattle.spec_run.specs.AnswerLaws.{by_regroup}
use Rattle.checks.specs.RegroupCheck.{RegroupChecked}
use Rattle.checks.specs.RegroupCheckLaws.{such_is}
use Rattle.finish.specs.Finish.{FinishReady, Finishes}
use Rattle.engine.specs.Perform.{PerformsAgain}
use Rattle.engine.specs.PerformLaws.{ended_answered, early_answered}

-- ---- the group, and then the end
module _ {q : List ℕ} {at : GroupAt} {a b w : List ℕ} {r : Ended} (k : Regroups q at a b w r) where
  pub again_finish : {v : List ℕ} → RegroupReady q at a b v → FinishReady w r
  again_finish h = record {
    state = stages [] (regrouped h.aggregates h.grouping ∷ []) (going (h.first ++ h.second));
    borne = carried [] (regrouped h.aggregates h.grouping ∷ []) (borne.numbered 1 (h.first ++ h.second));
    ended = k h.aggregates h.grouping h.first h.second h.pairs h.again h.first_is h.first_ok h.second_is h.second_ok;
  }

  pub again_perform : (area : List ℕ) {left : List ℕ} {o : Answer} → Finishes w r area left o → PerformsAgain q at a b area left o
  again_perform area f ag gs ts us p d ea oa eb ob =
      f (stages [] (regrouped ag gs ∷ []) (going (ts ++ us))) (carried [] (regrouped ag gs ∷ []) (borne.numbered 1 (ts ++ us))) (k ag gs ts us p d ea oa eb ob) []

-- ---- a call whose tests answered r
module _ (c : RegroupCall) {r : Result GroupAt Refusal} (h : RegroupChecked c.query c.first c.second (length c.work) r) where
  module _ (ba : AllBytes c.first) (bb : AllBytes c.second) {at : GroupAt} (z : r ≡ Ok at) where
    pub again_enough : work_min ≤ length c.work
    again_enough = (h.passed at z).0

    pub again_ready : (w : List ℕ) → length w ≡ work_min → RegroupReady c.query at c.first c.second w
    again_ready w l =
        let k = (h.passed at z).1 in
        let t = array_only c.first k.first ba ((read_array_lem c.first k.first).0 k.first_is) in
        let u = array_only c.second k.second bb ((read_array_lem c.second k.second).0 k.second_is) in
        record {
          aggregates = k.such.aggregates;
          grouping = k.such.grouping;
          pairs = k.such.pairs;
          again = k.such.again;
          first = k.first;
          first_is = sym t.0;
          first_ok = t.1;
          second = k.second;
          second_is = sym u.0;
          second_ok = u.1;
          size = l;
        }

    pub again_answered : {a : Answer} {left work : List ℕ} → PerformsAgain c.query at c.first c.second c.result left a → work ≡ replicate (length c.work) 0
        → Regrouped c (numbered a) (lengthened a) left work
    unfolding plain_regroup
    again_answered p e =
        let k = (h.passed at z).1 in
        let i = k.such in
        let t = array_only c.first k.first ba ((read_array_lem c.first k.first).0 k.first_is) in
        let u = array_only c.second k.second bb ((read_array_lem c.second k.second).0 k.second_is) in
        let s = regrouped i.aggregates i.grouping in
        let v = reads_regroup c k.stages s k.first k.second record { enough = again_enough; query = k.query_is; such = such_is i; first = k.first_is; second = k.second_is } in
        let o = p i.aggregates i.grouping k.first k.second i.pairs i.again (sym t.0) t.1 (sym u.0) u.1 in
        by_regroup (ended_answered c.result c.work (regroup_verdict c) (length c.result) [] (stages [] (s ∷ []) (going (k.first ++ k.second))) v o e)

  pub again_refused : {t : Refusal} → r ≡ Err t → {a : Answer} {work : List ℕ} → a ≡ Err t
      → work ≡ cond (keeps_work t) c.work (replicate (length c.work) 0) → Regrouped c (numbered a) (lengthened a) c.result work
  unfolding plain_regroup regroup_verdict
  again_refused {t} z e w = by_regroup (early_answered c.result c.work (regroup_verdict c) (h.refuses t z (length c.result)) e w)
