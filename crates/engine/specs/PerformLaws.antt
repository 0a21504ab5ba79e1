-- The run answers as the plain run: a call that passed its tests by its stages, another by its refusal.
use Rattle.std.specs.Prelude.{◌≡◌, refl, List, ◌++◌, Bool, ◌&&◌, ℕ, ◌≤◌, take, drop, replicate, Err, Ok, Err}
use Rattle.std.proofs.Math.Path.{sym, ap}
use Rattle.std.proofs.Common.{◌∙◌, arith, length-append, length-drop, length-take-le}
use Rattle.std.proofs.Math.Bool.{true, false, cond}
use Rattle.std.proofs.Math.ListN.{length}
use Rattle.std.proofs.Math.Dec.{leb}
use Rattle.spec_trees.specs.Limits.{array_max, work_min, positions_min}
use Rattle.spec_trees.specs.Tree.{Tree}
use Rattle.spec_trees.specs.Size.{array_size}
use Rattle.spec_trees.specs.Bytes.{array_bytes}
use Rattle.spec_trees.specs.Within.{AllBytes}
use Rattle.spec_trees.proofs.ArrayLaws.{array_only, read_array_lem}
use Rattle.spec_queries.specs.Query.{Stage}
use Rattle.spec_queries.specs.QueryLaws.{query_only, read_query_lem}
use Rattle.spec_stages.specs.Stages.{too_long, overflow, State, going, large, halted, stages}
use Rattle.spec_stages.specs.Positions.{carried, result_positions}
use Rattle.spec_stages.specs.Positions as borne
use Rattle.stretches.specs.Ended.{Ended, EndedIs, Forms, Runs}
use Rattle.spec_run.specs.declared.answer.Refusal.{Refusal}
use Rattle.spec_run.specs.declared.answer.Refusal.TheVariants.{ResultLong}
use Rattle.spec_run.specs.Refusal.{keeps_work}
use Rattle.spec_run.specs.Run.{Call, Verdict, gives, refused, refusal_at, final, verdict, number_in, length_in, result_after, zeros, work_after, positions_after, outcome_of, plain_run, plain_positions}
use Rattle.spec_run.proofs.RunLaws.{reads_verdict}
use Rattle.spec_run.specs.Answer.{numbered, lengthened, Answered, AnswersAs, Answer}
use Rattle.spec_run.specs.AnswerLaws.{AnsweredBy, by_run}
use Rattle.checks.specs.Check.{call_check, Early}
use Rattle.checks.specs.CheckLaws.{passed_reads, refused_early}
use Rattle.finish.specs.Finish.{FinishReady, Finishes}
use Rattle.finish.specs.Lines.{ComesTo, LinesReady, Lines}
use Rattle.engine.specs.Perform.{Performs}

-- ---- the outcome, by the verdict x on a result area and a work area
module _ (area work : List ℕ) (x : Verdict) where
  -- it was refused before the stages: the work area is as the refusal leaves it
  pub early_answered : {r : Refusal} → Early x r → {a : Answer} {cleared : List ℕ} → a ≡ Err r
      → cleared ≡ cond (keeps_work r) work (replicate (length work) 0) → AnsweredBy (outcome_of area work x) (numbered a) (lengthened a) area cleared
  unfolding outcome_of number_in length_in result_after work_after zeros
  early_answered y e w = record {
    number_is = ap numbered e ∙ sym (ap number_in y.refuses);
    length_is = ap lengthened e ∙ sym (ap length_in y.refuses);
    result_is = sym (ap (result_after area) y.refuses ∙ ap (λ b. cond b area (zeros area)) y.keeps);
    work_is = w ∙ sym (ap (work_after work) y.refuses);
  }

  -- no verdict of the stages keeps the work area
  final_clears : (room : ℕ) (ps : List ℕ) (st : State) → x ≡ final room ps st → work_after work x ≡ zeros work
  unfolding final refusal_at work_after keeps_work
  final_clears room ps large z = ap (work_after work) z
  final_clears room ps (halted too_long) z = ap (work_after work) z
  final_clears room ps (halted overflow) z = ap (work_after work) z
  final_clears room ps (going ts) z = go (leb (array_size ts) array_max && leb (array_size ts) room) z
    where
      go : (b : Bool) → x ≡ cond b (gives (array_bytes ts) ps) (refused ResultLong) → work_after work x ≡ zeros work
      go true y = ap (work_after work) y
      go false y = ap (work_after work) y

  -- it came to an end: the answer is the verdict's, and the work area was cleared
  pub ended_answered : (room : ℕ) (ps : List ℕ) (st : State) → x ≡ final room ps st → {a : Answer} {left cleared : List ℕ} → AnswersAs area (final room ps st) a left
      → cleared ≡ replicate (length work) 0 → AnsweredBy (outcome_of area work x) (numbered a) (lengthened a) left cleared
  unfolding outcome_of zeros
  ended_answered room ps st z k e = record {
    number_is = k.number_is ∙ ap number_in (sym z);
    length_is = k.length_is ∙ ap length_in (sym z);
    result_is = k.result_is ∙ ap (result_after area) (sym z);
    work_is = e ∙ sym (final_clears room ps st z);
  }

-- ---- the stages, and then the end
module _ {q i j w : List ℕ} {r : Ended} (k : Runs q i j w r) where
  pub runs_finish : Forms q i j → FinishReady w r
  runs_finish h = record {
    state = stages h.joined h.query (going h.input);
    borne = carried h.joined h.query (borne.numbered 1 h.input);
    ended = k h.query h.input h.joined h.query_is h.query_ok h.input_is h.input_ok h.joined_is h.joined_ok;
  }

  module _ (area : List ℕ) {left : List ℕ} {a : Answer} (f : Finishes w r area left a) where
    -- the answer is the plain run's, and so is the verdict that it came to
    runs_comes : (ss : List Stage) (ts us : List Tree) → EndedIs w r (stages us ss (going ts)) (carried us ss (borne.numbered 1 ts))
        → AnswersAs area (final (length area) (result_positions us ss ts) (stages us ss (going ts))) a left
        × ComesTo w a (final (length area) (result_positions us ss ts) (stages us ss (going ts)))
    unfolding result_positions
    runs_comes ss ts us e =
        let o = f (stages us ss (going ts)) (carried us ss (borne.numbered 1 ts)) e (result_positions us ss ts) in (
          o,
          record {
            ended = r;
            state = stages us ss (going ts);
            borne = carried us ss (borne.numbered 1 ts);
            ended_is = e;
            room = length area;
            verdict_is = refl;
            number_is = o.number_is;
            length_is = o.length_is;
          },
        )

    pub runs_lines : Forms q i j → length w ≡ work_min → {entries : List ℕ} → positions_min ≤ length entries → LinesReady w a entries
    unfolding runs_finish
    runs_lines h l m = record { verdict = _; comes = (runs_comes h.query h.input h.joined (runs_finish h).ended).1; size = l; enough = m }

    pub runs_perform : (entries : List ℕ) {noted : List ℕ} → Lines w a entries noted → Performs q i j area entries a left noted
    runs_perform entries n ss ts us e1 o1 e2 o2 e3 o3 =
        let c = runs_comes ss ts us (k ss ts us e1 o1 e2 o2 e3 o3) in
        (c.0, n (final (length area) (result_positions us ss ts) (stages us ss (going ts))) c.1)

-- ---- a call that passed its tests
module _ (c : Call) (bq : AllBytes c.query) (bi : AllBytes c.input) (bj : AllBytes c.joined)
    (z : call_check c.query c.input c.joined (length c.work) (length c.positions) ≡ Ok tt) where
  pub passed_forms : Forms c.query c.input c.joined
  passed_forms =
      let (ss, ts, us, r) = passed_reads c z in
      let s = query_only c.query ss bq ((read_query_lem c.query ss).0 r.query) in
      let t = array_only c.input ts bi ((read_array_lem c.input ts).0 r.input) in
      let u = array_only c.joined us bj ((read_array_lem c.joined us).0 r.joined) in
      record {
        query = ss;
        query_is = sym s.0;
        query_ok = s.1;
        input = ts;
        input_is = sym t.0;
        input_ok = t.1;
        joined = us;
        joined_is = sym u.0;
        joined_ok = u.1;
      }

  pub passed_enough : work_min ≤ length c.work
  passed_enough = let (ss, ts, us, r) = passed_reads c z in r.enough

  pub passed_entries : positions_min ≤ length c.positions
  passed_entries = let (ss, ts, us, r) = passed_reads c z in r.entries

  pub passed_answered : {a : Answer} {left work noted : List ℕ} → Performs c.query c.input c.joined c.result c.positions a left noted
      → work ≡ replicate (length c.work) 0 → Answered c (numbered a) (lengthened a) left work noted
  unfolding plain_run plain_positions
  passed_answered p e =
      let (ss, ts, us, r) = passed_reads c z in
      let s = query_only c.query ss bq ((read_query_lem c.query ss).0 r.query) in
      let t = array_only c.input ts bi ((read_array_lem c.input ts).0 r.input) in
      let u = array_only c.joined us bj ((read_array_lem c.joined us).0 r.joined) in
      let k = p ss ts us (sym s.0) s.1 (sym t.0) t.1 (sym u.0) u.1 in
      let v = reads_verdict c ss ts us r in
      by_run (ended_answered c.result c.work (verdict c) (length c.result) (result_positions us ss ts) (stages us ss (going ts)) v k.0 e) (k.1 ∙ ap (positions_after c.positions) (sym v))

-- ---- a call that is refused by its tests
pub refused_answered : (c : Call) {r : Refusal} → call_check c.query c.input c.joined (length c.work) (length c.positions) ≡ Err r
    → {a : Answer} {work : List ℕ} → a ≡ Err r → work ≡ cond (keeps_work r) c.work (replicate (length c.work) 0)
    → Answered c (numbered a) (lengthened a) c.result work c.positions
unfolding plain_run plain_positions positions_after
refused_answered c {r} z e w =
    let y = refused_early c r z in
    by_run (early_answered c.result c.work (verdict c) y e w)
    (sym (ap (positions_after c.positions) y.refuses ∙ ap (λ b. cond b c.positions (zeros c.positions)) y.keeps))

-- ---- the work area's first part comes back, and all of it is cleared
pub lent_length : (n : ℕ) (w y : List ℕ) → n ≤ length w → length y ≡ length (take n w) → length (y ++ drop n w) ≡ length w
lent_length n w y b l = omega (arith, length-append y (drop n w), length-take-le n w b, length-drop n w)

pub lent_clear : (n : ℕ) (w y : List ℕ) {x : List ℕ} → n ≤ length w → length y ≡ length (take n w) → x ≡ replicate (length (y ++ drop n w)) 0
    → x ≡ replicate (length w) 0
lent_clear n w y b l e = e ∙ ap (λ k. replicate k 0) (lent_length n w y b l)
