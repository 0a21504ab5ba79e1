-- Laws of the tests of the regrouping call.
use Rattle.std.specs.Prelude.{◌≡◌, List, [], ◌∷◌, ◌++◌, ℕ, Some, None, Ok, Err, Result, Option}
use Rattle.std.proofs.Math.Path.{refl, ap, subst}
use Rattle.std.proofs.Common.{sym, ◌∙◌, arith}
use Rattle.std.proofs.Math.Option.{none, some}
use Rattle.spec_trees.specs.Tree.{Tree}
use Rattle.spec_trees.specs.Readers.{accepted}
use Rattle.spec_trees.specs.Within.{AllBytes}
use Rattle.format.specs.Check.{check_of}
use Rattle.spec_trees.specs.Options.{only}
use Rattle.spec_queries.specs.Query.{Stage}
use Rattle.spec_queries.specs.Bytes.{query_bytes}
use Rattle.spec_queries.specs.Rules.{OkQ}
use Rattle.spec_queries.specs.Decode.{decode_query, read_query}
use Rattle.spec_queries.specs.Again.{regrouped, regrouping}
use Rattle.spec_queries.specs.QueryLaws.{query_only, query_back, read_query_lem}
use Rattle.spec_stages.specs.Stages.{going, stages}
use Rattle.queries.specs.declared.stage.GroupAt.{GroupAt}
use Rattle.trays.specs.TrayGroup.{QueryForm, IsTrayGroup, TrayGroupIs}
use Rattle.spec_run.specs.declared.answer.Refusal.{Refusal}
use Rattle.spec_run.specs.declared.answer.Refusal.TheVariants.{QueryLong, QueryMalformed, InputLong, InputMalformed}
use Rattle.spec_run.specs.Refusal.{keeps_result}
use Rattle.spec_run.specs.Run.{Verdict, asking, final}
use Rattle.spec_run.specs.Regroup.{regroup_verdict_of}
use Rattle.checks.specs.Check.{decided, next, work_check, prepared_check, arrays_check, Early}
use Rattle.checks.specs.RegroupCheck.{Read, both_read, tested, TraysCheck, RegroupChecked}
use Rattle.checks.specs.CheckLaws.{work_read, prepared_read, arrays_read, work_refused, query_refused, prepared_row, arrays_refused}

-- ---- answers, by their one constructor
refuses_only : {q a b : List ℕ} {t : Refusal} → ((ss : List Stage) → read_query q ≡ accepted ss → (f : Stage → List Tree → List Tree → Verdict) → Early (tested a b ss f) t)
    → TraysCheck q a b (Err t)
refuses_only {q} {a} {b} {t} h = record {
  passed = λ at y. let x : ◌≡◌ {A = ℕ} 0 1 = cc in absurd (omega arith);
  refuses = λ u y ss z f. let e : t ≡ u = cc in subst (Early (tested a b ss f)) e (h ss z f);
}

passes_only : {q a b : List ℕ} {at : GroupAt} → Read q a b at → TraysCheck q a b (Ok at)
passes_only {q} {a} {b} {at} h = record {
  passed = λ g y. let e : at ≡ g = cc in subst (Read q a b) e h;
  refuses = λ u y ss z f. let x : ◌≡◌ {A = ℕ} 0 1 = cc in absurd (omega arith);
}

clash : {P : Type 0} {t : Refusal} → ◌≡◌ {A = Result Unit Refusal} (Ok tt) (Err t) → P
clash e = let z : ◌≡◌ {A = ℕ} 0 1 = cc in absurd (omega arith)

-- the regrouping of a tray group
pub such_is : {q : List ℕ} {ss : List Stage} {at : GroupAt} (i : IsTrayGroup q ss at) → regrouping ss ≡ some (regrouped i.aggregates i.grouping)
unfolding regrouping only
such_is i = ap regrouping i.same ∙ ap (λ b. only b (some (regrouped i.aggregates i.grouping))) i.again

-- what comes behind all tests
abbrev regroups : ℕ → Stage → List Tree → List Tree → Verdict
regroups room s ts us = final room [] (stages [] (s ∷ []) (going (ts ++ us)))

-- ---- behind the query's test
-- the bytes that were read are those of the query
read_form : (q : List ℕ) (ss : List Stage) → AllBytes q → read_query q ≡ accepted ss → (q ≡ query_bytes ss) × OkQ ss
read_form q ss b e = let o = query_only q ss b ((read_query_lem q ss).0 e) in (sym o.0, o.1)

module _ (q a b : List ℕ) (bq : AllBytes q) {g : Option GroupAt} (h : TrayGroupIs q g) where
  pub trays_other : g ≡ None → TraysCheck q a b (Err QueryMalformed)
  unfolding asking keeps_result
  trays_other z = refuses_only (λ ss e f.
      let o = read_form q ss bq e in
      let n : regrouping ss ≡ none = (h ss o.0 o.1).other_is z in
      record { refuses = ap (λ x. asking x QueryMalformed (both_read a b f)) n; keeps = refl })

  module _ {x : Result Unit Refusal} (y : x ≡ arrays_check a b InputLong InputMalformed) where
    pub trays_passed : {at : GroupAt} → g ≡ Some at → QueryForm q → x ≡ Ok tt → TraysCheck q a b (Ok at)
    trays_passed {at} z k e =
        let ((ts, et), (us, eu)) = arrays_read a b InputLong InputMalformed (sym y ∙ e) in
        passes_only record {
          stages = k.query;
          query_is = (read_query_lem q k.query).1 (ap decode_query k.query_is ∙ query_back k.query k.query_ok);
          such = (h k.query k.query_is k.query_ok).at_is at z;
          first = ts;
          first_is = et;
          second = us;
          second_is = eu;
        }

    pub trays_refused : {at : GroupAt} → g ≡ Some at → {t : Refusal} → x ≡ Err t → TraysCheck q a b (Err t)
    unfolding asking keeps_result
    trays_refused {at} z {t} e = refuses_only (λ ss u f.
        let o = read_form q ss bq u in
        let i = (h ss o.0 o.1).at_is at z in
        let s = regrouped i.aggregates i.grouping in
        subst (λ r. Early r t) (sym (ap (λ r. asking r QueryMalformed (both_read a b f)) (such_is i)))
        (arrays_refused a b InputLong InputMalformed t (f s) refl refl (sym y ∙ e)))

-- ---- all tests
module _ (q a b : List ℕ) (work : ℕ) {x : Result Unit Refusal} (y : x ≡ prepared_check q (work_check work)) where
  pub prepared_form : AllBytes q → x ≡ Ok tt → QueryForm q
  prepared_form bq e =
      let (l, (ss, z)) = prepared_read q (work_check work) (sym y ∙ e) in
      let o = read_form q ss bq z in
      record { query = ss; query_is = o.0; query_ok = o.1 }

  -- refused by the tests so far, or then by o
  refused_at : (t : Refusal) (room : ℕ) (o : Result Unit Refusal) → next x o ≡ Err t
      → ((ss : List Stage) → read_query q ≡ accepted ss → o ≡ Err t → Early (tested a b ss (regroups room)) t)
      → Early (regroup_verdict_of q a b work room) t
  unfolding regroup_verdict_of
  refused_at t room o e h =
      let query = next (decided (check_of (read_query q)) QueryLong QueryMalformed) o in
      work_refused work t _ query (query_refused q t _ o h) (sym (ap (λ c. next c o) y ∙ prepared_row q (work_check work) o) ∙ e)

  pub regroup_checked : x ≡ Ok tt → {r : Result GroupAt Refusal} → TraysCheck q a b r → RegroupChecked q a b work r
  regroup_checked e {r} h =
      let (l, (ss, z)) = prepared_read q (work_check work) (sym y ∙ e) in
      record {
        passed = λ at w. (work_read work l, h.passed at w);
        refuses = λ t w room. refused_at t room (Err t) (ap (λ c. next c (Err t)) e) (λ us u v. h.refuses t w us u (regroups room));
      }

  pub regroup_refused : {t : Refusal} → x ≡ Err t → RegroupChecked q a b work (Err t)
  regroup_refused {t} e = record {
    passed = λ at w. let c : ◌≡◌ {A = ℕ} 0 1 = cc in absurd (omega arith);
    refuses = λ u w room.
        let d : t ≡ u = cc in
        subst (Early (regroup_verdict_of q a b work room)) d (refused_at t room (Ok tt) (ap (λ c. next c (Ok tt)) e) (λ us i j. clash j));
  }
