-- The plain answer of the regrouping call, which takes a group and two tray results, and no position area.
use Rattle.std.specs.Prelude.{List, [], ◌∷◌, ◌++◌, cond, ℕ, length, leb}
use Rattle.spec_trees.specs.Limits.{work_min}
use Rattle.spec_trees.specs.Decode.{read_array}
use Rattle.spec_queries.specs.Decode.{read_query}
use Rattle.spec_queries.specs.Again.{regrouping}
use Rattle.spec_stages.specs.Stages.{going, stages}
use Rattle.spec_run.specs.declared.answer.Refusal.TheVariants.{WorkShort, QueryLong, QueryMalformed, InputLong, InputMalformed}
use Rattle.spec_run.specs.Run.{Outcome, Verdict, refused, reading, asking, final, outcome_of}

-- what it is lent: the query, two arrays, a work area and a result area, each of any length and content
pub record RegroupCall : Type 0 where
  pub query : List ℕ
  pub first : List ℕ
  pub second : List ℕ
  pub work : List ℕ
  pub result : List ℕ

abbrev pub regroup_call : List ℕ → List ℕ → List ℕ → List ℕ → List ℕ → RegroupCall
regroup_call q a b w r = record { query = q; first = a; second = b; work = w; result = r }

-- query, first array, second array, the lengths of the work and of the result area. A query that isn't one group alone
-- whose tray results can be grouped again gives what a malformed one does; then the regrouping over the join
unfoldable pub regroup_verdict_of : List ℕ → List ℕ → List ℕ → ℕ → ℕ → Verdict
regroup_verdict_of q a b work room =
    cond (leb work_min work)
    (
    reading (read_query q) QueryLong QueryMalformed λ ss.
    asking (regrouping ss) QueryMalformed λ s.
    reading (read_array a) InputLong InputMalformed λ ts.
    reading (read_array b) InputLong InputMalformed λ us.
    final room [] (stages [] (s ∷ []) (going (ts ++ us)))
    )
    (refused WorkShort)

unfoldable pub regroup_verdict : RegroupCall → Verdict
regroup_verdict c = regroup_verdict_of c.query c.first c.second (length c.work) (length c.result)

-- what is left in the two areas is as after a run
unfoldable pub plain_regroup : RegroupCall → Outcome
plain_regroup c = outcome_of c.result c.work (regroup_verdict c)
