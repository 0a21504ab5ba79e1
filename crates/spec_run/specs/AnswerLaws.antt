-- Answers of every call, by its outcome: what holds of both calls is shown of this once.
use Rattle.std.specs.Prelude.{◌≡◌, List, ℕ}
use Rattle.spec_run.specs.Run.{Call, Outcome, plain_run, plain_positions}
use Rattle.spec_run.specs.Regroup.{RegroupCall, plain_regroup}
use Rattle.spec_run.specs.Answer.{Answered, Regrouped}

-- number, length, result area and work area are the outcome's
pub record AnsweredBy (o : Outcome) (number length : ℕ) (result work : List ℕ) : Type 0 where
  pub number_is : number ≡ o.number
  pub length_is : length ≡ o.length
  pub result_is : result ≡ o.result
  pub work_is : work ≡ o.work

module _ {n l : ℕ} {r w : List ℕ} where
  module _ {c : Call} where
    pub run_by : {p : List ℕ} → Answered c n l r w p → AnsweredBy (plain_run c) n l r w
    run_by h = record { number_is = h.number_is; length_is = h.length_is; result_is = h.result_is; work_is = h.work_is }

    pub by_run : {p : List ℕ} → AnsweredBy (plain_run c) n l r w → p ≡ plain_positions c → Answered c n l r w p
    by_run h e = record { number_is = h.number_is; length_is = h.length_is; result_is = h.result_is; work_is = h.work_is; positions_is = e }

  module _ {c : RegroupCall} where
    pub regroup_by : Regrouped c n l r w → AnsweredBy (plain_regroup c) n l r w
    regroup_by h = record { number_is = h.number_is; length_is = h.length_is; result_is = h.result_is; work_is = h.work_is }

    pub by_regroup : AnsweredBy (plain_regroup c) n l r w → Regrouped c n l r w
    by_regroup h = record { number_is = h.number_is; length_is = h.length_is; result_is = h.result_is; work_is = h.work_is }
