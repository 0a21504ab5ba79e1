-- The one predicate of the certificate, of each call.
use Rattle.std.specs.Prelude.{◌≡◌, List, ℕ, Result, Ok, Err}
use Rattle.spec_run.specs.Refusal.{number_of}
use Rattle.spec_run.specs.Run.{Call, Verdict, number_in, length_in, result_after, plain_run, plain_positions}
use Rattle.spec_run.specs.Regroup.{RegroupCall, plain_regroup}
use Rattle.spec_run.specs.Tracer.{plain_tracer}
use Rattle.spec_run.specs.declared.answer.Refusal.{Refusal}

-- how many bytes the result has, or why there is none
abbrev pub Answer : Type 0
Answer = Result ℕ Refusal

-- an answer's number and length
abbrev pub numbered : Answer → ℕ
numbered (Ok n) = 0
numbered (Err r) = number_of r

abbrev pub lengthened : Answer → ℕ
lengthened (Ok n) = n
lengthened (Err r) = 0

-- The call c is answered by this number and this length, with the result, the work and the position area left so: all
-- five are the plain run's of this call
pub record Answered (c : Call) (number length : ℕ) (result work positions : List ℕ) : Type 0 where
  pub number_is : number ≡ (plain_run c).number
  pub length_is : length ≡ (plain_run c).length
  pub result_is : result ≡ (plain_run c).result
  pub work_is : work ≡ (plain_run c).work
  pub positions_is : positions ≡ plain_positions c

-- The same of the regrouping call, which has no position area: all four are the plain regrouping's of this call
pub record Regrouped (c : RegroupCall) (number length : ℕ) (result work : List ℕ) : Type 0 where
  pub number_is : number ≡ (plain_regroup c).number
  pub length_is : length ≡ (plain_regroup c).length
  pub result_is : result ≡ (plain_regroup c).result
  pub work_is : work ≡ (plain_regroup c).work

-- The same of the call that traces a message, which has neither a work nor a position area: all three are the plain
-- answer to this message and this result area
pub record Traced (message area : List ℕ) (number length : ℕ) (result : List ℕ) : Type 0 where
  pub number_is : number ≡ (plain_tracer message area).number
  pub length_is : length ≡ (plain_tracer message area).length
  pub result_is : result ≡ (plain_tracer message area).result

-- of a part of the engine that ends a run: the answer a, with the result area left so, is what the verdict x says of
-- that area
pub record AnswersAs (area : List ℕ) (x : Verdict) (a : Answer) (left : List ℕ) : Type 0 where
  pub number_is : numbered a ≡ number_in x
  pub length_is : lengthened a ≡ length_in x
  pub result_is : left ≡ result_after area x
