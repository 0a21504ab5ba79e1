-- Number and length are recovered from an answer of the C interface, which fits 64 bits.
use Rattle.std.specs.Prelude.{◌≡◌, List, ℕ, ◌+◌, ◌*◌, ◌≤◌, Result, Ok, Err}
use Rattle.std.proofs.Common.{ap, ◌∙◌, arith}
use Rattle.spec_trees.specs.Limits.{array_max}
use Rattle.spec_trees.specs.Readers.{Tested}
use Rattle.format.specs.Check.{check_of}
use Rattle.format.specs.declared.check.Fault.{Fault}
use Rattle.format.specs.declared.check.Fault.TheVariants.{Overlong, Malformed}
use Rattle.spec_run.specs.declared.answer.Refusal.{Refusal}
use Rattle.spec_run.specs.Refusal.{number_of}
use Rattle.spec_run.specs.Run.{Outcome, check_number}
use Rattle.spec_run.proofs.RunLaws.{refusal_number, refusal_most, Short}
use Rattle.spec_run.specs.Answer.{numbered, Answer}
use Rattle.spec_run.specs.AnswerLaws.{AnsweredBy}
use Rattle.checks.specs.Check.{checked_as}
use Rattle.checks.specs.CheckLaws.{checked_number}
use Rattle.tquery.specs.Interface.{number_from, length_from}

-- ---- an answer in one number: at most 13, which is a message's alone
pub packed_most : (a : Answer) → numbered a ≤ 13
packed_most (Ok n) = omega arith
packed_most (Err r) = (refusal_most r).1

pub packed_small : (a : Answer) → (numbered a ≡ 13 → ⊥) → numbered a ≤ 12
packed_small a o = omega (arith, packed_most a, o)

-- that of any call whose number and length are small; p is what the code has
module _ {o : Outcome} {n l : ℕ} {left work : List ℕ} (s : o.number ≤ 13) (f : o.length ≤ array_max) (h : AnsweredBy o n l left work) where
  pub small_short : l ≤ array_max
  small_short = omega (arith, h.length_is, f)

  pub small_one : {p : ℕ} → p ≡ n * 4294967296 + l → AnsweredBy o (number_from p) (length_from p) left work
  small_one {p} z =
      let m = small_short in
      let a : number_from p ≡ n = omega (arith, h.number_is, s) in
      let b : length_from p ≡ l = omega (arith, h.number_is, s) in
      record {
        number_is = a ∙ h.number_is;
        length_is = b ∙ h.length_is;
        result_is = h.result_is;
        work_is = h.work_is;
      }

-- that of a call, of whose outcome o the limits are known
module _ {lent : List ℕ} {o : Outcome} {n l : ℕ} {left work : List ℕ} (s : Short lent o) (h : AnsweredBy o n l left work) where
  pub answered_short : l ≤ array_max
  answered_short = small_short (omega (arith, s.number)) s.array h

  pub answered_one : {p : ℕ} → p ≡ n * 4294967296 + l → AnsweredBy o (number_from p) (length_from p) left work
  answered_one z = small_one (omega (arith, s.number)) s.array h z

-- ---- a check's answer
pub check_small : (c : Result Unit Fault) (r s : Refusal) → (number_of r ≡ 13 → ⊥) → (number_of s ≡ 13 → ⊥) → checked_as c r s ≤ 12
check_small (Ok _) r s o p = omega arith
check_small (Err Overlong) r s o p = (refusal_number r o).1
check_small (Err Malformed) r s o p = (refusal_number s p).1

-- a check c of x, whose number the code has as n
module _ {A : Type 0} (x : Tested A) (r s : Refusal) {c : Result Unit Fault} {n : ℕ} (z : c ≡ check_of x) (y : n ≡ checked_as c r s) where
  pub check_most : (number_of r ≡ 13 → ⊥) → (number_of s ≡ 13 → ⊥) → n ≤ 12
  check_most o p = omega (arith, y, check_small c r s o p)

  pub check_is : n * 4294967296 ≡ check_number x r s * 4294967296
  check_is = ap (λ k. k * 4294967296) (y ∙ ap (λ k. checked_as k r s) z ∙ checked_number x r s)
