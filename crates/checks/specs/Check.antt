-- The tests of a run by the answers of the checks, in their order; and what a refusal by tests means for every call.
use Rattle.std.specs.Prelude.{◌≡◌, List, true, cond, ℕ, leb, Ok, Err, Result}
use Rattle.spec_trees.specs.Limits.{work_min, positions_min}
use Rattle.format.specs.declared.check.Fault.{Fault}
use Rattle.format.specs.declared.check.Fault.TheVariants.{Overlong, Malformed}
use Rattle.spec_trees.specs.Decode.{read_array}
use Rattle.format.specs.Check.{check_of}
use Rattle.spec_queries.specs.Decode.{read_query}
use Rattle.spec_run.specs.declared.answer.Refusal.{Refusal}
use Rattle.spec_run.specs.declared.answer.Refusal.TheVariants.{WorkShort, PositionsShort, QueryLong, QueryMalformed, InputLong, InputMalformed, JoinedLong, JoinedMalformed}
use Rattle.spec_run.specs.Refusal.{number_of, keeps_result}
use Rattle.spec_run.specs.Run.{Verdict, refused}

-- by the answer of a check: over its limit, or malformed
abbrev pub decided : Result Unit Fault → Refusal → Refusal → Result Unit Refusal
decided (Ok _) r s = Ok tt
decided (Err Overlong) r s = Err r
decided (Err Malformed) r s = Err s

-- document 01's number of a check
abbrev pub checked_as : Result Unit Fault → Refusal → Refusal → ℕ
checked_as (Ok _) r s = 0
checked_as (Err Overlong) r s = number_of r
checked_as (Err Malformed) r s = number_of s

-- the first refusal stands
abbrev pub next : Result Unit Refusal → Result Unit Refusal → Result Unit Refusal
next (Ok _) y = y
next (Err r) y = Err r

-- test 1: the length of the work area
unfoldable pub work_check : ℕ → Result Unit Refusal
work_check work = cond (leb work_min work) (Ok tt) (Err WorkShort)

-- test 11: the length of the position area
unfoldable pub entries_check : ℕ → Result Unit Refusal
entries_check entries = cond (leb positions_min entries) (Ok tt) (Err PositionsShort)

-- both
unfoldable pub areas_check : ℕ → ℕ → Result Unit Refusal
areas_check work entries = next (work_check work) (entries_check entries)

-- tests 2 and 3, of the query
abbrev pub query_check : List ℕ → Result Unit Refusal
query_check q = decided (check_of (read_query q)) QueryLong QueryMalformed

-- both, behind those of the areas' lengths
unfoldable pub prepared_check : List ℕ → Result Unit Refusal → Result Unit Refusal
prepared_check q areas = next areas (query_check q)

-- an input, and a second array with its refusals
unfoldable pub arrays_check : List ℕ → List ℕ → Refusal → Refusal → Result Unit Refusal
arrays_check a b r s = next (decided (check_of (read_array a)) InputLong InputMalformed) (decided (check_of (read_array b)) r s)

-- query, input, joined array, the lengths of the work and of the position area
unfoldable pub call_check : List ℕ → List ℕ → List ℕ → ℕ → ℕ → Result Unit Refusal
call_check q i j work entries = next (prepared_check q (areas_check work entries)) (arrays_check i j JoinedLong JoinedMalformed)

-- what a call that is refused by its tests comes to: the plain answer is refused so, and the result area is left as it was
pub record Early (x : Verdict) (r : Refusal) : Type 0 where
  pub refuses : x ≡ refused r
  pub keeps : keeps_result r ≡ true
