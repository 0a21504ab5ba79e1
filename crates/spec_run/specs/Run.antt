-- The plain run, and the calls that only check.
use Rattle.std.specs.Prelude.{List, ◌++◌, cond, ◌&&◌, ℕ, length, take, drop, replicate, leb}
use Rattle.std.proofs.Math.Option.{Option, none, some}
use Rattle.spec_trees.specs.Limits.{array_max, work_min, positions_min}
use Rattle.spec_trees.specs.Size.{array_size}
use Rattle.spec_trees.specs.Bytes.{array_bytes}
use Rattle.spec_trees.specs.Readers.{Tested, accepted, overlong, malformed}
use Rattle.spec_trees.specs.Decode.{read_array}
use Rattle.spec_queries.specs.Decode.{read_query}
use Rattle.spec_stages.specs.Stages.{Halt, too_long, overflow, State, going, large, halted, stages}
use Rattle.spec_stages.specs.Positions.{result_positions}
use Rattle.spec_run.specs.declared.answer.Refusal.{Refusal}
use Rattle.spec_run.specs.declared.answer.Refusal.TheVariants.{WorkShort, PositionsShort, QueryLong, QueryMalformed, InputLong, InputMalformed, JoinedLong, JoinedMalformed, TotalLarge, TreeLarge, GroupLong, ResultLong}
use Rattle.spec_run.specs.Refusal.{number_of, keeps_result, keeps_work}

-- ---- what a call is lent: three areas to read, a work area, a result area and a position area, each of any length and
-- content; of bytes, but the position area of 16-bit numbers
pub record Call : Type 0 where
  pub query : List ℕ
  pub input : List ℕ
  pub joined : List ℕ
  pub work : List ℕ
  pub result : List ℕ
  pub positions : List ℕ

abbrev pub call : List ℕ → List ℕ → List ℕ → List ℕ → List ℕ → List ℕ → Call
call q i j w r p = record { query = q; input = i; joined = j; work = w; result = r; positions = p }

-- what it returns, and the result and the work area after it
pub record Outcome : Type 0 where
  pub number : ℕ
  pub length : ℕ
  pub result : List ℕ
  pub work : List ℕ

-- ---- what a run comes to: the bytes of an array and the positions that its trees bear, or a refusal
pub data Verdict : Type 0 where
  gives : List ℕ → List ℕ → Verdict
  refused : Refusal → Verdict

-- tests of a lent piece: over its limit, or malformed; else on with what it holds
unfoldable pub reading : {A : Type 0} → Tested A → Refusal → Refusal → (A → Verdict) → Verdict
reading (accepted a) r s f = f a
reading overlong r s f = refused r
reading malformed r s f = refused s

-- refused where there is none; else on with what there is
unfoldable pub asking : {A : Type 0} → Option A → Refusal → (A → Verdict) → Verdict
asking none r f = refused r
asking (some a) r f = f a

-- of a run that halts where an array enters a group
unfoldable pub refusal_at : Halt → Refusal
refusal_at too_long = GroupLong
refusal_at overflow = TotalLarge

-- after the last stage: a list that, as an array, passes 16,384 bytes or the room in the result area is refused; its
-- trees bear the positions ps
unfoldable pub final : ℕ → List ℕ → State → Verdict
final room ps large = refused TreeLarge
final room ps (halted h) = refused (refusal_at h)
final room ps (going ts) =
    cond (leb (array_size ts) array_max && leb (array_size ts) room) (gives (array_bytes ts) ps) (refused ResultLong)

-- query, input, joined array, the lengths of the work, the position and the result area: tests 1, 11 and 2 to 7, then
-- the stages in the query's order over the input's list of trees
unfoldable pub verdict_of : List ℕ → List ℕ → List ℕ → ℕ → ℕ → ℕ → Verdict
verdict_of q i j work entries room =
    cond (leb work_min work)
    (
    cond (leb positions_min entries)
    (
    reading (read_query q) QueryLong QueryMalformed λ ss.
    reading (read_array i) InputLong InputMalformed λ ts.
    reading (read_array j) JoinedLong JoinedMalformed λ us.
    final room (result_positions us ss ts) (stages us ss (going ts))
    )
    (refused PositionsShort)
    )
    (refused WorkShort)

-- of the work and the position area only their lengths count
unfoldable pub verdict : Call → Verdict
verdict c = verdict_of c.query c.input c.joined (length c.work) (length c.positions) (length c.result)

-- ---- what is left in the three areas
unfoldable pub zeros : List ℕ → List ℕ
zeros area = replicate (length area) 0

-- all zero, but after 1 and 11 as it was
unfoldable pub work_after : List ℕ → Verdict → List ℕ
work_after work (gives b ps) = zeros work
work_after work (refused r) = cond (keeps_work r) work (zeros work)

-- result bytes beyond the length keep their value
unfoldable pub result_after : List ℕ → Verdict → List ℕ
result_after area (gives b ps) = b ++ drop (length b) area
result_after area (refused r) = cond (keeps_result r) area (zeros area)

-- one entry for each result tree; later entries keep their value
unfoldable pub positions_after : List ℕ → Verdict → List ℕ
positions_after area (gives b ps) = ps ++ drop (length ps) area
positions_after area (refused r) = cond (keeps_result r) area (zeros area)

-- ---- the plain run
unfoldable pub number_in : Verdict → ℕ
number_in (gives b ps) = 0
number_in (refused r) = number_of r

-- a refusal gives length 0
unfoldable pub length_in : Verdict → ℕ
length_in (gives b ps) = length b
length_in (refused r) = 0

-- of a result area and a work area
unfoldable pub outcome_of : List ℕ → List ℕ → Verdict → Outcome
outcome_of area work x = record {
  number = number_in x;
  length = length_in x;
  result = result_after area x;
  work = work_after work x;
}

unfoldable pub plain_run : Call → Outcome
plain_run c = outcome_of c.result c.work (verdict c)

-- what it leaves in the position area
unfoldable pub plain_positions : Call → List ℕ
plain_positions c = positions_after c.positions (verdict c)

-- the result bytes
abbrev pub result_bytes : Outcome → List ℕ
result_bytes o = take o.length o.result

-- ---- a call that only checks: 2 or 3 for a query, 4 or 5 for an array, by the same tests
unfoldable pub check_number : {A : Type 0} → Tested A → Refusal → Refusal → ℕ
check_number (accepted a) r s = 0
check_number overlong r s = number_of r
check_number malformed r s = number_of s

unfoldable pub checked_query : List ℕ → ℕ
checked_query q = check_number (read_query q) QueryLong QueryMalformed

unfoldable pub checked_array : List ℕ → ℕ
checked_array b = check_number (read_array b) InputLong InputMalformed
