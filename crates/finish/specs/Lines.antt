-- What the end of a run asks of its answer, and what it leaves in the position area.
use Rattle.std.specs.Prelude.{◌≡◌, List, ℕ, ◌≤◌, length}
use Rattle.spec_trees.specs.Limits.{work_min, positions_min}
use Rattle.spec_stages.specs.Stages.{State}
use Rattle.spec_stages.specs.Positions.{Borne, positions}
use Rattle.stretches.specs.Ended.{Ended, EndedIs}
use Rattle.spec_run.specs.Run.{Verdict, final, number_in, length_in, positions_after}
use Rattle.spec_run.specs.Answer.{numbered, lengthened, Answer}

-- the run came to the verdict x: that of the state in which its stages ended, whose trees stand in w and bear their
-- positions there; a has its number and its length
pub record ComesTo (w : List ℕ) (a : Answer) (x : Verdict) : Type 0 where
  pub ended : Ended
  pub state : State
  pub borne : List Borne
  pub ended_is : EndedIs w ended state borne
  pub room : ℕ
  pub verdict_is : x ≡ final room (positions borne) state
  pub number_is : numbered a ≡ number_in x
  pub length_is : lengthened a ≡ length_in x

-- it came to some verdict
pub record LinesReady (w : List ℕ) (a : Answer) (entries : List ℕ) : Type 0 where
  pub verdict : Verdict
  pub comes : ComesTo w a verdict
  pub size : length w ≡ work_min
  pub enough : positions_min ≤ length entries

-- whatever verdict it came to, the position area is left as that says
abbrev pub Lines : (w : List ℕ) (a : Answer) (entries left : List ℕ) → Type 0
Lines w a entries left = (x : Verdict) → ComesTo w a x → left ≡ positions_after entries x
