-- What the end of a call asks, and what it leaves.
use Rattle.std.specs.Prelude.{List, ℕ, ◌+◌, ◌≤◌, length}
use Rattle.spec_trees.specs.Limits.{array_max}
use Rattle.spec_trees.specs.Tree.{Tree}
use Rattle.areas.specs.Area.{Is}
use Rattle.queries.specs.Places.{array_trees}
use Rattle.spec_stages.specs.Stages.{State, going}
use Rattle.spec_stages.specs.Positions.{Borne}
use Rattle.map.specs.Map.{collected_at}
use Rattle.stretches.specs.Ended.{Ended, EndedIs}
use Rattle.spec_run.specs.Answer.{AnswersAs, Answer}
use Rattle.spec_run.specs.Run.{final}

-- n bytes of trees stand in the collector
pub record AcceptReady (w : List ℕ) (n : ℕ) : Type 0 where
  pub trees : List Tree
  pub trees_are : Is w collected_at (collected_at + n) (array_trees trees)
  pub short : n + 3 ≤ array_max

-- whatever trees they are and whatever positions they bear, the verdict is the plain run's
abbrev pub Accepts : (w : List ℕ) (n : ℕ) (area left : List ℕ) → Answer → Type 0
Accepts w n area left a = (ts : List Tree) → Is w collected_at (collected_at + n) (array_trees ts)
    → (ps : List ℕ) → AnswersAs area (final (length area) ps (going ts)) a left

-- r says some state
pub record FinishReady (w : List ℕ) (r : Ended) : Type 0 where
  pub state : State
  pub borne : List Borne
  pub ended : EndedIs w r state borne

-- whatever state it says and whatever positions its trees bear, the verdict is the plain run's
abbrev pub Finishes : (w : List ℕ) (r : Ended) (area left : List ℕ) → Answer → Type 0
Finishes w r area left a = (st : State) (bs : List Borne) → EndedIs w r st bs → (ps : List ℕ) → AnswersAs area (final (length area) ps st) a left
