-- What the functions of the later stretches ask of the areas, and what they do.
use Rattle.std.specs.Prelude.{◌≡◌, List, Bool, true, false, ℕ, ◌≤◌, length, Result, Ok, Err}
use Rattle.spec_trees.specs.Limits.{stages_max, work_min}
use Rattle.spec_trees.specs.Tree.{Tree}
use Rattle.spec_trees.specs.Within.{AllowedA}
use Rattle.spec_queries.specs.Query.{Pair, Stage, group}
use Rattle.queries.specs.Places.{Pairs}
use Rattle.spec_stages.specs.Group.{grouped, totals_fit}
use Rattle.spec_stages.specs.Stages.{State, going, large, halted, stages}
use Rattle.stream.specs.declared.collector.Collector.{Collector}
use Rattle.stream.specs.declared.collector.Collector.TheVariants.{Len}
use Rattle.spec_stages.specs.Stretch.{before, behind}
use Rattle.spec_stages.specs.Positions.{Borne, unmarked, carry, carried}
use Rattle.map.specs.Map.{lent_part}
use Rattle.stream.specs.Feed.{Planned}
use Rattle.stretches.specs.Ended.{Ended, EndedIs}
use Rattle.stretches.specs.declared.ended.Failure.{Failure}
use Rattle.stretch.specs.Carry.{Positions, Holds, Shows}
use Rattle.areas.specs.declared.span.Span.{Span}
use Rattle.stretch.specs.declared.next.StretchAt.{StretchAt}
use Rattle.group_stretch.specs.Group.{GroupPlan, through}
use Rattle.stretches.specs.declared.ended.Failure.TheVariants as failure

-- the trees of the state are allowed
abbrev pub Allows : State → Type 0
Allows (going ts) = AllowedA ts
Allows large = Unit {0}
Allows (halted h) = Unit {0}

-- what the answer says when no group is left
abbrev pub LastPost : Collector → Ended → Type 0
LastPost s r = (w : List ℕ) (st : State) (bs : List Borne) → Shows w s st bs → EndedIs w r st bs

-- ---- the array that the collector holds enters a group
pub record HeldReady (w : List ℕ) (n : ℕ) (q : List ℕ) (at : StretchAt) (j : List ℕ) : Type 0 where
  pub plan : GroupPlan lent_part q at j
  pub borne : List Borne
  pub allowed : AllowedA (unmarked borne)
  pub positions : Positions borne
  pub holds : Holds w (Len n) borne
  pub size : length w ≡ work_min

-- what became of an array that entered a group: what left the stretch is collected, or a total of a class does not fit
abbrev pub Grouped : Type 0
Grouped = Result Collector Failure

-- where the totals fit, what leaves the stretch was collected; else that is told
pub record GroupedIs (v : List ℕ) (fit : Bool) (st : State) (bs : List Borne) (r : Grouped) : Type 0 where
  pub collected : (c : Collector) → r ≡ Ok c → (fit ≡ true) × Shows v c st bs
  pub overflow : (e : Failure) → r ≡ Err e → (e ≡ failure.Overflow) × (fit ≡ false)

-- a class's tree bears the position of its first member
abbrev pub HeldPost : (w v : List ℕ) (n : ℕ) (q : List ℕ) (at : StretchAt) (j : List ℕ) → Grouped → Type 0
HeldPost w v n q at j r = (ags gs : List Pair) (bs : List Borne) (ss : List Stage) (us : List Tree) → Pairs q at.group ags gs → AllowedA (unmarked bs)
    → Positions bs → Holds w (Len n) bs → Planned q at.next j ss us
    → GroupedIs v (totals_fit ags (grouped gs (unmarked bs))) (through us ss ags gs (grouped gs (unmarked bs))) (carried us (before ss) (carry us (group ags gs) bs)) r

-- ---- the stretches from the next group on
pub record LaterReady (w q : List ℕ) (stages_at : Span) (j : List ℕ) (s : Collector) : Type 0 where
  pub state : State
  pub borne : List Borne
  pub shown : Shows w s state borne
  pub allowed : Allows state
  pub positions : Positions borne
  pub list : List Stage
  pub joined : List Tree
  pub planned : Planned q stages_at j list joined
  pub few : length list ≤ stages_max
  pub size : length w ≡ work_min

abbrev pub LaterPost : (w v q : List ℕ) (stages_at : Span) (j : List ℕ) → Collector → Ended → Type 0
LaterPost w v q stages_at j s r = (st : State) (bs : List Borne) (ss : List Stage) (us : List Tree) → Shows w s st bs → Allows st → Positions bs → Planned q stages_at j ss us
    → EndedIs v r (stages us (behind ss) st) (carried us (behind ss) bs)
