-- What the feeding functions ask of the areas, and what they do: a tree at the front of a tail of the work area goes
-- through the stages that stand in the query's bytes, up to the next group.
use Rattle.std.specs.Prelude.{List, [], ◌∷◌, ℕ, ◌+◌, ◌≤◌, length}
use Rattle.spec_trees.specs.Lists.{All}
use Rattle.spec_trees.specs.Limits.{depth_max, work_min}
use Rattle.spec_trees.specs.Tree.{Tree}
use Rattle.spec_trees.specs.Bytes.{tree_bytes}
use Rattle.spec_trees.specs.Within.{Allowed, AllowedA}
use Rattle.areas.specs.Area.{Is, IsAt}
use Rattle.areas.specs.declared.span.Span.{Span}
use Rattle.spec_queries.specs.Query.{Path, Route, Item, Stage, project, lookup}
use Rattle.spec_queries.specs.Rules.{OkP⁺, OkRoute, OkS}
use Rattle.queries.specs.Places.{path_bytes, route_bytes, array_trees, stages_bytes, OkAt}
use Rattle.queries.specs.declared.stage.LookupAt.{LookupAt}
use Rattle.spec_stages.specs.Stages.{going, step, stages}
use Rattle.stream.specs.declared.collector.Collector.{Collector}
use Rattle.stream.specs.declared.feed.PartAt.{PartAt}
use Rattle.spec_stages.specs.Stretch.{before}
use Rattle.map.specs.Map.{rooms, tail_min, stage_min}
use Rattle.stream.specs.Collector.{Open, Feeds}

-- ---- what stands there

-- the stages ss, in q; the trees us of the joined array, in j behind its head. The rules allow both
pub record Planned (q : List ℕ) (stages_at : Span) (j : List ℕ) (ss : List Stage) (us : List Tree) : Type 0 where
  pub stages_ok : All OkS ss
  pub stages_is : IsAt q stages_at (stages_bytes ss)
  pub joined_ok : AllowedA us
  pub joined_is : Is j 3 (length j) (array_trees us)

-- the tree x, at the front of t up to te
pub record Front (t : List ℕ) (te : ℕ) (x : Tree) : Type 0 where
  pub allowed : Allowed depth_max x
  pub tree_is : Is t 0 te (tree_bytes x)

-- ---- a tree through the stages of a stretch

-- such a tree and such stages; the tail has room for a tree at each of the stages, and n bytes
pub record Feeding (n : ℕ) (t : List ℕ) (te : ℕ) (q : List ℕ) (stages_at : Span) (j : List ℕ) (s : Collector) : Type 0 where
  pub list : List Stage
  pub joined : List Tree
  pub tree : Tree
  pub planned : Planned q stages_at j list joined
  pub front : Front t te tree
  pub room : rooms (length (before list)) + n ≤ length t
  pub small : length t ≤ work_min
  pub goes : Open s

-- three rooms for building, and the collector's
abbrev pub FeedReady : (t : List ℕ) (te : ℕ) (q : List ℕ) (stages_at : Span) (j : List ℕ) → Collector → Type 0
FeedReady t te q stages_at j s = Feeding tail_min t te q stages_at j s

-- what leaves the stretch was collected, whatever tree and stages stand there
abbrev pub FeedPost : (t v : List ℕ) (te : ℕ) (q : List ℕ) (stages_at : Span) (j : List ℕ) → Collector → Collector → Type 0
FeedPost t v te q stages_at j s r = (ss : List Stage) (us : List Tree) (x : Tree) → Planned q stages_at j ss us → Front t te x
    → Feeds t s v r (stages us (before ss) (going (x ∷ [])))

-- ---- one stage and those behind it

-- what the rules ask of a project's items
abbrev pub OkItems : List Item → Type 0
OkItems is = OkS (project is)

abbrev pub part_at : Span → Span → PartAt
part_at p n = record { part = p; next = n }

-- the stage has a part, in q; the others stand behind it, and there is one room more
pub record PartReady {A : Type 0} (ok : A → Type 0) (f : A → List ℕ) (t : List ℕ) (te : ℕ) (q : List ℕ) (at : PartAt) (j : List ℕ)
    (s : Collector) : Type 0 where
  pub part : OkAt ok f q at.part
  pub next : Feeding stage_min t te q at.next j s

-- the tree went through the stage, which is k of the part, and then through the others
abbrev pub PartPost : {A : Type 0} (ok : A → Type 0) (f : A → List ℕ) (k : A → Stage) (t v : List ℕ) (te : ℕ) (q : List ℕ) (at : PartAt) (j : List ℕ) → Collector → Collector → Type 0
PartPost {A} ok f k t v te q at j s r = (a : A) (ss : List Stage) (us : List Tree) (x : Tree) → ok a → IsAt q at.part (f a)
    → Planned q at.next j ss us → Front t te x → Feeds t s v r (stages us (before ss) (step us (k a) (going (x ∷ []))))

-- the same of a lookup, which has three paths
pub record JoinReady (t : List ℕ) (te : ℕ) (q : List ℕ) (at : LookupAt) (stages_at : Span) (j : List ℕ) (s : Collector) : Type 0 where
  pub own : OkAt OkRoute route_bytes q at.own
  pub other : OkAt OkRoute route_bytes q at.theirs
  pub target : OkAt OkP⁺ path_bytes q at.target
  pub next : Feeding stage_min t te q stages_at j s

abbrev pub JoinPost : (t v : List ℕ) (te : ℕ) (q : List ℕ) (at : LookupAt) (stages_at : Span) (j : List ℕ) → Collector → Collector → Type 0
JoinPost t v te q at stages_at j s r = (own other : Route) (target : Path) (ss : List Stage) (us : List Tree) (x : Tree)
    → OkRoute own → IsAt q at.own (route_bytes own) → OkRoute other → IsAt q at.theirs (route_bytes other)
    → OkP⁺ target → IsAt q at.target (path_bytes target) → Planned q stages_at j ss us → Front t te x
    → Feeds t s v r (stages us (before ss) (step us (lookup own other target) (going (x ∷ []))))
