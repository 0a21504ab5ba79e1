-- Loops over the outcomes of the tree at the front, each of which goes through the stages behind the unwind: what is
-- right for the outcomes that are left is right for all.
use Rattle.std.specs.Prelude.{◌≡◌, List, [], ◌∷◌, map, ℕ, ◌≤◌, length, take, drop}
use Rattle.spec_trees.specs.Limits.{label_max, tree_max, depth_max}
use Rattle.spec_trees.specs.Tree.{Tree, Trees, list}
use Rattle.spec_trees.specs.Bytes.{tree_bytes}
use Rattle.spec_trees.specs.Within.{Allowed, AllowedA}
use Rattle.areas.specs.Area.{Is, IsAt, span}
use Rattle.areas.specs.declared.span.Span.{Span}
use Rattle.format.specs.Stand.{trees_bytes}
use Rattle.spec_queries.specs.Query.{Path, Stage}
use Rattle.spec_queries.specs.Rules.{OkP}
use Rattle.queries.specs.Places.{path_bytes}
use Rattle.spec_stages.specs.Unwind.{holding, unwound}
use Rattle.spec_stages.specs.Stages.{going, stages}
use Rattle.unwind.specs.Outcomes.{EntryAt}
use Rattle.stream.specs.declared.collector.Collector.{Collector}
use Rattle.stream.specs.declared.feed.PartAt.{PartAt}
use Rattle.spec_stages.specs.Stretch.{before}
use Rattle.stream.specs.Collector.{Open, Feeds}
use Rattle.stream.specs.Feed.{Planned, Front}

-- `Left a x ys`: of the outcomes of x by the path a, ys are left
abbrev pub LeftRule : Type 1
LeftRule = Path → Tree → List Tree → Type 0

-- when ys were fed, all outcomes were
pub record Carries (Left : LeftRule) (t₀ : List ℕ) (s₀ : Collector) (t : List ℕ) (s : Collector) (a : Path) (ss : List Stage) (us : List Tree) (x : Tree) : Type 0 where
  pub left : List Tree
  pub left_is : Left a x left
  pub carry : (v : List ℕ) (r : Collector) → Feeds t s v r (stages us (before ss) (going left)) → Feeds t₀ s₀ v r (stages us (before ss) (going (unwound a x)))

-- from the area t₀ with the collector s₀ the loop came to the area t with the collector s; the tree at the front is
-- as it was
pub record Unwinding (Left : LeftRule) (t₀ : List ℕ) (te : ℕ) (q : List ℕ) (at : PartAt) (j : List ℕ) (s₀ : Collector) (t : List ℕ)
    (s : Collector) : Type 0 where
  pub same : length t ≡ length t₀
  pub kept : take tree_max t ≡ take tree_max t₀
  pub goes : Open s
  pub rest : (a : Path) (ss : List Stage) (us : List Tree) (x : Tree) → OkP a → IsAt q at.part (path_bytes a)
      → Planned q at.next j ss us → Front t₀ te x → Carries Left t₀ s₀ t s a ss us x

-- the first of ys stands in v behind the room of the front, up to o, and others are left
pub record Parted (After : LeftRule) (v : List ℕ) (o : ℕ) (a : Path) (x : Tree) (ys : List Tree) : Type 0 where
  pub first : Tree
  pub others : List Tree
  pub same : ys ≡ first ∷ others
  pub allowed : Allowed depth_max first
  pub first_is : Is v tree_max o (tree_bytes first)
  pub others_are : After a x others

-- ---- what is left, told in two ways

-- all but the first i
abbrev pub LeftFrom : ℕ → LeftRule
LeftFrom i a x ys = ys ≡ drop i (unwound a x)

-- one for each tree that stands in t from f to u, where the path is of the label k alone
pub record LeftUnder (k : ℕ) (t : List ℕ) (f u : ℕ) (a : Path) (x : Tree) (ys : List Tree) : Type 0 where
  pub array : Trees
  pub array_is : Is t f u (trees_bytes array)
  pub same : ys ≡ map (holding k x) (list array)
  pub allowed : AllowedA ys

-- the label k and its entry in t, with its array, whatever path of one label and whatever tree stand there
pub record UnwoundEntry (t : List ℕ) (te : ℕ) (q : List ℕ) (path_at : Span) (k : ℕ) (array_at : Span) : Type 0 where
  pub small : k ≤ label_max
  pub within : array_at.to ≤ te
  pub path_is : (a : Path) → IsAt q path_at (path_bytes a) → a ≡ k ∷ []
  pub entry : EntryAt t k (span 0 te) array_at
