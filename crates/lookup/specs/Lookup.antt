-- What a lookup asks of the area, and what it makes there: of a tree, in its own place.
use Rattle.std.specs.Prelude.{List, [], ◌∷◌, ℕ, ◌+◌, ◌*◌, ◌≤◌, length}
use Rattle.spec_trees.specs.Limits.{tree_max, depth_max, work_min}
use Rattle.spec_trees.specs.Tree.{Tree}
use Rattle.spec_trees.specs.Bytes.{tree_bytes}
use Rattle.spec_trees.specs.Within.{Allowed, AllowedA}
use Rattle.areas.specs.Area.{IsAt, Wrote, Out}
use Rattle.areas.specs.declared.span.Span.{Span}
use Rattle.spec_queries.specs.Query.{Path, Route}
use Rattle.spec_queries.specs.Rules.{OkP⁺, OkRoute}
use Rattle.queries.specs.Places.{path_bytes, route_bytes, array_trees, OkAt}
use Rattle.queries.specs.declared.stage.LookupAt.{LookupAt}
use Rattle.spec_stages.specs.Lookup.{partners, looked}
use Rattle.build.specs.Made.{Made}

-- in q stand the tree's path, the joined trees' and the target; in w a tree, from whose start on there are three rooms; in
-- j the trees of the joined array
pub record LookupReady (w q : List ℕ) (at : LookupAt) (tree_at : Span) (j : List ℕ) (joined_at : Span) : Type 0 where
  pub own : OkAt OkRoute route_bytes q at.own
  pub other : OkAt OkRoute route_bytes q at.theirs
  pub target : OkAt OkP⁺ path_bytes q at.target
  pub tree : OkAt (Allowed depth_max) tree_bytes w tree_at
  pub joined : OkAt AllowedA array_trees j joined_at
  pub room : tree_at.from + 3 * tree_max ≤ length w
  pub small : length w ≤ work_min

-- what the lookup, by whichever paths stand there, makes of the tree was made in its place
abbrev pub Looks : (w v q : List ℕ) (at : LookupAt) (tree_at : Span) (j : List ℕ) (joined_at : Span) → Out → Type 0
Looks w v q at tree_at j joined_at r = (own other : Route) (target : Path) (tree : Tree) (joined : List Tree)
    → OkRoute own → IsAt q at.own (route_bytes own) → OkRoute other → IsAt q at.theirs (route_bytes other)
    → OkP⁺ target → IsAt q at.target (path_bytes target) → Allowed depth_max tree → IsAt w tree_at (tree_bytes tree)
    → AllowedA joined → IsAt j joined_at (array_trees joined) → Made w v tree_at.from (looked own other target joined tree) r

-- ---- the joined trees that match

-- both paths stand in q as above; a tree stands in w, below the room; what P allows, of which k gives the bytes, stands
-- in j
pub record Matching {A : Type 0} (P : A → Type 0) (k : A → List ℕ) (w q : List ℕ) (at : LookupAt) (tree_at : Span) (j : List ℕ)
    (joined_at into : Span) : Type 0 where
  pub own : OkAt OkRoute route_bytes q at.own
  pub other : OkAt OkRoute route_bytes q at.theirs
  pub tree : OkAt (Allowed depth_max) tree_bytes w tree_at
  pub joined : OkAt P k j joined_at
  pub below : tree_at.to ≤ into.from
  pub room : into.from ≤ into.to
  pub area : into.to ≤ length w

-- the joined tree, whichever stands there, was written if it matches
abbrev pub CopiesMatch : (w v q : List ℕ) (at : LookupAt) (tree_at : Span) (j : List ℕ) (joined_at into : Span) → Out → Type 0
CopiesMatch w v q at tree_at j joined_at into r = (own other : Route) (tree y : Tree)
    → IsAt q at.own (route_bytes own) → IsAt q at.theirs (route_bytes other)
    → Allowed depth_max tree → IsAt w tree_at (tree_bytes tree) → Allowed depth_max y → IsAt j joined_at (tree_bytes y)
    → Wrote w v into.from into.to (array_trees (partners own other (y ∷ []) tree)) r

-- those of the joined trees that match were written
abbrev pub CopiesPartners : (w v q : List ℕ) (at : LookupAt) (tree_at : Span) (j : List ℕ) (joined_at into : Span) → Out → Type 0
CopiesPartners w v q at tree_at j joined_at into r = (own other : Route) (tree : Tree) (joined : List Tree)
    → IsAt q at.own (route_bytes own) → IsAt q at.theirs (route_bytes other)
    → Allowed depth_max tree → IsAt w tree_at (tree_bytes tree) → AllowedA joined → IsAt j joined_at (array_trees joined)
    → Wrote w v into.from into.to (array_trees (partners own other joined tree)) r
