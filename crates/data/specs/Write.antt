-- What writers of a path's application and of data ask and do. The tree stands in the area that they write to, below the
-- room that they write in.
use Rattle.std.specs.Prelude.{◌≡◌, List, [], ◌∷◌, map, Bool, cond, ℕ, ◌≤◌, length, take, eqb}
use Rattle.std.proofs.Math.Option
use Rattle.std.proofs.Math.Option.{some}
use Rattle.spec_trees.specs.Tree.{Tree, node, boolean, bare, root}
use Rattle.spec_trees.specs.Bytes.{tree_bytes}
use Rattle.areas.specs.Area.{IsAt, Wrote, Out}
use Rattle.areas.specs.declared.span.Span.{Span}
use Rattle.spec_trees.specs.Lists.{All}
use Rattle.spec_trees.specs.Limits.{depth_max, divisor_max, work_min}
use Rattle.spec_trees.specs.Within.{OkR, Allowed}
use Rattle.spec_queries.specs.Query.{Criterion, Datas}
use Rattle.spec_queries.specs.Rules.{OkDs, nest_ds}
use Rattle.queries.specs.Places.{HoldsAt, OkAt, array_trees}
use Rattle.data.specs.Value.{Value, WroteFound, end_of, before}
use Rattle.spec_stages.specs.Paths.{Given, join, joins}
use Rattle.spec_stages.specs.Criteria.{holds}
use Rattle.spec_stages.specs.Data.{reduced_tree, values}
use Rattle.paths.specs.Walk.{given, Walk}

-- ---- a path, of which each tree is written as it is, for n = 0, or with its root divided by n

unfoldable pub part : ℕ → Tree → Tree
part n t = cond (eqb n 0) t (reduced_tree n t)

abbrev pub parts : ℕ → Given → Given
parts n x = Option.map (map (part n)) x

-- where roots are divided they must be in range
abbrev pub Rooted : ℕ → Tree → Type 0
Rooted n t = (n ≡ 0 → ⊥) → OkR (root t)

-- a tree stands below the room
pub record LeafReady (w : List ℕ) (tree_at into : Span) (n : ℕ) : Type 0 where
  pub tree : HoldsAt tree_bytes w tree_at
  pub below : tree_at.to ≤ into.from
  pub room : into.from ≤ into.to
  pub area : into.to ≤ length w
  pub divisor : n ≤ divisor_max

-- the same of a tree or the trees of an array, of which f gives the bytes, with a path that is walked
pub record WalkReady {A : Type 0} (f : A → List ℕ) (q : List ℕ) (path_at : Span) (i : ℕ) (w : List ℕ) (at into : Span) (n : ℕ) : Type 0 where
  pub walk : Walk f q path_at i w at
  pub below : at.to ≤ into.from
  pub room : into.from ≤ into.to
  pub area : into.to ≤ length w
  pub divisor : n ≤ divisor_max

-- whatever tree stands there was written
abbrev pub WroteLeaf : (w v : List ℕ) (tree_at into : Span) (n : ℕ) → Out → Type 0
WroteLeaf w v tree_at into n r = (t : Tree) → IsAt w tree_at (tree_bytes t) → Rooted n t
    → Wrote w v into.from into.to (tree_bytes (part n t)) r

-- whatever was written, what stands below the room is as it was, and the end is in the room
pub record Kept (w v : List ℕ) (into : Span) (r : Value) : Type 0 where
  pub below : take into.from v ≡ take into.from w
  pub after : into.from ≤ end_of r into.from
  pub within : end_of r into.from ≤ into.to

-- x was written, behind an array if s is true
abbrev pub WroteParts : (n : ℕ) (s : Bool) (w v : List ℕ) (into : Span) → Value → Given → Type 0
WroteParts n s w v into r x = All (Rooted n) (given x)
    → WroteFound w v into.from into.to (join (before s) (parts n x)) r

-- ---- data

-- a part of the query that P allows stands there, of which f gives the bytes, and an allowed tree below the room
pub record DataReady {A : Type 0} (P : A → Type 0) (f : A → List ℕ) (q : List ℕ) (at : Span) (w : List ℕ) (tree_at into : Span) : Type 0 where
  pub asked : OkAt P f q at
  pub tree : OkAt (Allowed depth_max) tree_bytes w tree_at
  pub below : tree_at.to ≤ into.from
  pub room : into.from ≤ into.to
  pub area : into.to ≤ length w
  pub small : length w ≤ work_min

-- g of whatever stands there was written
abbrev pub Gives : {A : Type 0} (P : A → Type 0) (f : A → List ℕ) (g : A → Tree → Given) (q : List ℕ) (at : Span) (w v : List ℕ) (tree_at into : Span) → Value → Type 0
Gives {A} P f g q at w v tree_at into r =
    (x : A) (t : Tree) → P x → IsAt q at (f x) → Allowed depth_max t → IsAt w tree_at (tree_bytes t)
    → WroteFound w v into.from into.to (g x t) r

-- whatever array stands in q there was written
abbrev pub WroteLiteral : (q : List ℕ) (at : Span) (w v : List ℕ) (into : Span) → Value → Type 0
WroteLiteral q at w v into r = (x : List Tree) → IsAt q at (array_trees x) → WroteFound w v into.from into.to (some x) r

-- the members of a list, where nesting may go d deep
abbrev pub NestedDs : ℕ → Datas → Type 0
NestedDs d ds = OkDs ds × (nest_ds ds ≤ d)

-- the array of a test, and of a list
abbrev pub tested : Criterion → Tree → Given
tested c t = some (node (boolean (holds c t)) bare ∷ [])

-- behind an array if s is true
abbrev pub listed_from : Bool → Datas → Tree → Given
listed_from s ds t = join (before s) (joins (values ds t))
