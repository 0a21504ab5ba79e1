-- A path's application, read where the path and the tree stand: what readers of it say, in the terms of the code. The
-- path stands in q and is read from its step i on; the tree stands in s.
use Rattle.std.specs.Prelude.{◌≡◌, List, [], map, Bool, ◌&&◌, ℕ, ◌+◌, ◌≤◌, ◌<◌, length, drop, get_or, Option, Some, None, Result, Ok, Err}
use Rattle.std.proofs.Math.Option.{none, some}
use Rattle.spec_trees.specs.Tree.{Tree, Trees, list, trees, bare_void}
use Rattle.spec_trees.specs.Bytes.{tree_bytes}
use Rattle.areas.specs.Area.{Is, IsAt}
use Rattle.areas.specs.declared.span.Span.{Span}
use Rattle.spec_trees.specs.Lists.{same_bytes}
use Rattle.spec_trees.specs.Limits.{depth_max}
use Rattle.spec_trees.specs.Within.{Allowed, AllowedA}
use Rattle.format.specs.Stand.{trees_bytes, FoundIs}
use Rattle.spec_queries.specs.Query.{Route}
use Rattle.queries.specs.Places.{route_bytes, HoldsAt}
use Rattle.queries.specs.Steps.{step_count, step_at}
use Rattle.paths.specs.declared.equality.Application.{Application}
use Rattle.spec_stages.specs.Paths.{Given, present, joins, over, reached, apply}
use Rattle.spec_stages.specs.Equality.{same_given}
use Rattle.format.specs.Labels.{Found}

-- where a tree of an array stands; or that there are fewer, with what is left of its number when all are passed
abbrev pub Element : Type 0
Element = Result Span ℕ

-- where the bytes that were looked for end; or that other bytes stand there
abbrev pub Compared : Type 0
Compared = Option ℕ

-- the trees that an application gives: absent gives none
unfoldable pub given : Given → List Tree
given none = []
given (some a) = a

-- their bytes, one behind another
abbrev pub given_bytes : Given → List ℕ
given_bytes x = trees_bytes (trees (given x))

-- whether an application is present and gives the trees that o is the bytes of
abbrev pub is_array : Given → List ℕ → Bool
is_array x o = present x && same_bytes (given_bytes x) o

-- ---- what a walk asks for

-- a path stands there, with i steps or more, and a tree, or the trees of an array, of which f gives the bytes
pub record Walk {A : Type 0} (f : A → List ℕ) (q : List ℕ) (path_at : Span) (i : ℕ) (s : List ℕ) (at : Span) : Type 0 where
  pub path : HoldsAt route_bytes q path_at
  pub step : i ≤ step_count q path_at
  pub stands : HoldsAt f s at

-- ---- what it says, of whatever path and tree stand there

-- P holds of what the path gives of the tree
abbrev pub Tells : (q : List ℕ) (path_at : Span) (i : ℕ) (s : List ℕ) (tree_at : Span) → (Given → Type 0) → Type 0
Tells q path_at i s tree_at P = (path : Route) (t : Tree) → IsAt q path_at (route_bytes path) → IsAt s tree_at (tree_bytes t)
    → P (apply (drop i path) t)

-- P holds of what the path gives over an array
abbrev pub TellsOver : (q : List ℕ) (path_at : Span) (i : ℕ) (s : List ℕ) (trees_at : Span) → (Given → Type 0) → Type 0
TellsOver q path_at i s trees_at P = (path : Route) (ts : Trees) → IsAt q path_at (route_bytes path) → IsAt s trees_at (trees_bytes ts)
    → P (over (apply (drop i path)) (list ts))

-- P holds of what the path gives of each tree, joined: of the trees that are left, in a loop over an array
abbrev pub TellsJoined : (q : List ℕ) (path_at : Span) (i : ℕ) (s : List ℕ) (trees_at : Span) → (Given → Type 0) → Type 0
TellsJoined q path_at i s trees_at P = (path : Route) (ts : Trees) → IsAt q path_at (route_bytes path) → IsAt s trees_at (trees_bytes ts)
    → P (joins (map (apply (drop i path)) (list ts)))

-- where what step i reaches of the tree stands in it
abbrev pub Under : (q : List ℕ) (path_at : Span) (i : ℕ) (s : List ℕ) (tree_at : Span) → Found → Type 0
Under q path_at i s tree_at r = (t : Tree) → IsAt s tree_at (tree_bytes t)
    → FoundIs s tree_at (reached (step_at q path_at i) t) r

-- ---- the answers

-- tree j of xs stands at `one`, within `at`
pub record PartIs (s : List ℕ) (at : Span) (j : ℕ) (xs : List Tree) (one : Span) : Type 0 where
  pub below : j < length xs
  pub tree_is : IsAt s one (tree_bytes (get_or xs j bare_void))
  pub after : at.from ≤ one.from
  pub within : one.to ≤ at.to

-- where tree j of xs stands, or what is left of j when all of xs are passed
pub record ElementIs (s : List ℕ) (at : Span) (j : ℕ) (xs : List Tree) (r : Element) : Type 0 where
  pub part : (one : Span) → r ≡ Ok one → PartIs s at j xs one
  pub fewer : (n : ℕ) → r ≡ Err n → j ≡ length xs + n

-- whether xs stands in o from `at` on, and where it ends
pub record ComparedIs (o : List ℕ) (at : ℕ) (xs : List ℕ) (r : Compared) : Type 0 where
  pub same : (n : ℕ) → r ≡ Some n → Is o at n xs
  pub differs : r ≡ None → (n : ℕ) → Is o at n xs → ⊥

-- ---- an array that stands in one piece

-- r is the bytes of whatever trees stand in s there
abbrev pub OperandIs : (s : List ℕ) (at : Span) → List ℕ → Type 0
OperandIs s at r = (ts : Trees) → IsAt s at (trees_bytes ts) → r ≡ trees_bytes ts

-- ---- two applications, each of a path in one query to a tree
abbrev pub application : Span → Span → Application
application p t = record { path = p; tree = t }

-- P holds of what the one gives and of what the other gives
abbrev pub TellsBoth : (q s : List ℕ) (x : Application) (s2 : List ℕ) (y : Application) → (Given → Given → Type 0) → Type 0
TellsBoth q s x s2 y P = Tells q x.path 0 s x.tree (λ a. Tells q y.path 0 s2 y.tree (P a))

-- r is whether tree j of the one is tree j of the other, if both have so many
abbrev pub SameNth : ℕ → Bool → Given → Given → Type 0
SameNth j r x y = j < length (given x) → j < length (given y)
    → r ≡ same_bytes (tree_bytes (get_or (given x) j bare_void)) (tree_bytes (get_or (given y) j bare_void))

-- r is whether the path gives the literal's array, of whatever path, allowed tree and allowed array stand there
abbrev pub EqualsLiteral : (q : List ℕ) (path_at literal_at : Span) (s : List ℕ) (tree_at : Span) → Bool → Type 0
EqualsLiteral q path_at literal_at s tree_at r =
    (path : Route) (array : List Tree) (t : Tree) → IsAt q path_at (route_bytes path) → AllowedA array
    → IsAt q literal_at (trees_bytes (trees array)) → Allowed depth_max t → IsAt s tree_at (tree_bytes t)
    → r ≡ same_given (apply path t) (some array)

-- what is found stands within the area
abbrev pub FoundInside : List ℕ → Found → Type 0
FoundInside s found = (at : Span) → found ≡ Some at → (at.from ≤ at.to) × (at.to ≤ length s)

-- r is whether two that are found, or are missing, are equal
abbrev pub SameFound : (s : List ℕ) (one : Found) (s2 : List ℕ) (other : Found) → Bool → Type 0
SameFound s one s2 other r =
    (x y : Given) (at at2 : Span) → FoundIs s at x one → FoundIs s2 at2 y other → AllowedA (given x) → AllowedA (given y)
    → r ≡ same_given x y

-- r is whether the two applications are equal, of whatever paths and allowed trees stand there
abbrev pub EqualPaths : (q s : List ℕ) (x : Application) (s2 : List ℕ) (y : Application) → Bool → Type 0
EqualPaths q s x s2 y r =
    (path path2 : Route) (t u : Tree) → IsAt q x.path (route_bytes path) → IsAt q y.path (route_bytes path2)
    → Allowed depth_max t → IsAt s x.tree (tree_bytes t) → Allowed depth_max u → IsAt s2 y.tree (tree_bytes u)
    → r ≡ same_given (apply path t) (apply path2 u)
