-- What the functions of `unwind` promise: where a label's entry stands among the others, how many outcomes there are,
-- the outcome that comes j-th, and a tree written around what was put under its label.
use Rattle.std.specs.Prelude.{◌≡◌, List, [], ◌∷◌, ◌++◌, ℕ, ◌+◌, ◌-◌, ◌≤◌, ◌<◌, length, drop, get_or, Ok as At}
use Rattle.std.proofs.Math.Option.{some}
use Rattle.spec_trees.specs.Limits.{label_max, work_min}
use Rattle.spec_trees.specs.Lists.{gather}
use Rattle.spec_trees.specs.Tree.{Tree, Trees, list, labels, find}
use Rattle.spec_trees.specs.Bytes.{field_bytes, tree_bytes, label_heads}
use Rattle.spec_trees.specs.Within.{Ok, OkA}
use Rattle.areas.specs.Area.{Is, IsAt, Wrote, Out}
use Rattle.areas.specs.declared.span.Span.{Span}
use Rattle.format.specs.Stand.{trees_bytes, entry_of}
use Rattle.spec_queries.specs.Query.{Path}
use Rattle.queries.specs.Places.{path_bytes, HoldsAt}
use Rattle.unwind.specs.declared.unwind.Nth.{Nth}
use Rattle.unwind.specs.declared.unwind.Nth.TheVariants.{Written, Past}
use Rattle.spec_stages.specs.Unwind.{holding, unwound}

-- ---- a well formed tree, and well formed trees: labels rise, so that a label's entry has one place
pub record Sound : Type 0 where
  pub tree : Tree
  pub ok : Ok tree

pub record Sounds : Type 0 where
  pub trees : Trees
  pub ok : OkA trees

abbrev pub sound_bytes : Sound → List ℕ
sound_bytes s = tree_bytes s.tree

abbrev pub sounds_bytes : Sounds → List ℕ
sounds_bytes s = trees_bytes s.trees

-- ---- the entry of the label k, with its array, in the tree x, which stands in w: before it stand the root and the labels
-- before
pub record TreeEntry (w : List ℕ) (k : ℕ) (tree_at array_at : Span) (x : Tree) : Type 0 where
  pub array : Trees
  pub front : List ℕ
  pub back : List ℕ
  pub same : find k (labels x) ≡ some (list array)
  pub front_is : Is w (tree_at.from + 3) (array_at.from - label_heads k) front
  pub array_is : IsAt w array_at (trees_bytes array)
  pub back_is : Is w array_at.to tree_at.to back
  pub heads : tree_at.from + (6 + label_heads k) ≤ array_at.from
  pub holding_is : (u : Tree) → tree_bytes (holding k x u) ≡ field_bytes (2, front ++ (entry_of k (tree_bytes u) ++ back))

-- in whatever well formed tree stands there
abbrev pub EntryAt : (w : List ℕ) (k : ℕ) (tree_at array_at : Span) → Type 0
EntryAt w k tree_at array_at = (x : Tree) → Ok x → IsAt w tree_at (tree_bytes x) → TreeEntry w k tree_at array_at x

-- ---- how many outcomes
abbrev pub Counts : (q : List ℕ) (path_at : Span) (i : ℕ) (w : List ℕ) (tree_at : Span) (n : ℕ) → Type 0
Counts q path_at i w tree_at n = (path : Path) (t : Tree) → IsAt q path_at (path_bytes path) → IsAt w tree_at (tree_bytes t)
    → n ≡ length (unwound (drop i path) t)

abbrev pub CountsEach : (q : List ℕ) (path_at : Span) (i : ℕ) (w : List ℕ) (trees_at : Span) (n : ℕ) → Type 0
CountsEach q path_at i w trees_at n =
    (path : Path) (ts : Trees) → IsAt q path_at (path_bytes path) → IsAt w trees_at (trees_bytes ts)
    → n ≡ length (gather (unwound (drop i path)) (list ts))

-- ---- the j-th outcome
-- the room is no smaller than the place: no outcome is larger than its tree
abbrev pub RoomFor : (at into : Span) → Type 0
RoomFor at into = into.from + (at.to - at.from) ≤ into.to

-- of the trees us: it was written into the room; or there are not so many, and of us c more are asked than there are
pub record NthIs (w v : List ℕ) (into : Span) (us : List Tree) (j : ℕ) (r : Nth) : Type 0 where
  pub written : (o : Out) → r ≡ Written o
      → (j < length us) × ((t : Tree) → Wrote w v into.from into.to (tree_bytes (get_or us j t)) o)
  pub past : (c : ℕ) → r ≡ Past c → (length us + c ≡ j) × (v ≡ w)

-- a tree alone
abbrev pub PutsWhole : (w v : List ℕ) (tree_at : Span) (j : ℕ) (into : Span) → Nth → Type 0
PutsWhole w v tree_at j into r = (t : Tree) → IsAt w tree_at (tree_bytes t) → NthIs w v into (t ∷ []) j r

abbrev pub PutsNth : (w v q : List ℕ) (path_at : Span) (i : ℕ) (tree_at : Span) (j : ℕ) (into : Span) → Nth → Type 0
PutsNth w v q path_at i tree_at j into r =
    (path : Path) (t : Tree) → IsAt q path_at (path_bytes path) → Ok t → IsAt w tree_at (tree_bytes t)
    → NthIs w v into (unwound (drop i path) t) j r

abbrev pub PutsNthEach : (w v q : List ℕ) (path_at : Span) (i : ℕ) (trees_at : Span) (j : ℕ) (into : Span) → Nth → Type 0
PutsNthEach w v q path_at i trees_at j into r =
    (path : Path) (ts : Trees) → IsAt q path_at (path_bytes path) → OkA ts → IsAt w trees_at (trees_bytes ts)
    → NthIs w v into (gather (unwound (drop i path)) (list ts)) j r

-- there is a j-th outcome by the whole path
abbrev pub Has : (w q : List ℕ) (path_at tree_at : Span) (j : ℕ) → Type 0
Has w q path_at tree_at j =
    (path : Path) (t : Tree) → IsAt q path_at (path_bytes path) → Ok t → IsAt w tree_at (tree_bytes t)
    → j < length (unwound path t)

abbrev pub PutsOutcome : (w v q : List ℕ) (path_at tree_at : Span) (j : ℕ) (into : Span) → Out → Type 0
PutsOutcome w v q path_at tree_at j into r =
    (path : Path) (t : Tree) → IsAt q path_at (path_bytes path) → Ok t → IsAt w tree_at (tree_bytes t)
    → Wrote w v into.from into.to (tree_bytes (get_or (unwound path t) j t)) r

-- ---- the tree, written around a content that was put in the place of the array under its label k
-- where that content begins: just as far behind the room's start as the array stands behind the tree's
abbrev pub content_at : (tree_at array_at into : Span) → ℕ
content_at tree_at array_at into = into.from + (array_at.from - tree_at.from)

-- what that needs
pub record Around (w : List ℕ) (k : ℕ) (tree_at array_at into : Span) (r : Out) : Type 0 where
  pub label : k ≤ label_max
  pub heads : tree_at.from + (6 + label_heads k) ≤ array_at.from
  pub order : array_at.from ≤ array_at.to
  pub within : array_at.to ≤ tree_at.to
  pub below : tree_at.to ≤ into.from
  pub room : content_at tree_at array_at into ≤ into.to
  pub inside : into.to ≤ length w
  pub small : length w ≤ work_min
  pub ends : (e : ℕ) → r ≡ At e → (content_at tree_at array_at into ≤ e) × (e ≤ into.to)

-- whatever content that was, the root and the labels before, the entry with the content, and the labels behind are a
-- tree's
abbrev pub Surrounds : (w v : List ℕ) (k : ℕ) (tree_at array_at into : Span) → Out → Out → Type 0
Surrounds w v k tree_at array_at into r o =
    (u front back c : List ℕ) → into.to ≤ length u → Is u (tree_at.from + 3) (array_at.from - label_heads k) front
    → Is u array_at.to tree_at.to back → Wrote u w (content_at tree_at array_at into) into.to c r
    → Wrote u v into.from into.to (field_bytes (2, front ++ (entry_of k c ++ back))) o

-- ---- one element
-- a well formed tree stands there, with the array of its label k, and another tree, both below the room, which is no
-- smaller than the tree
pub record ElementReady (w : List ℕ) (k : ℕ) (tree_at array_at element_at into : Span) : Type 0 where
  pub tree : Tree
  pub ok : Ok tree
  pub tree_is : IsAt w tree_at (tree_bytes tree)
  pub entry : EntryAt w k tree_at array_at
  pub label : k ≤ label_max
  pub element : HoldsAt tree_bytes w element_at
  pub below : (tree_at.to ≤ into.from) × (element_at.to ≤ into.from)
  pub room : RoomFor tree_at into
  pub inside : into.to ≤ length w
  pub small : length w ≤ work_min

abbrev pub PutsElement : (w v : List ℕ) (k : ℕ) (tree_at element_at into : Span) → Out → Type 0
PutsElement w v k tree_at element_at into r =
    (t u : Tree) → Ok t → IsAt w tree_at (tree_bytes t) → IsAt w element_at (tree_bytes u)
    → Wrote w v into.from into.to (tree_bytes (holding k t u)) r
