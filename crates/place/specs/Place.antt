-- Places: the bytes of a void tree with one label, and of a place along a path; the room that its heads take; and what
-- writers of such heads promise.
use Rattle.std.specs.Prelude.{List, [], ◌∷◌, ℕ, zero, suc, ◌+◌}
use Rattle.spec_trees.specs.Bytes.{field_bytes, label_heads}
use Rattle.areas.specs.Area.{IsAt, Out}
use Rattle.areas.specs.declared.span.Span.{Span}
use Rattle.format.specs.Stand.{entry_of, Headed}
use Rattle.spec_queries.specs.Query.{Path}
use Rattle.queries.specs.Places.{path_bytes}
use Rattle.queries.specs.Steps.{step_at}

-- ---- bytes, from the bytes of an array's trees
-- a void tree whose one label k holds that array
unfoldable pub under : ℕ → List ℕ → List ℕ
under k c = field_bytes (2, 3 ∷ 0 ∷ 0 ∷ entry_of k c)

-- the array placed along a path: one void tree in another
unfoldable pub place_bytes : Path → List ℕ → List ℕ
place_bytes [] c = c
place_bytes (k ∷ p) c = under k (place_bytes p c)

-- ---- room
-- the bytes that a place has before its array: at each step the heads of a tree and of its root, and those of the label
unfoldable pub place_room : Path → ℕ
place_room [] = 0
place_room (k ∷ p) = 6 + label_heads k + place_room p

-- of the first i steps of the path that stands in q there
unfoldable pub room_at : List ℕ → Span → ℕ → ℕ
room_at q path_at zero = 0
room_at q path_at (suc i) = room_at q path_at i + (6 + label_heads (step_at q path_at i))

-- ---- heads
-- what a writer of heads along the path that stands in q there promises
abbrev pub Placed : (w v q : List ℕ) (target_at : Span) (d : ℕ) → Out → Out → Type 0
Placed w v q target_at d r o = (path : Path) → IsAt q target_at (path_bytes path)
    → Headed (place_bytes path) (place_room path) w v d r o
