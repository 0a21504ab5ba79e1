use Rattle.std.proofs.Common.{◌≡◌, ◌+◌, ◌≤◌, length, drop}
use Rattle.areas.specs.Area.{IsAt}
use Rattle.format.specs.Stand.{Behind, Headed}
use Rattle.spec_queries.specs.Query.{Path}
use Rattle.queries.specs.Places.{path_bytes}
use Rattle.queries.specs.Steps.{step_count}
use Rattle.place.specs.Place.{place_bytes, place_room, room_at}
use Rattle.place.proofs.place.place_heads.Given as goal

abbrev pub invariant-loop-i : goal.invariant-loop-i
invariant-loop-i l =
    (l.i ≤ step_count l.query l.target) × (length l.work ≡ length l.initial.work) × (l.to ≡ l.at + room_at l.query
    l.target l.i) × (l.to ≤ length l.initial.work) × Behind l.work l.to l.out × ((path : Path) → IsAt l.query l.target
    (path_bytes path) → Headed (place_bytes (drop l.i path)) (place_room (drop l.i path)) l.initial.work l.work l.to
    l.initial.out l.out)
