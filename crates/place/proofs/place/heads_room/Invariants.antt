use Rattle.std.proofs.Common.{◌≡◌, ◌≤◌}
use Rattle.queries.specs.Steps.{step_count}
use Rattle.place.specs.Place.{room_at}
use Rattle.place.proofs.place.heads_room.Given as goal

abbrev pub invariant-loop-i : goal.invariant-loop-i
invariant-loop-i l = (l.i ≤ step_count l.query l.target) × (l.all ≡ room_at l.query l.target l.i)
