-- All parts of the map fit in the least work area; those of the stages in what is lent to them.
use Rattle.std.specs.Prelude.{ℕ, ◌+◌, ◌≤◌, ◌<◌}
use Rattle.std.proofs.Common.{arith}
use Rattle.spec_trees.specs.Limits.{stages_max}
use Rattle.map.specs.Map.{lent_part, rooms, tail_min, group_min}

-- the first stretch: a room for each stage, those for building, and the end part
pub first_fits : (n : ℕ) → n ≤ stages_max → rooms n + tail_min ≤ lent_part
first_fits n b = omega arith

-- a stretch that begins with a group, which leaves one stage less: the front part before them
pub group_fits : (n : ℕ) → n < stages_max → rooms n + group_min ≤ lent_part
group_fits n b = omega arith
