-- The map of the work area, by name: the parts that stand at fixed places, and the rooms between them. Each of its
-- numbers stands here alone. That all fits is shown in MapLaws.
use Rattle.std.specs.Prelude.{ℕ, ◌+◌, ◌-◌, ◌*◌, ◌/◌}
use Rattle.spec_trees.specs.Limits.{array_max, tree_max, positions_min, work_min}
use Rattle.map.specs.declared.map.Parts.{Parts}

-- the trees of an array of the largest size, without its head
abbrev pub trees_max : ℕ
trees_max = array_max - 3

-- a number of two bytes for each tree that an array may have, its position: those of the arranged trees stand behind
-- them at the front, those of the collected trees at the end of the work area
abbrev pub numbers : ℕ
numbers = 2 * positions_min

-- the front part, in a stretch that begins with a group: the array that entered it
abbrev pub front_part : ℕ
front_part = array_max + numbers

-- the end part, of every tail: the collected array
abbrev pub end_part : ℕ
end_part = array_max

-- where the collector begins, in an area of n bytes
abbrev pub collector_at : ℕ → ℕ
collector_at n = n - end_part

-- what is lent to the stages: all but the positions of the collected trees
abbrev pub lent_part : ℕ
lent_part = work_min - numbers

-- the collected array, at the end of what is lent
abbrev pub collected_at : ℕ
collected_at = collector_at lent_part

-- the position of the collected tree at x, counted from there: a tree has six bytes or more, so no two share a place
abbrev pub position_at : ℕ → ℕ
position_at x = lent_part + 2 * (x / 6)

-- n rooms, of a tree each
abbrev pub rooms : ℕ → ℕ
rooms n = tree_max * n

-- what the building of a tree takes: its own room, and two behind it
abbrev pub building : ℕ
building = rooms 3

-- the least tail in which a tree is fed, besides a room for each stage that it goes through
abbrev pub tail_min : ℕ
tail_min = building + end_part

-- the least tail at a stage: the room of its tree, and the tail behind it
abbrev pub stage_min : ℕ
stage_min = rooms 1 + tail_min

-- the least area of a stretch that begins with a group: the front part, and the tail behind it
abbrev pub group_min : ℕ
group_min = front_part + tail_min

-- the code's constants of these names: `map::all` answers this
abbrev pub parts : Parts
parts = record { trees = trees_max; numbers = numbers; front = front_part; end = end_part; lent = lent_part; collected = collected_at }
