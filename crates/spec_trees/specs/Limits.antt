-- The limits of the format, by name. Sizes are in bytes and count a field's head.
use Rattle.std.specs.Prelude.{ℕ}

-- an array, a tree, a query
abbrev pub array_max : ℕ
array_max = 16384

abbrev pub tree_max : ℕ
tree_max = 2048

abbrev pub query_max : ℕ
query_max = 4096

-- levels of trees, those of the outer array being the first
abbrev pub depth_max : ℕ
depth_max = 16

-- labels are 1 to this
abbrev pub label_max : ℕ
label_max = 255

-- bytes of a text
abbrev pub text_max : ℕ
text_max = 255

-- labels of a path
abbrev pub path_max : ℕ
path_max = 8

-- criteria and data, one inside another, the outermost included
abbrev pub nest_max : ℕ
nest_max = 8

-- stages of a query
abbrev pub stages_max : ℕ
stages_max = 8

-- items of a project
abbrev pub items_max : ℕ
items_max = 16

-- members of a list of data
abbrev pub members_max : ℕ
members_max = 8

-- pairs of a group: aggregates, and grouping
abbrev pub aggregates_max : ℕ
aggregates_max = 8

abbrev pub grouping_max : ℕ
grouping_max = 4

-- divisors of a reduced path are 1 to this
abbrev pub divisor_max : ℕ
divisor_max = 10000

-- the least work area that a run takes
abbrev pub work_min : ℕ
work_min = 65536

-- the least position area that a run takes, in entries: as many as an array has trees, of six bytes or more
abbrev pub positions_min : ℕ
positions_min = 2730
