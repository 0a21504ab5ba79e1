-- Where a piece of the program's input ends.
use Rattle.std.specs.Prelude.{List, ℕ, ◌+◌, min, length, drop}
use Rattle.spec_run.specs.Program.{headed}

-- it is as long as its head says, or what is left
abbrev pub piece_end : List ℕ → ℕ → ℕ
piece_end s from = min (from + headed (drop from s)) (length s)
