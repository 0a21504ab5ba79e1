-- What happens to an integer in a tree.
use Rattle.std.specs.Prelude.{List, ℕ, ◌+◌, ◌<◌, ◌^◌, ℤ, Ok}
use Rattle.std.specs.Int.Signed.{mag}
use Rattle.spec_trees.specs.Bytes.{big, pattern}
use Rattle.areas.specs.Area.{Is, Wrote}
use Rattle.spec_stages.specs.Data.{reduced_int}

-- whatever integer stands in w at `at`, v has it divided by n
abbrev pub Reduces : (w v : List ℕ) (at n : ℕ) → Type 0
Reduces w v at n = (z : ℤ) → mag z < 2 ^ 63 → Is w at (at + 8) (big 8 (pattern z))
    → Wrote w v at (at + 8) (big 8 (pattern (reduced_int n z))) (Ok (at + 8))
