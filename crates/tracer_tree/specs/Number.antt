-- Numbers in the terms of the code.
use Rattle.std.specs.Prelude.{◌≡◌, List, true, ℕ, ◌≤◌, length, ℤ, Some, None}
use Rattle.std.specs.Prelude as code
use Rattle.std.proofs.Math.Option.{Option, none, some}
use Rattle.spec_trees.specs.Lists.{all}
use Rattle.spec_trees.specs.Bytes.{pattern}
use Rattle.spec_tracer.specs.Limits.{whole_max}
use Rattle.spec_tracer.specs.Message.{is_digit}

-- hundredths, if the bytes are a number
abbrev pub amount_of : Option ℕ → code.Option ℕ
amount_of none = None
amount_of (some n) = Some n

-- an integer by its 64 bits
abbrev pub bits_of : Option ℤ → code.Option ℕ
bits_of none = None
bits_of (some z) = Some (pattern z)

-- digits, no more than may be
pub record Digits (d : List ℕ) : Type 0 where
  pub short : length d ≤ whole_max
  pub digits : all is_digit d ≡ true
