-- What an answer of the C interface says: it is the number times 2 to the power 32, and the length. `TQUERY_NUMBER` and
-- `TQUERY_LENGTH` of `include/tquery.h` are these.
use Rattle.std.specs.Prelude.{ℕ, ◌/◌, ◌%◌}

abbrev pub number_from : ℕ → ℕ
number_from r = r / 4294967296

abbrev pub length_from : ℕ → ℕ
length_from r = r % 4294967296
