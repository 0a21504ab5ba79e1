-- The limits of a tracer's message, by name, in bytes.
use Rattle.std.specs.Prelude.{ℕ}

abbrev pub message_max : ℕ
message_max = 4096

abbrev pub name_max : ℕ
name_max = 8

abbrev pub value_max : ℕ
value_max = 80

-- digits of a number before its point
abbrev pub whole_max : ℕ
whole_max = 6
