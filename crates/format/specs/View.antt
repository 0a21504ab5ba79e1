-- What a view of a field says: the head of the field that spans the first n bytes.
use Rattle.std.specs.Prelude.{List, cond, ℕ, length, leb, None}
use Rattle.format.specs.Head.{Head, span_at}

abbrev pub span_of : List ℕ → ℕ → Head
span_of s n = cond (leb n (length s)) (span_at s 0 n) None
