-- A message read from its first byte to its last. Nothing here need be believed: that a message is read as the lines whose
-- bytes it is, and as no others, is `message_form` of MessageLaws.
use Rattle.std.specs.Prelude.{List, [], ◌∷◌, Bool, cond, ℕ, zero, suc, length, eqb}
use Rattle.std.proofs.Math.Option.{Option, none, some, map}
use Rattle.spec_trees.specs.Options.{◌>>=◌, only}
use Rattle.spec_tracer.specs.Message.{equals, semicolon, carriage_return, line_feed, is_name_byte, is_value_byte, is_name, is_value, front, behind, Line}

-- what was read, and what is left
abbrev pub Read : Type 0 → Type 0
Read A = Option (A × List ℕ)

-- the longest piece of such bytes, if it is as it must be
unfoldable pub piece : (ℕ → Bool) → (List ℕ → Bool) → List ℕ → Read (List ℕ)
piece f whole m = only (whole (front f m)) (some (front f m, behind f m))

-- just this byte
unfoldable pub expect : ℕ → List ℕ → Option (List ℕ)
expect x [] = none
expect x (b ∷ m) = only (eqb b x) (some m)

unfoldable pub name : List ℕ → Read (List ℕ)
name m = piece is_name_byte is_name m

unfoldable pub value : List ℕ → Read (List ℕ)
value m = piece is_value_byte is_value m

-- the value v and another
abbrev pub both : List ℕ → List ℕ × List ℕ → List (List ℕ) × List ℕ
both v p = (v ∷ p.0 ∷ [], p.1)

-- behind the value v: a semicolon and another value, or nothing more
unfoldable pub second : List ℕ → List ℕ → Read (List (List ℕ))
second v [] = some (v ∷ [], [])
second v (b ∷ m) = cond (eqb b semicolon) (map (both v) (value m)) (some (v ∷ [], b ∷ m))

unfoldable pub values : List ℕ → Read (List (List ℕ))
values m = value m >>= λ p. second p.0 p.1

unfoldable pub line : List ℕ → Read Line
line m =
    name m >>= λ n.
    expect equals n.1 >>= λ c.
    values c >>= λ v.
    expect carriage_return v.1 >>= λ d.
    expect line_feed d >>= λ r.
    some ((n.0, v.0), r)

-- at most n lines that take all the bytes
unfoldable pub lines : ℕ → List ℕ → Option (List Line)
lines zero [] = some []
lines zero (b ∷ m) = none
lines (suc n) [] = some []
lines (suc n) (b ∷ m) = line (b ∷ m) >>= λ l. map (λ ls. l.0 ∷ ls) (lines n l.1)

-- there are no more lines than bytes
unfoldable pub message : List ℕ → Option (List Line)
message m = lines (length m) m
