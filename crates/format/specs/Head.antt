-- A field's head at a place of the bytes, and the field that spans a part of them, in the terms of the code.
use Rattle.std.specs.Prelude.{List, [], ◌∷◌, cond, ℕ, ◌+◌, ◌*◌, length, get_or, eqb, leb, Option, Some, None}
use Rattle.std.proofs.Math.Seq.{slice}
use Rattle.areas.specs.Area.{span}
use Rattle.format.specs.declared.head.FieldAt.{FieldAt}

-- what stands at a place: a field, or none that is whole
abbrev pub Head : Type 0
Head = Option FieldAt

abbrev pub field_at : ℕ → ℕ → ℕ → FieldAt
field_at tag from to = record { tag = tag; content = span from to }

-- the content length that the head at `at` gives
abbrev pub len_at : List ℕ → ℕ → ℕ
len_at s at = get_or s (at + 1) 0 * 256 + get_or s (at + 2) 0

-- the two bytes at `at` as a number, low byte first
abbrev pub low_two : List ℕ → ℕ → ℕ
low_two s at = get_or s at 0 + get_or s (at + 1) 0 * 256

-- the first field of these bytes, which stand at `at`
unfoldable pub first_field : ℕ → List ℕ → Head
first_field at [] = None
first_field at (t ∷ []) = None
first_field at (t ∷ h ∷ []) = None
first_field at (t ∷ h ∷ l ∷ c) = cond (leb (h * 256 + l) (length c)) (Some (field_at t (at + 3) (at + 3 + (h * 256 + l)))) None

-- the field whose head is at `at` and which ends at or before `end`
unfoldable pub head_at : List ℕ → ℕ → ℕ → Head
head_at s at end = first_field at (slice at end s)

-- a field counts only if it ends at `end`
unfoldable pub ends_at : ℕ → Head → Head
ends_at end None = None
ends_at end (Some f) = cond (eqb f.content.to end) (Some f) None

-- the field that spans the bytes from `at` to `end`
unfoldable pub span_at : List ℕ → ℕ → ℕ → Head
span_at s at end = ends_at end (head_at s at end)
