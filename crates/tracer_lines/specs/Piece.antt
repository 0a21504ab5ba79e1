-- Pieces of bytes by their places.
use Rattle.std.specs.Prelude.{◌≡◌, List, Bool, ℕ, ◌+◌, ◌-◌, length, take, drop, eqb}
use Rattle.spec_tracer.specs.Message.{begins, front}

-- a part, as a call that lends it has it
abbrev pub part : ℕ → ℕ → List ℕ → List ℕ
part from to s = take (to - from) (drop from s)

-- where the bytes that pass end, from a place on
unfoldable pub piece_end : (ℕ → Bool) → List ℕ → ℕ → ℕ
piece_end f s from = from + length (front f (drop from s))

-- what a test answers of a byte is what f tells
abbrev pub Tells : (ℕ → Bool → Type 0) → (ℕ → Bool) → Type 0
Tells answers f = (b : ℕ) (r : Bool) → answers b r → r ≡ f b

-- whether this byte stands there
unfoldable pub stands_at : List ℕ → ℕ → ℕ → Bool
stands_at s at x = begins (λ b. eqb b x) (drop at s)
