-- Numbers of several bytes, high byte first, in the terms of the code.
use Rattle.std.specs.Prelude.{List, [], ◌∷◌, ℕ, ◌+◌, ◌*◌, ◌/◌, ◌%◌, get_or}

-- the number of two bytes that stands at `at`, and the bytes of one
abbrev pub two_at : List ℕ → ℕ → ℕ
two_at s at = get_or s at 0 * 256 + get_or s (at + 1) 0

abbrev pub two_bytes : ℕ → List ℕ
two_bytes n = n / 256 ∷ n % 256 ∷ []

-- the number of eight bytes that stands at `at`, byte by byte
unfoldable pub word_at : List ℕ → ℕ → ℕ
word_at s at =
    ((((((get_or s at 0 * 256 + get_or s (at + 1) 0) * 256 + get_or s (at + 2) 0) * 256 + get_or s (at + 3) 0) * 256 + get_or s (at + 4) 0) * 256 + get_or s (at + 5) 0) * 256 + get_or s (at + 6) 0) * 256
    + get_or s (at + 7) 0
