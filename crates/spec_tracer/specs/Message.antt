-- A tracer's message: lines, each a name, an equals sign, one or two values parted by a semicolon, then the bytes 0D 0A.
use Rattle.std.specs.Prelude.{List, [], ◌∷◌, ◌++◌, Bool, false, cond, not, ◌&&◌, ◌||◌, ℕ, length, eqb, leb}
use Rattle.spec_trees.specs.Lists.{all}
use Rattle.spec_tracer.specs.Limits.{name_max, value_max}

-- ---- bytes that stand between the parts of a line
abbrev pub equals : ℕ
equals = 61

abbrev pub semicolon : ℕ
semicolon = 59

abbrev pub carriage_return : ℕ
carriage_return = 13

abbrev pub line_feed : ℕ
line_feed = 10

-- ---- names and values
unfoldable pub is_capital : ℕ → Bool
is_capital b = leb 65 b && leb b 90

unfoldable pub is_digit : ℕ → Bool
is_digit b = leb 48 b && leb b 57

unfoldable pub is_name_byte : ℕ → Bool
is_name_byte b = is_capital b || is_digit b

-- printable, 20 to 7E hexadecimal, and no semicolon
unfoldable pub is_value_byte : ℕ → Bool
is_value_byte b = leb 32 b && leb b 126 && not (eqb b semicolon)

unfoldable pub begins : (ℕ → Bool) → List ℕ → Bool
begins f [] = false
begins f (b ∷ c) = f b

-- the bytes up to the first that does not pass, and what is left
unfoldable pub front : (ℕ → Bool) → List ℕ → List ℕ
front f [] = []
front f (b ∷ m) = cond (f b) (b ∷ front f m) []

unfoldable pub behind : (ℕ → Bool) → List ℕ → List ℕ
behind f [] = []
behind f (b ∷ m) = cond (f b) (behind f m) (b ∷ m)

-- 1 to 8 capital letters or digits, beginning with a letter
unfoldable pub is_name : List ℕ → Bool
is_name n = begins is_capital n && all is_name_byte n && leb (length n) name_max

-- empty, or 1 to 80 printable bytes. A number is one of these
unfoldable pub is_value : List ℕ → Bool
is_value v = all is_value_byte v && leb (length v) value_max

-- ---- lines: a name and its values
abbrev pub Line : Type 0
Line = List ℕ × List (List ℕ)

-- ---- their bytes
unfoldable pub values_bytes : List (List ℕ) → List ℕ
values_bytes [] = []
values_bytes (v ∷ []) = v
values_bytes (v ∷ u ∷ us) = v ++ (semicolon ∷ values_bytes (u ∷ us))

unfoldable pub line_bytes : Line → List ℕ
line_bytes l = l.0 ++ (equals ∷ (values_bytes l.1 ++ (carriage_return ∷ line_feed ∷ [])))

unfoldable pub message_bytes : List Line → List ℕ
message_bytes [] = []
message_bytes (l ∷ ls) = line_bytes l ++ message_bytes ls

-- a name as it must be, and one or two values as they must be
unfoldable pub is_line : Line → Bool
is_line l = is_name l.0 && all is_value l.1 && leb 1 (length l.1) && leb (length l.1) 2
