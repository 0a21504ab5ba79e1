-- Names as numbers: their bytes, high byte first.
use Rattle.std.specs.Prelude.{◌≡◌, List, [], ◌∷◌, true, cond, ℕ, zero, suc, ◌-◌, ◌≤◌, length, eqb, Option, Some, None}
use Rattle.spec_trees.specs.Lists.{all}
use Rattle.spec_trees.specs.Readers.{low_value, big_value}
use Rattle.spec_tracer.specs.Limits.{name_max}
use Rattle.spec_tracer.specs.Message.{is_name_byte}
use Rattle.spec_tracer.specs.Traced.{names}
use Rattle.tracer_lines.specs.Piece.{part}

-- the label of the name with this number among these, the first of which has label k
unfoldable pub word_among : ℕ → List (List ℕ) → ℕ → Option ℕ
word_among k [] w = None
word_among k (x ∷ xs) w = cond (eqb w (big_value x)) (Some k) (word_among (suc k) xs w)

unfoldable pub word_label : ℕ → Option ℕ
unfolding word_among low_value big_value
word_label w = word_among 1 names w

-- a label, of which 0 says that there is none
abbrev pub label_of : ℕ → Option ℕ
label_of zero = None
label_of (suc k) = Some (suc k)

-- no more bytes than a name may have, each of its kind
pub record NameBytes (n : List ℕ) : Type 0 where
  pub short : length n ≤ name_max
  pub bytes : all is_name_byte n ≡ true

-- a name's bytes stand there
pub record NameAt (m : List ℕ) (from to : ℕ) : Type 0 where
  pub above : from ≤ to
  pub inside : to ≤ length m
  pub short : to - from ≤ name_max
  pub bytes : all is_name_byte (part from to m) ≡ true
