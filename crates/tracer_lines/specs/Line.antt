-- What the readers of a line say.
use Rattle.std.specs.Prelude.{◌≡◌, List, Bool, not, ◌&&◌, ℕ, ◌+◌, ◌-◌, ◌≤◌, ◌<◌, length, drop, get_or, eqb, leb, Option, Some, None}
use Rattle.std.proofs.Math.Option.{none, some}
use Rattle.spec_tracer.specs.Limits.{name_max}
use Rattle.spec_tracer.specs.Message.{is_capital}
use Rattle.spec_tracer.specs.Reading.{values, line}
use Rattle.tracer_lines.specs.declared.line.Line.{Line}
use Rattle.tracer_lines.specs.Piece.{part}
use Rattle.tracer_lines.specs.Label.{NameAt}

-- bytes of a name's kind are a name
unfoldable pub is_name_at : List ℕ → ℕ → ℕ → Bool
is_name_at m from to = not (eqb from to) && leb (to - from) name_max && is_capital (get_or m from 0)

-- the values from a place on end at another
pub record ValuesAt (m : List ℕ) (from e : ℕ) : Type 0 where
  pub given : List (List ℕ)
  pub read : values (drop from m) ≡ some (given, drop e m)
  pub above : from ≤ e
  pub inside : e ≤ length m

pub record ValuesEnd (m : List ℕ) (from : ℕ) (r : Option ℕ) : Type 0 where
  pub at : (e : ℕ) → r ≡ Some e → ValuesAt m from e
  pub malformed : r ≡ None → values (drop from m) ≡ none

-- a line from a place on: its name ends at n, its values begin behind the byte there, and the next line begins at `next`
pub record LineAt (m : List ℕ) (from n next : ℕ) : Type 0 where
  pub given : List (List ℕ)
  pub rest : List ℕ
  pub read : line (drop from m) ≡ some ((part from n m, given), drop next m)
  pub values_are : values (drop (n + 1) m) ≡ some (given, rest)
  pub name_is : NameAt m from n
  pub behind : n < next
  pub inside : next ≤ length m

pub record LineRead (m : List ℕ) (from : ℕ) (r : Option Line) : Type 0 where
  pub at : (l : Line) → r ≡ Some l → LineAt m from l.name l.next
  pub malformed : r ≡ None → line (drop from m) ≡ none
