-- Where the values of the seven names begin.
use Rattle.std.specs.Prelude.{◌≡◌, List, [], ◌∷◌, ◌++◌, Bool, true, false, ℕ, ◌≤◌, ◌<◌, length, drop, get_or, set, Option, Some, None, is_some}
use Rattle.std.proofs.Math.Option.{some, map}
use Rattle.spec_tracer.specs.Message.{Line}
use Rattle.spec_tracer.specs.Reading.{values, message}
use Rattle.spec_tracer.specs.Traced.{lines_for, once}

-- where the values of a label's line begin, if it has a line
abbrev pub Place : Type 0
Place = Option ℕ

-- label k has one line, whose values begin at a
pub record LineOf (m : List ℕ) (ls : List Line) (k a : ℕ) : Type 0 where
  pub line : Line
  pub rest : List ℕ
  pub alone : lines_for k ls ≡ line ∷ []
  pub values_are : values (drop a m) ≡ some (line.1, rest)
  pub inside : a ≤ length m

-- what an entry says of the label k
pub record PlaceIs (m : List ℕ) (ls : List Line) (k : ℕ) (p : Place) : Type 0 where
  pub missing : p ≡ None → lines_for k ls ≡ []
  pub there : (a : ℕ) → p ≡ Some a → LineOf m ls k a

-- what the entries say of lines of the message
pub record PlacesAre (m : List ℕ) (ls : List Line) (ps : List Place) : Type 0 where
  pub count : length ps ≡ 8
  pub each : (k : ℕ) → 1 ≤ k → k < 8 → PlaceIs m ls k (get_or ps k None)

-- a line for the label is its second
abbrev pub is_second : Option ℕ → List Place → Bool
is_second None ps = false
is_second (Some k) ps = is_some (get_or ps k None)

-- the entries with a line for the label, whose values begin at a
abbrev pub noted : Option ℕ → ℕ → List Place → List Place
noted None a ps = ps
noted (Some k) a ps = set ps k (Some a)

-- all lines were read, and noted
pub record Noted (m : List ℕ) (ps : List Place) : Type 0 where
  pub lines : List Line
  pub read : message m ≡ some lines
  pub single : once lines ≡ true
  pub places : PlacesAre m lines ps

-- the answer, with the places left so: all lines were noted; or some line is out of form, or some name has two
pub record ReadsLines (m : List ℕ) (ps : List Place) (r : Bool) : Type 0 where
  pub noted : r ≡ true → Noted m ps
  pub refused : r ≡ false → (ls : List Line) → message m ≡ some ls → once ls ≡ false

-- the lines before `at` were read, and noted
pub record Reading (m : List ℕ) (at : ℕ) (ps : List Place) : Type 0 where
  pub done : List Line
  pub inside : at ≤ length m
  pub rest : message m ≡ map (λ ls. done ++ ls) (message (drop at m))
  pub places : PlacesAre m done ps
