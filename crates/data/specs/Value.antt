-- What a writer of data did. Data give absent or an array of which the trees are written, one behind another, with no
-- head.
use Rattle.std.specs.Prelude.{◌≡◌, List, [], Bool, true, false, ◌||◌, ℕ, Option as Maybe, Some, None, unwrap_or, is_some, Result, Ok, Err}
use Rattle.std.specs.Bool.{then_some}
use Rattle.std.proofs.Math.Option.{none, some}
use Rattle.spec_trees.specs.Tree.{Tree, trees}
use Rattle.areas.specs.Area.{Wrote, too_large, Out}
use Rattle.format.specs.Stand.{trees_bytes}
use Rattle.areas.specs.declared.area.TooLarge.{TooLarge}
use Rattle.spec_stages.specs.Paths.{Given}

-- the answer of a writer of data: absent data write nothing, and an array's trees end there; or they did not fit
abbrev pub Value : Type 0
Value = Result (Maybe ℕ) TooLarge

-- x is an array, and w became v when its trees were written at d with the end `stop` and the answer o
pub record Written (w v : List ℕ) (d stop : ℕ) (x : Given) (o : Out) : Type 0 where
  pub array : List Tree
  pub same : x ≡ some array
  pub wrote : Wrote w v d stop (trees_bytes (trees array)) o

-- what a writer of x did: x is absent, and nothing was written; its trees stand from d to e; or they pass stop
pub record WroteFound (w v : List ℕ) (d stop : ℕ) (x : Given) (r : Value) : Type 0 where
  pub absent : r ≡ Ok None → (x ≡ none) × (v ≡ w)
  pub fits : (e : ℕ) → r ≡ Ok (Some e) → Written w v d stop x (Ok e)
  pub large : r ≡ Err too_large → Written w v d stop x (Err too_large)

-- the answer of a writer of an array
abbrev pub value_of : Out → Value
value_of (Ok e) = Ok (Some e)
value_of (Err _) = Err too_large

-- ---- one value behind another

-- whether a value did not fit
abbrev pub is_large : Value → Bool
is_large (Ok x) = false
is_large (Err _) = true

-- where the next goes, behind a value that was written at d
abbrev pub end_of : Value → ℕ → ℕ
end_of (Ok x) d = unwrap_or x d
end_of (Err _) d = d

-- whether it is there, or one was before it
abbrev pub found_of : Value → Bool → Bool
found_of (Ok x) s = s || is_some x
found_of (Err _) s = s

-- the answer behind all of them
abbrev pub answer_of : Bool → ℕ → Value
answer_of s d = Ok (then_some s d)

-- what stands before d, to be joined with: some array, or nothing
abbrev pub before : Bool → Given
before true = some []
before false = none
