-- What the writers of a merge ask and do, where both values stand in the area that they write to.
use Rattle.std.specs.Prelude.{List, ℕ, ◌≤◌, length}
use Rattle.areas.specs.declared.span.Span.{Span}
use Rattle.spec_trees.specs.Limits.{work_min}
use Rattle.spec_trees.specs.Tree.{Tree}
use Rattle.spec_trees.specs.Bytes.{tree_bytes}
use Rattle.spec_trees.specs.Within.{Ok}
use Rattle.areas.specs.Area.{IsAt, Wrote, Out}
use Rattle.format.specs.Stand.{Holds, entry_bytes}
use Rattle.spec_stages.specs.Merge.{merge}
use Rattle.spec_stages.specs.MergeTwo.{Entry}

-- two values, of which f gives the bytes, stand below the room that the merge is written into
pub record MergeReady {A : Type 0} (f : A → List ℕ) (w : List ℕ) (one other into : Span) : Type 0 where
  pub first : Holds f w one.from one.to
  pub second : Holds f w other.from other.to
  pub first_below : one.to ≤ into.from
  pub second_below : other.to ≤ into.from
  pub room : into.from ≤ into.to
  pub area : into.to ≤ length w
  pub small : length w ≤ work_min

-- whichever two values stand there, m of them was written
abbrev pub Merged : {A : Type 0} (f : A → List ℕ) (m : A → A → A) (w v : List ℕ) (one other into : Span) → Out → Type 0
Merged {A} f m w v one other into r = (x y : A) → IsAt w one (f x) → IsAt w other (f y)
    → Wrote w v into.from into.to (f (m x y)) r

-- whichever two well formed trees stand there, their merge was written
abbrev pub TreesMerged : (w v : List ℕ) (one other into : Span) → Out → Type 0
TreesMerged w v one other into r = (x y : Tree) → Ok x → Ok y → IsAt w one (tree_bytes x) → IsAt w other (tree_bytes y)
    → Wrote w v into.from into.to (tree_bytes (merge x y)) r

-- the bytes of a label with its array
abbrev pub entry_of : Entry → List ℕ
entry_of x = entry_bytes x.0 x.1
