-- What the writer of the array asks and did.
use Rattle.std.specs.Prelude.{List, [], ◌∷◌, ℕ, ◌≤◌, length}
use Rattle.spec_trees.specs.Limits.{work_min}
use Rattle.spec_trees.specs.Bytes.{array_bytes}
use Rattle.areas.specs.Area.{Wrote, Out}
use Rattle.spec_tracer.specs.Message.{Line}
use Rattle.spec_tracer.specs.Traced.{message_tree}
use Rattle.tracer_lines.specs.Places.{Place, PlacesAre}

pub record ArrayReady (m : List ℕ) (ps : List Place) (w : List ℕ) : Type 0 where
  pub lines : List Line
  pub places : PlacesAre m lines ps
  pub lent : length w ≤ work_min

-- whatever lines the entries speak of, the array of their tree was written
abbrev pub WroteArray : (m : List ℕ) (ps : List Place) (w v : List ℕ) → Out → Type 0
WroteArray m ps w v r = (ls : List Line) → PlacesAre m ls ps → Wrote w v 0 (length w) (array_bytes (message_tree ls ∷ [])) r
