-- The position area that a caller lends.
use Rattle.std.specs.Prelude.{◌≡◌, List, ◌++◌, ℕ, length, drop}
use Rattle.spec_stages.specs.Positions.{Borne, unmarked, positions}
use Rattle.positions.specs.Bearing.{Bears, StandFrom}

-- the area e became v: whatever trees the n bytes in the collector are and whatever they bear, the first entries are
-- their positions, and the others are as they were
abbrev pub Enters : (w : List ℕ) (n : ℕ) (e v : List ℕ) → Type 0
Enters w n e v = (bs : List Borne) → StandFrom w 0 n (unmarked bs) → Bears w 0 bs → v ≡ positions bs ++ drop (length bs) e
