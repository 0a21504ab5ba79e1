-- What a writer of text leaves.
use Rattle.std.specs.Prelude.{◌≡◌, List, ℕ, ◌≤◌, length, take}

-- the first r bytes of an area are these
pub record Begins (area text : List ℕ) (r : ℕ) : Type 0 where
  pub within : r ≤ length area
  pub bytes : take r area ≡ text
