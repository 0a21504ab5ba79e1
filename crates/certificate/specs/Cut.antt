-- Condition 3's sentence on the cut, of three runs.
use Rattle.std.specs.Prelude.{◌≡◌, List, ℕ, length, take, replicate}
use Rattle.spec_trees.specs.Limits.{work_min, positions_min}
use Rattle.spec_run.specs.Run.{call}
use Rattle.spec_run.specs.Answer.{numbered, lengthened, Answered}
use Rattle.spec_run.specs.Cut.{Cut}
use Rattle.certificate.specs.declared.cut.Runs.{Runs}

-- the work area of each run, before it and after it
abbrev pub work : List ℕ
work = replicate work_min 0

-- the position area of each run, before it: all have one length
abbrev pub entries : List ℕ
entries = replicate positions_min 0

-- The three runs were made: of q₁ over i; of q₂ over the first run's result bytes; of q over i. `first` and `second`
-- are the result areas before, `left₁` and `left₂` after
pub record MakesRuns (q q₁ q₂ i j first second : List ℕ) (r : Runs) (left₁ left₂ : List ℕ) : Type 0 where
  -- what the first run left in its result area
  pub middle : List ℕ
  -- what each run left in its position area: the second counts positions anew, so they are not compared
  pub noted₁ : List ℕ
  pub noted₂ : List ℕ
  pub noted : List ℕ
  pub first_is : Answered (call q₁ i j work first entries) (numbered r.first) (lengthened r.first) middle work noted₁
  pub second_is : Answered (call q₂ (take (lengthened r.first) middle) j work second entries) (numbered r.second) (lengthened r.second) left₂ work noted₂
  pub uncut_is : Answered (call q i j work middle entries) (numbered r.uncut) (lengthened r.uncut) left₁ work noted

-- Where q is cut into q₁ and q₂, and the result areas have one length: if the first run and the second are accepted,
-- then the uncut run gives the second's number, length and result bytes
abbrev pub CutSame : (q q₁ q₂ first second : List ℕ) (r : Runs) (left₁ left₂ : List ℕ) → Type 0
CutSame q q₁ q₂ first second r left₁ left₂ = Cut q q₁ q₂ → length first ≡ length second → numbered r.first ≡ 0 → numbered r.second ≡ 0
    → (numbered r.uncut ≡ numbered r.second) × (lengthened r.uncut ≡ lengthened r.second)
    × (take (lengthened r.uncut) left₁ ≡ take (lengthened r.second) left₂)
