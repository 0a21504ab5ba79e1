-- What the program answers, and what it lends.
use Rattle.std.specs.Prelude.{◌≡◌, List, ℕ, ◌+◌, ◌*◌, ◌≤◌, length, replicate}
use Rattle.spec_trees.specs.Limits.{array_max, work_min, positions_min}
use Rattle.spec_run.specs.Answer.{numbered, lengthened, Answer}
use Rattle.spec_run.specs.Run.{Outcome}
use Rattle.spec_run.specs.Program.{program_max, shown}
use Rattle.tquery_cli.specs.Text.{Begins}

-- ---- an answer is written as text
-- the result area has the result, and there is room for its text and for a refusal's
pub record ShowReady (a : Answer) (result text : List ℕ) : Type 0 where
  pub within : lengthened a ≤ length result
  pub room : 2 * lengthened a + 1 ≤ length text
  pub refusal : 11 ≤ length text

-- the answer is shown, as that of the outcome that has its number, its length and its result
pub record ShowsAnswer (a : Answer) (result text : List ℕ) (r : ℕ) : Type 0 where
  pub shows : (o : Outcome) → numbered a ≡ o.number → lengthened a ≡ o.length → result ≡ o.result → Begins text (shown o) r

-- ---- the areas in which an input is answered
pub record RespondReady (s work result positions text : List ℕ) : Type 0 where
  pub short : length s ≤ program_max
  pub work_zero : work ≡ replicate work_min 0
  pub zero : result ≡ replicate array_max 0
  pub entries_zero : positions ≡ replicate positions_min 0
  pub room : 32800 ≤ length text
