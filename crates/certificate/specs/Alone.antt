-- Condition 2's sentence on each stage alone.
use Rattle.std.specs.Prelude.{◌≡◌, List, [], ◌∷◌, ℕ, ◌≤◌, length}
use Rattle.spec_trees.specs.Limits.{work_min, positions_min}
use Rattle.spec_trees.specs.Tree.{Tree}
use Rattle.spec_trees.specs.Bytes.{array_bytes}
use Rattle.spec_trees.specs.Within.{Within}
use Rattle.spec_queries.specs.Query.{Stage}
use Rattle.spec_queries.specs.Bytes.{query_bytes}
use Rattle.spec_queries.specs.Rules.{OkQ}
use Rattle.spec_stages.specs.Stages.{halted, entering, performed, after}
use Rattle.spec_trees.specs.Options.{maybe}
use Rattle.spec_stages.specs.Positions.{result_positions}
use Rattle.spec_run.specs.Run.{final, positions_after}
use Rattle.spec_run.specs.Answer.{AnswersAs, Answer}

-- For a stage s that a query may have, and arrays ts and us within the limits, whose byte forms are lent with a work and
-- a position area that are long enough: the answer is the array that the definition of the stage gives of ts, with us
-- joined, and the position area has the positions that its trees bear; or the answer is 12, where a total of a class of
-- its group does not fit; or 8, where a tree tested in it is too large; or 10, where the array passes 16,384 bytes or the result area
abbrev pub AloneGives : (query input joined work result positions : List ℕ) (a : Answer) (left noted : List ℕ) → Type 0
AloneGives query input joined work result positions a left noted = (s : Stage) (ts us : List Tree) → OkQ (s ∷ []) → Within ts → Within us
    → query ≡ query_bytes (s ∷ []) → input ≡ array_bytes ts → joined ≡ array_bytes us → work_min ≤ length work → positions_min ≤ length positions
    → let x = final (length result) (result_positions us (s ∷ []) ts) (maybe (after (performed us s ts)) halted (entering s ts)) in
    AnswersAs result x a left × (noted ≡ positions_after positions x)
