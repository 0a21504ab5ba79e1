-- What the stages and the end of a call that passed its tests come to.
use Rattle.std.specs.Prelude.{◌≡◌, List, [], ◌∷◌, ◌++◌, true, ℕ, length}
use Rattle.spec_trees.specs.Tree.{Tree}
use Rattle.spec_trees.specs.Bytes.{array_bytes}
use Rattle.spec_trees.specs.Within.{Within}
use Rattle.spec_queries.specs.Query.{Pair, Stage}
use Rattle.spec_queries.specs.Bytes.{query_bytes}
use Rattle.spec_queries.specs.Rules.{OkQ}
use Rattle.spec_queries.specs.Again.{regroups, regrouped}
use Rattle.spec_stages.specs.Stages.{going, stages}
use Rattle.spec_stages.specs.Positions.{result_positions}
use Rattle.queries.specs.declared.stage.GroupAt.{GroupAt}
use Rattle.spec_run.specs.Run.{Verdict, final, positions_after}
use Rattle.queries.specs.Places.{Pairs}
use Rattle.spec_run.specs.Answer.{AnswersAs, Answer}

-- a run that came to the verdict x: the answer, the result area and the position area are as it says
abbrev pub RanTo : (area entries : List ℕ) (x : Verdict) (a : Answer) (left noted : List ℕ) → Type 0
RanTo area entries x a left noted = AnswersAs area x a left × (noted ≡ positions_after entries x)

-- whatever query and arrays these bytes are, the verdict is the plain run's
abbrev pub Performs : (q i j area entries : List ℕ) (a : Answer) (left noted : List ℕ) → Type 0
Performs q i j area entries a left noted = (ss : List Stage) (ts us : List Tree) → q ≡ query_bytes ss → OkQ ss → i ≡ array_bytes ts → Within ts → j ≡ array_bytes us → Within us
    → RanTo area entries (final (length area) (result_positions us ss ts) (stages us ss (going ts))) a left noted

-- the regrouping call: whatever group and arrays they are, the verdict is the plain regrouping's
abbrev pub PerformsAgain : (q : List ℕ) (at : GroupAt) (a b area left : List ℕ) → Answer → Type 0
PerformsAgain q at a b area left o = (ag gs : List Pair) (ts us : List Tree) → Pairs q at ag gs → regroups ag gs ≡ true
    → a ≡ array_bytes ts → Within ts → b ≡ array_bytes us → Within us → AnswersAs area (final (length area) [] (stages [] (regrouped ag gs ∷ []) (going (ts ++ us)))) o left
