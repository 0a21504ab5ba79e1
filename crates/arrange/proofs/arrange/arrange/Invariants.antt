use Rattle.std.proofs.Common.{length, ◌≡◌, List, ◌^◌, ◌≤◌}
use Rattle.spec_queries.specs.Query.{Pair}
use Rattle.spec_stages.specs.Positions.{Borne, unmarked, origin}
use Rattle.arrange.specs.Arrange.{arranged, Grows}
use Rattle.arrange.specs.ArrangeLaws as law
use Rattle.arrange.proofs.arrange.arrange.Given as goal

abbrev pub invariant-loop-k : goal.invariant-loop-k
invariant-loop-k l =
    (length l.work ≡ length l.initial.work) × (l.k ≤ l.total) × ((gs : List Pair) (bs : List Borne) → law.Entered
    l.initial.work l.len gs bs → l.total ≡ 2 ^ length gs → Grows l.initial.work l.work law.empty l.filled (arranged (λ
    t. origin gs t bs) (law.found gs (unmarked bs) l.k)))
