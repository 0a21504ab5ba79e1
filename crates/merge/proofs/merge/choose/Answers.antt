-- The proof of merge::merge::choose, by answers to its goals.
use Rattle.std.proofs.Common.{sym, ap, cond, lt-ltb, le-ltb}
use Rattle.merge.proofs.merge.choose.Goals as goal

pub returns-then-label-bound : goal.returns-then-label-bound
returns-then-label-bound c =
    sym (ap (λ t. cond t c.args.below c.args.otherwise) (lt-ltb c.args.label c.args.bound c.if-label-bound.true))

pub returns-else-label-bound : goal.returns-else-label-bound
returns-else-label-bound c =
    sym (ap (λ t. cond t c.args.below c.args.otherwise) (le-ltb c.args.label c.args.bound c.if-label-bound.false))
