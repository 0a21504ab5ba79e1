-- The proof of key_index::enter::count, by answers to its goals.
use Rattle.std.proofs.Common.{arith, subst, ◌+◌}
use Rattle.areas.specs.Area.{Wrote}
use Rattle.areas.specs.Number.{two_bytes}
use Rattle.key_index.specs.Index.{count_at}
use Rattle.key_index.specs.EnteringLaws.{stored_not, stored_put}
use Rattle.key_index.proofs.enter.count.Goals as goal
use Rattle.std.specs.Prelude.{Ok}

pub put_two-requires : goal.put_two-requires
put_two-requires c = (
  omega (arith, c.requires.0, c.if-mark-lt-SUBSETS.true),
  omega (
    arith,
    c.two_at.ensures.0,
    (c.requires.1
        c.if-mark-lt-SUBSETS.true),
  ),
)

pub returns-then-mark-lt-SUBSETS : goal.returns-then-mark-lt-SUBSETS
returns-then-mark-lt-SUBSETS c =
    stored_put c.if-mark-lt-SUBSETS.true (omega (arith, c.requires.0, c.if-mark-lt-SUBSETS.true)) (omega (
      arith,
      c.if-mark-lt-SUBSETS.true,
    )) (subst (λ n. Wrote c.args.work.now c.put_two.new.work (count_at c.args.mark) (count_at
    c.args.mark + 2) (two_bytes (n + 1)) (Ok (count_at c.args.mark + 2))) c.two_at.ensures.0 c.put_two.ensures)

pub returns-else-mark-lt-SUBSETS : goal.returns-else-mark-lt-SUBSETS
returns-else-mark-lt-SUBSETS c = stored_not _ _ _ (λ l. omega (arith, l, c.if-mark-lt-SUBSETS.false))
