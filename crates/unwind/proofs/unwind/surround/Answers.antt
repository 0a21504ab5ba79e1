-- The proof of unwind::unwind::surround, by answers to its goals.
use Rattle.std.proofs.Common.{arith}
use Rattle.areas.specs.AreaLaws.{finishable, handed_on}
use Rattle.unwind.specs.OutcomeLaws.{around_behind, around_end, surround_large, surround_at}
use Rattle.unwind.proofs.unwind.surround.Goals as goal

pub entry-requires : goal.entry-requires
entry-requires c = (around_behind c.requires c.heads-n.ensures, c.requires.label, c.requires.small)

pub returns-in_err-e : goal.returns-in_err-e
returns-in_err-e c =
    rw (handed_on _ c.from_residual.result c.from_residual.ensures.1) (surround_large c.requires c.heads-n.ensures c.entry.ensures c.in_err-e.was)

pub copy-all-requires : goal.copy-all-requires
copy-all-requires c = (
  c.requires.within,
  omega (
    arith,
    (around_end c.requires c.heads-n.ensures c.entry.ensures c.in_ok-e.was),
    c.requires.below,
  ),
  (around_end c.requires c.heads-n.ensures c.entry.ensures c.in_ok-e.was).1,
  omega (
    arith,
    c.requires.inside,
    c.entry.auto.work,
    c.copy.auto.work,
  ),
)

pub finish-requires : goal.finish-requires
finish-requires c = (
  finishable c.args.room.from (omega (
    arith,
    (around_end c.requires c.heads-n.ensures c.entry.ensures
        c.in_ok-e.was),
    c.requires.heads,
  )) (omega (
    arith,
    c.requires.inside,
    c.entry.auto.work,
    c.copy.auto.work,
    c.copy-all.auto.work,
  )) c.copy-all.ensures,
  omega (
    arith,
    c.requires.small,
    c.entry.auto.work,
    c.copy.auto.work,
    c.copy-all.auto.work,
  ),
)

pub returns : goal.returns
returns c =
    surround_at c.requires c.heads-n.ensures c.entry.ensures c.in_ok-e.was c.copy.ensures c.copy-all.ensures
    c.finish.ensures
