-- The proof of format::labels::entry, by answers to its goals.
use Rattle.std.proofs.Common.{arith}
use Rattle.spec_trees.specs.Bytes.{label_heads}
use Rattle.format.specs.Stand.{entry_of}
use Rattle.format.specs.StandLaws.{heads_least, length_entry}
use Rattle.format.specs.HeadedLaws.{headed_large, headed_entry}
use Rattle.format.proofs.labels.entry.Goals as goal
use Rattle.areas.specs.AreaLaws.{handed_on}

pub returns-in_err-end : goal.returns-in_err-end
returns-in_err-end c =
    rw (handed_on _ c.from_residual.result c.from_residual.ensures.1) (headed_large (entry_of c.args.label) (label_heads c.args.label) (length_entry c.args.label) c.in_err-end.was)

pub overflow_add-at : goal.overflow_add-at
overflow_add-at c = omega (arith, (c.requires.0 c.in_ok-end.end c.in_ok-end.was), (heads_least c.args.label))

pub put_head-requires : goal.put_head-requires
put_head-requires c = omega (arith, (c.requires.0 c.in_ok-end.end c.in_ok-end.was), (heads_least c.args.label))

pub overflow_add-at-2 : goal.overflow_add-at-2
overflow_add-at-2 c = omega (arith, (c.requires.0 c.in_ok-end.end c.in_ok-end.was), (heads_least c.args.label))

pub put_label-requires : goal.put_label-requires
put_label-requires c =
    omega (arith, (c.requires.0 c.in_ok-end.end c.in_ok-end.was), (heads_least c.args.label), c.put_head.auto.work)

pub put_head-requires-2 : goal.put_head-requires-2
put_head-requires-2 c =
    omega (
      arith,
      (c.requires.0 c.in_ok-end.end c.in_ok-end.was),
      (heads_least c.args.label),
      c.put_head.auto.work,
      c.put_label.auto.work,
    )

pub returns : goal.returns
returns c =
    headed_entry (c.requires.0 c.in_ok-end.end c.in_ok-end.was).0 (c.requires.0 c.in_ok-end.end c.in_ok-end.was).1 (omega (
      arith,
      (c.requires.0 c.in_ok-end.end c.in_ok-end.was),
      c.put_head.auto.work,
      c.put_label.auto.work,
    )) c.in_ok-end.was c.put_head.ensures
    c.put_label.ensures c.put_head-2.ensures
