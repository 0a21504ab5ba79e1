-- The proof of tracer_tree::labels::write_labels, by answers to its goals: the labels before `label` are written.
use Rattle.std.proofs.Common.{arith}
use Rattle.tracer_tree.specs.LabelsLaws.{writing_next, writing_fails, writing_ends}
use Rattle.tracer_tree.proofs.labels.write_labels.Goals as goal
use Rattle.areas.specs.AreaLaws.{handed_on}

pub returns-in_err-end : goal.returns-in_err-end
returns-in_err-end c =
    rw (handed_on _ c.from_residual.result c.from_residual.ensures.1) (writing_fails c.args.message.now c.args.places.now c.args.out.now c.args.room.from c.args.room.to
    c.loop-label.invariant c.loop-label-test.true c.write_label.ensures c.in_err-end.was)

pub loop-label-preserved : goal.loop-label-preserved
loop-label-preserved c =
    writing_next c.args.message.now c.args.places.now c.args.out.now c.args.room.from c.args.room.to
    c.loop-label.invariant c.loop-label-test.true c.write_label.ensures c.requires.places (omega (
      arith,
      c.loop-label.invariant.below,
      c.requires.room_in.inside,
      c.loop-label.invariant.same,
    ))
    c.write_label.auto.out c.in_ok-end.was

pub returns : goal.returns
returns c =
    writing_ends c.args.message.now c.args.places.now c.args.out.now c.args.room.from c.args.room.to
    c.loop-label.invariant (omega (arith, c.loop-label-test.false))
