-- The proof of tracer_tree::labels::write_label, by answers to its goals.
use Rattle.std.proofs.Common.{arith}
use Rattle.tracer_tree.specs.LabelsLaws.{label_none, label_large, label_behind, label_some}
use Rattle.tracer_tree.proofs.labels.write_label.Goals as goal

pub returns-in_default : goal.returns-in_default
returns-in_default c =
    label_none c.args.message.now c.args.label c.args.out.now c.args.room.from c.args.room.to
    c.in_default.is c.requires.room_in.above

pub returns-then-to-at : goal.returns-then-to-at
returns-then-to-at c =
    label_large c.args.message.now c.args.label c.args.out.now c.args.room.from c.args.room.to
    c.in-Some.is c.heads-begin.ensures c.requires.room_in.above c.if-to-at.true

pub write_values-written-requires : goal.write_values-written-requires
write_values-written-requires c = (
  (c.requires.place.there c.in-Some.from c.in-Some.is).inside,
  omega (arith, c.if-to-at.false, c.requires.room_in.above),
  c.requires.room_in.inside,
  c.requires.room_in.lent,
)

pub entry-requires : goal.entry-requires
entry-requires c = (
  label_behind c.args.message.now c.args.label c.args.out.now c.args.room.from c.args.room.to
      c.in-Some.is c.heads-begin.ensures c.write_values-written.ensures c.requires.place (omega (
        arith,
        c.requires.room_in.inside,
        c.write_values-written.auto.out,
      )),
  c.requires.small,
  omega (
    arith,
    c.requires.room_in.lent,
    c.write_values-written.auto.out,
  ),
)

pub returns : goal.returns
returns c =
    label_some c.args.message.now c.args.label c.args.out.now c.args.room.from c.args.room.to
    c.in-Some.is c.heads-begin.ensures c.write_values-written.ensures (omega (
      arith,
      c.if-to-at.false,
      c.requires.room_in.above,
      c.requires.room_in.inside,
    )) c.entry.ensures
