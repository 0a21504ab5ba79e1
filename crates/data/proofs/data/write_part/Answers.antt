-- The proof of data::data::write_part, by answers to its goals.
use Rattle.std.proofs.Common.{arith, refl}
use Rattle.paths.specs.WalkLaws.{walk_room}
use Rattle.data.specs.WritePathLaws.{kept_none, found_missing, walked_found}
use Rattle.data.specs.ValueLaws.{large_on, value_ok, value_err}
use Rattle.data.proofs.data.write_part.Goals as goal

pub steps-requires : goal.steps-requires
steps-requires c = walk_room c.requires.walk

pub piece-requires : goal.piece-requires
piece-requires c = (c.requires.walk, omega (arith, c.steps.ensures, c.if-steps-le1.true))

pub returns-in_default : goal.returns-in_default
returns-in_default c = (
  kept_none c.args.work.now c.args.room.from c.args.room.to c.requires.room,
  found_missing c.args.query.now
      c.args.path 0 c.args.work.now c.args.tree.from c.args.tree.to c.args.room.from c.args.room.to 0
      c.piece.ensures c.in_default.is,
)

pub copy-requires : goal.copy-requires
copy-requires c = (
  omega (
    arith,
    ((c.piece.ensures c.requires.walk.path.value c.requires.walk.stands.value
        c.requires.walk.path.value_is c.requires.walk.stands.value_is).part _ c.in-Some.is).array_is.ends,
  ),
  omega (
    arith,
    ((c.piece.ensures c.requires.walk.path.value c.requires.walk.stands.value c.requires.walk.path.value_is
        c.requires.walk.stands.value_is).part _ c.in-Some.is).within,
    c.requires.below,
  ),
  c.requires.room,
  c.requires.area,
)

pub returns-then-steps-le1 : goal.returns-then-steps-le1
returns-then-steps-le1 c =
    walked_found c.args.query.now c.args.path 0 c.args.work.now c.args.tree.from c.args.tree.to c.args.room.from
    c.args.room.to 0 c.piece.ensures (value_ok c.in_ok-end.was) c.in-Some.is refl (omega (
      arith,
      c.requires.room,
      c.requires.area,
    )) c.requires.room c.copy.ensures

pub returns-in_err-end : goal.returns-in_err-end
returns-in_err-end c =
    rw (large_on _ c.from_residual.result c.from_residual.ensures.1) (walked_found c.args.query.now c.args.path 0 c.args.work.now c.args.tree.from c.args.tree.to c.args.room.from
    c.args.room.to 0 c.piece.ensures (value_err c.in_err-end.was) c.in-Some.is refl (omega (
      arith,
      c.requires.room,
      c.requires.area,
    )) c.requires.room c.copy.ensures)

pub write_walk-requires : goal.write_walk-requires
write_walk-requires c = c.requires

pub returns : goal.returns
returns c = c.write_walk.ensures
