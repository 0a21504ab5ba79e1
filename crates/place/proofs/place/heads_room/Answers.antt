-- The proof of place::place::heads_room, by answers to its goals: the room of the steps before i.
use Rattle.std.proofs.Common.{arith, refl, sym, ap, ◌≡◌, ◌∙◌, ◌+◌}
use Rattle.queries.specs.Steps.{step_count}
use Rattle.place.specs.Place.{room_at}
use Rattle.place.specs.WriterLaws.{along_room, along_inside}
use Rattle.place.specs.PlaceLaws.{room_none, room_before, room_small}
use Rattle.place.proofs.place.heads_room.Goals as goal

pub steps-n-requires : goal.steps-n-requires
steps-n-requires c = along_room c.requires

pub loop-i-init : goal.loop-i-init
loop-i-init c = (omega arith, sym (room_none c.args.query.now c.args.target {i = 0} refl))

pub step_at-requires : goal.step_at-requires
step_at-requires c =
    along_inside c.requires c.loop-i.i (omega (arith, c.loop-i.invariant.0, c.loop-i-test.true, c.steps-n.ensures))

pub overflow_add-all : goal.overflow_add-all
overflow_add-all c =
    omega (
      arith,
      c.loop-i.invariant.0,
      c.loop-i.invariant.1,
      (room_before c.args.query.now c.args.target (c.loop-i.i +
          1) c.loop-i.i refl c.step_at.ensures),
      c.heads.ensures,
      (room_small c.requires (c.loop-i.i + 1) (omega (
        arith,
        c.loop-i.invariant.0,
        c.loop-i-test.true,
        c.steps-n.ensures,
      ))),
    )

pub overflow_add-all-in-loop-i : goal.overflow_add-all-in-loop-i
overflow_add-all-in-loop-i c =
    omega (
      arith,
      c.loop-i.invariant.0,
      c.loop-i.invariant.1,
      (room_before c.args.query.now c.args.target (c.loop-i.i +
          1) c.loop-i.i refl c.step_at.ensures),
      c.heads.ensures,
      (room_small c.requires (c.loop-i.i + 1) (omega (
        arith,
        c.loop-i.invariant.0,
        c.loop-i-test.true,
        c.steps-n.ensures,
      ))),
    )

pub loop-i-preserved : goal.loop-i-preserved
loop-i-preserved c = (
  omega (arith, c.loop-i.invariant.0, c.loop-i-test.true, c.steps-n.ensures),
  omega (
    arith,
    c.loop-i.invariant.1,
    (room_before c.args.query.now c.args.target (c.loop-i.i + 1) c.loop-i.i refl c.step_at.ensures),
    c.heads.ensures,
  ),
)

pub returns : goal.returns
returns c =
    let all : c.loop-i.i ≡ step_count c.args.query.now c.args.target = omega (
      arith,
      c.loop-i.invariant.0,
      c.loop-i-test.false,
      c.steps-n.ensures,
    ) in
    c.loop-i.invariant.1 ∙ ap (room_at c.args.query.now c.args.target) all
