-- The proof of place::place::place_heads, by answers to its goals: from step i on all heads are stored, from `to` on.
use Rattle.std.proofs.Common.{arith, refl, sym, ap, ◌≡◌, ◌∙◌, ◌+◌, ◌-◌}
use Rattle.format.specs.StandLaws.{heads_most}
use Rattle.place.specs.Place.{room_at}
use Rattle.place.specs.WriterLaws.{along_room, along_inside, along_small}
use Rattle.place.specs.PlaceLaws.{room_none, room_before, behind_at_lem, behind_wrapped, place_last, place_next, place_first}
use Rattle.place.proofs.place.place_heads.Goals as goal

pub steps-n-requires : goal.steps-n-requires
steps-n-requires c = along_room c.requires.0

pub overflow_add-to : goal.overflow_add-to
overflow_add-to c = omega (arith, c.heads_room.ensures, c.requires.2)

pub loop-i-init : goal.loop-i-init
loop-i-init c = (
  omega (arith, c.steps-n.ensures),
  refl,
  ap (λ n. c.args.at + n) (c.heads_room.ensures ∙ ap (room_at
      c.args.query.now c.args.target) (sym c.steps-n.ensures)),
  omega (arith, c.heads_room.ensures, c.requires.2),
  behind_at_lem c.args.work.now (omega (arith, c.heads_room.ensures)) c.requires.1,
  λ path h. place_last path _
      c.steps-n.result h c.steps-n.ensures,
)

pub step_at-label-requires : goal.step_at-label-requires
step_at-label-requires c =
    along_inside c.requires.0 (c.loop-i.i - 1) (omega (arith, c.loop-i.invariant.0, c.loop-i-test.true))

pub overflow_add-to-in-loop-i : goal.overflow_add-to-in-loop-i
overflow_add-to-in-loop-i c = omega (arith, c.heads.ensures, heads_most c.step_at-label.result)

pub overflow_sub-to : goal.overflow_sub-to
overflow_sub-to c =
    omega (
      arith,
      c.loop-i.invariant.2,
      (room_before c.args.query.now c.args.target c.loop-i.i (c.loop-i.i - 1) (omega
          (arith, c.loop-i-test.true)) c.step_at-label.ensures),
      c.heads.ensures,
    )

pub wrap-out-requires : goal.wrap-out-requires
wrap-out-requires c = (
  behind_at_lem c.loop-i.work (omega (
    arith,
    c.loop-i.invariant.2,
    (room_before c.args.query.now c.args.target
        c.loop-i.i (c.loop-i.i - 1) (omega (arith, c.loop-i-test.true)) c.step_at-label.ensures),
    c.heads.ensures,
  ))
      c.loop-i.invariant.4,
  omega (
    arith,
    c.step_at-label.ensures,
    along_small c.requires.0 (c.loop-i.i - 1) (omega
        (arith, c.loop-i.invariant.0, c.loop-i-test.true)),
  ),
  omega (
    arith,
    c.loop-i.invariant.2,
    (room_before
        c.args.query.now c.args.target c.loop-i.i (c.loop-i.i - 1) (omega (arith, c.loop-i-test.true))
        c.step_at-label.ensures),
    c.heads.ensures,
    c.loop-i.invariant.1,
    c.loop-i.invariant.3,
  ),
  omega (
    arith,
    c.loop-i.invariant.1,
  ),
)

pub loop-i-preserved : goal.loop-i-preserved
loop-i-preserved c = (
  omega (arith, c.loop-i.invariant.0),
  c.wrap-out.auto.work ∙ c.loop-i.invariant.1,
  omega (
    arith,
    c.loop-i.invariant.2,
    (room_before c.args.query.now c.args.target c.loop-i.i (c.loop-i.i - 1) (omega (
      arith,
      c.loop-i-test.true,
    )) c.step_at-label.ensures),
    c.heads.ensures,
  ),
  omega (
    arith,
    c.loop-i.invariant.2,
    (room_before
        c.args.query.now c.args.target c.loop-i.i (c.loop-i.i - 1) (omega (arith, c.loop-i-test.true))
        c.step_at-label.ensures),
    c.heads.ensures,
    c.loop-i.invariant.3,
  ),
  behind_wrapped (omega (
    arith,
    c.loop-i.invariant.2,
    (room_before c.args.query.now c.args.target c.loop-i.i (c.loop-i.i - 1) (omega (
      arith,
      c.loop-i-test.true,
    )) c.step_at-label.ensures),
    c.heads.ensures,
  )) c.wrap-out.auto.work c.wrap-out.ensures
      c.loop-i.invariant.4,
  λ path h. place_next path c.loop-i.i (c.loop-i.i - 1) (omega (arith, c.loop-i-test.true))
      (omega (
        arith,
        c.loop-i.invariant.2,
        (room_before c.args.query.now c.args.target c.loop-i.i (c.loop-i.i - 1) (omega
            (arith, c.loop-i-test.true)) c.step_at-label.ensures),
        c.heads.ensures,
      )) h c.loop-i.invariant.0
      c.step_at-label.ensures (c.loop-i.invariant.5 path h) c.wrap-out.ensures,
)

pub returns : goal.returns
returns c =
    let none : c.loop-i.i ≡ 0 = omega (arith, c.loop-i-test.false) in
    λ path h. place_first path none (omega (
      arith,
      c.loop-i.invariant.2,
      room_none c.args.query.now
          c.args.target none,
    )) (c.loop-i.invariant.5 path h)
