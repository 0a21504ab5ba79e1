-- The proof of lookup::lookup::copy_partners, by answers to its goals: what is right of the joined trees from `from`
-- on, behind those that were copied, is right of all.
use Rattle.std.proofs.Common.{arith, refl, ◌∙◌}
use Rattle.lookup.specs.LookupLaws.{partners_done, partners_places, partners_match, partners_rest, partners_stop, partners_next}
use Rattle.lookup.proofs.lookup.copy_partners.Goals as goal
use Rattle.std.specs.Prelude.{Ok, Err}
use Rattle.areas.specs.Area.{too_large}
use Rattle.areas.specs.AreaLaws.{handed_on}

pub loop-from-init : goal.loop-from-init
loop-from-init c = (c.requires, refl, λ v r h. h)

pub field_end-m-requires : goal.field_end-m-requires
field_end-m-requires c = omega (arith, partners_places c.args.at c.loop-from-test.true refl c.loop-from.invariant.0)

pub copy_match-requires : goal.copy_match-requires
copy_match-requires c = partners_match c.args.at c.loop-from-test.true c.field_end-m.ensures c.loop-from.invariant.0

pub returns-in_err-e : goal.returns-in_err-e
returns-in_err-e c =
    rw (handed_on _ c.from_residual.result c.from_residual.ensures.1) (c.loop-from.invariant.2 c.copy_match.new.work (Err too_large) (partners_stop c.args.at c.loop-from-test.true
    c.field_end-m.ensures c.copy_match.ensures c.in_err-e.was))

pub loop-from-smaller : goal.loop-from-smaller
loop-from-smaller c =
    omega (arith, partners_places c.args.at c.loop-from-test.true c.field_end-m.ensures c.loop-from.invariant.0)

pub loop-from-preserved : goal.loop-from-preserved
loop-from-preserved c = (
  partners_rest c.args.at c.loop-from-test.true c.field_end-m.ensures c.loop-from.invariant.0
      c.copy_match.ensures c.in_ok-e.was c.copy_match.auto.work,
  c.copy_match.auto.work ∙
      c.loop-from.invariant.1,
  λ v r h. c.loop-from.invariant.2 v r (partners_next c.args.at c.loop-from-test.true
      c.field_end-m.ensures c.copy_match.ensures c.loop-from.invariant.0.below (omega (
        arith,
        c.loop-from.invariant.0.room,
        c.loop-from.invariant.0.area,
      )) c.in_ok-e.was v r h),
)

pub returns : goal.returns
returns c =
    c.loop-from.invariant.2 c.loop-from.work (Ok c.loop-from.to) (partners_done c.args.at c.loop-from-test.false
    c.loop-from.invariant.0.room)
