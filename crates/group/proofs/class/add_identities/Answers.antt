-- The proof of group::class::add_identities, by answers to its goals: what is right for the pairs from `at` on,
-- added to the tree so far, is right for all.
use Rattle.std.proofs.Common.{arith, refl, ◌∙◌}
use Rattle.spec_queries.specs.Bytes.{pair_f}
use Rattle.queries.specs.PartLaws.{holds_of, list_places}
use Rattle.group.specs.Grow.{sourced_part, Always, FirstAt}
use Rattle.group.specs.GrowLaws.{pairs_done, pairs_first, pairs_stop, pairs_rest, pairs_next}
use Rattle.group.specs.PairLaws.{first_keep}
use Rattle.group.proofs.class.add_identities.Goals as goal
use Rattle.std.specs.Prelude.{Ok, Err}
use Rattle.areas.specs.Area.{too_large}
use Rattle.areas.specs.AreaLaws.{handed_on}

pub loop-at-init : goal.loop-at-init
loop-at-init c = (c.requires, refl, λ u r h. h)

pub field_end-m-requires : goal.field_end-m-requires
field_end-m-requires c =
    omega (arith, list_places pair_f c.loop-at-test.true refl (holds_of c.loop-at.invariant.0.asked))

pub add_sourced-requires : goal.add_sourced-requires
add_sourced-requires c =
    pairs_first (FirstAt c.args.first c.args.built.from) Always sourced_part c.args.query.now c.loop-at.at
    c.args.keys.to c.loop-at.work c.args.built.from c.loop-at.to c.loop-at-test.true c.field_end-m.ensures
    c.loop-at.invariant.0

pub returns-in_err-n : goal.returns-in_err-n
returns-in_err-n c =
    rw (handed_on _ c.from_residual.result c.from_residual.ensures.1) (c.loop-at.invariant.2 c.add_sourced.new.work (Err too_large) (pairs_stop (FirstAt c.args.first c.args.built.from)
    Always sourced_part c.args.query.now c.loop-at.at c.args.keys.to c.loop-at.work c.args.built.from c.loop-at.to
    c.loop-at-test.true c.field_end-m.ensures c.add_sourced.ensures c.in_err-n.was))

pub loop-at-smaller : goal.loop-at-smaller
loop-at-smaller c =
    omega (arith, list_places pair_f c.loop-at-test.true c.field_end-m.ensures (holds_of c.loop-at.invariant.0.asked))

pub loop-at-preserved : goal.loop-at-preserved
loop-at-preserved c = (
  pairs_rest (FirstAt c.args.first c.args.built.from) Always sourced_part c.args.query.now c.loop-at.at
      c.args.keys.to c.loop-at.work c.args.built.from c.loop-at.to c.loop-at-test.true c.field_end-m.ensures
      c.add_sourced.ensures first_keep c.in_ok-n.was c.loop-at.invariant.0 c.add_sourced.auto.work,
  c.add_sourced.auto.work ∙ c.loop-at.invariant.1,
  λ u r h. c.loop-at.invariant.2 u r (pairs_next (FirstAt
      c.args.first c.args.built.from) Always sourced_part c.args.query.now c.loop-at.at c.args.keys.to c.loop-at.work
      c.args.built.from c.loop-at.to c.loop-at-test.true c.field_end-m.ensures c.add_sourced.ensures first_keep
      c.in_ok-n.was u r h),
)

pub returns : goal.returns
returns c =
    c.loop-at.invariant.2 c.loop-at.work (Ok c.loop-at.to) (pairs_done (FirstAt c.args.first c.args.built.from)
    Always sourced_part c.args.query.now c.loop-at.at c.args.keys.to c.loop-at.work c.args.built.from c.loop-at.to
    c.loop-at-test.false c.loop-at.invariant.0.within)
