-- The proof of classes::fit::totals_fit, by answers to its goals: what is right for the pairs from `at` on is right for
-- all.
use Rattle.std.proofs.Common.{arith, refl}
use Rattle.spec_queries.specs.Bytes.{pair_f}
use Rattle.queries.specs.PartLaws.{list_places, list_first, list_rest}
use Rattle.classes.specs.FitLaws.{pairs_end, pairs_not, pairs_next}
use Rattle.classes.proofs.fit.totals_fit.Goals as goal

pub loop-at-init : goal.loop-at-init
loop-at-init c = (c.requires.1, λ r h. h)

pub field_end-m-requires : goal.field_end-m-requires
field_end-m-requires c = omega (arith, list_places pair_f c.loop-at-test.true refl c.loop-at.invariant.0)

pub pair_fits-requires : goal.pair_fits-requires
pair_fits-requires c = (c.requires.0, list_first pair_f c.loop-at-test.true c.field_end-m.ensures c.loop-at.invariant.0)

pub returns-then-not-pair_fits : goal.returns-then-not-pair_fits
returns-then-not-pair_fits c =
    c.loop-at.invariant.1 _ (pairs_not c.args.query.now c.loop-at.at c.args.aggregates.to c.loop-at-test.true
    c.field_end-m.ensures c.pair_fits.ensures (c.if-not-pair_fits.true))

pub loop-at-smaller : goal.loop-at-smaller
loop-at-smaller c = omega (arith, list_places pair_f c.loop-at-test.true c.field_end-m.ensures c.loop-at.invariant.0)

pub loop-at-preserved : goal.loop-at-preserved
loop-at-preserved c = (
  list_rest pair_f c.loop-at-test.true c.field_end-m.ensures c.loop-at.invariant.0,
  λ r h. c.loop-at.invariant.1 r
      (pairs_next c.args.query.now c.loop-at.at c.args.aggregates.to c.loop-at-test.true c.field_end-m.ensures
      c.pair_fits.ensures (c.if-not-pair_fits.false) r h),
)

pub returns : goal.returns
returns c = c.loop-at.invariant.1 _ (pairs_end c.args.query.now c.loop-at.at c.args.aggregates.to c.loop-at-test.false)
