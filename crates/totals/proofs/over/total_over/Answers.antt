-- The proof of totals::over::total_over, by answers to its goals: what is right for the trees from `at` on, with the total
-- so far, is right for all.
use Rattle.std.proofs.Common.{arith, refl}
use Rattle.paths.specs.WalkLaws.{walk_first, walk_rest, walk_places}
use Rattle.totals.specs.SumLaws.{ready_empty, summed_same, summed_seq, ready_next, ready_first}
use Rattle.totals.specs.SumPathLaws.{sum_end, sum_next, total_over}
use Rattle.totals.proofs.over.total_over.Goals as goal

pub loop-at-init : goal.loop-at-init
loop-at-init c = (
  c.requires.0,
  summed_same c.args.trees.from c.args.trees.from (ready_empty c.args.trees.from c.args.trees.to
      c.nothing-sum.ensures (omega (arith, c.requires.0.stands.value_is.inside, c.requires.1))).sound (omega arith),
  λ k
      f. f,
)

pub field_end-m-requires : goal.field_end-m-requires
field_end-m-requires c = omega (arith, walk_places c.loop-at.invariant.0 c.loop-at-test.true refl)

pub sum_path-sum-requires : goal.sum_path-sum-requires
sum_path-sum-requires c = (
  walk_first c.loop-at.invariant.0 c.loop-at-test.true c.field_end-m.ensures,
  ready_first (walk_places
      c.loop-at.invariant.0 c.loop-at-test.true c.field_end-m.ensures).1 (ready_next (ready_empty c.args.trees.from
      c.args.trees.to c.nothing-sum.ensures (omega (arith, c.requires.0.stands.value_is.inside, c.requires.1)))
      c.loop-at.invariant.1),
)

pub loop-at-smaller : goal.loop-at-smaller
loop-at-smaller c = omega (arith, (walk_places c.loop-at.invariant.0 c.loop-at-test.true c.field_end-m.ensures))

pub loop-at-preserved : goal.loop-at-preserved
loop-at-preserved c = (
  walk_rest c.loop-at.invariant.0 c.loop-at-test.true c.field_end-m.ensures,
  summed_seq c.loop-at.invariant.1
      c.sum_path-sum.ensures.0,
  λ k f. c.loop-at.invariant.2 k (sum_next c.args.query.now c.args.path 0 c.args.area.now
      c.loop-at.at c.args.trees.to c.loop-at.sum c.loop-at-test.true c.field_end-m.ensures c.sum_path-sum.ensures.1 k f),
)

pub returns : goal.returns
returns c =
    total_over c.nothing-sum.ensures.1 c.loop-at.invariant.1.sound (c.loop-at.invariant.2 c.loop-at.sum (sum_end
    c.args.query.now c.args.path 0 c.args.area.now c.loop-at.at c.args.trees.to c.loop-at.sum c.loop-at-test.false))
