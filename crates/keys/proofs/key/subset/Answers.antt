-- The proof of keys::key::subset, by answers to its goals: n of the pairs from `at` on is, times the weight, what
-- they add to the sum.
use Rattle.std.proofs.Common.{arith, rules, refl}
use Rattle.spec_queries.specs.Bytes.{pair_f}
use Rattle.format.specs.FieldsLaws.{fields_of, took, begun, ended}
use Rattle.queries.specs.PartLaws.{holds_of, list_first}
use Rattle.keys.specs.KeyLaws.{weighed_first, weighed_small, weighed_next, subset_start, subset_end, subset_on}
use Rattle.keys.proofs.key.subset.Goals as goal

pub sourced-there-requires : goal.sourced-there-requires
sourced-there-requires c = let a = took c.loop-pair.invariant c.next.ensures.steps c.in-Some.is in (list_first pair_f a.before a.ends (holds_of a.holds.1), c.requires.1)

pub loop-pair-init : goal.loop-pair-init
loop-pair-init c =
    begun (search rules) (search rules) (search rules) (fields_of pair_f (holds_of c.requires.0)) (
      omega arith,
      weighed_first c.requires.0,
      subset_start c.args.query.now c.args.keys.from c.args.keys.to
          c.args.area.now c.args.tree.from c.args.tree.to,
    )

pub overflow_add-sum : goal.overflow_add-sum
overflow_add-sum c = let a = took c.loop-pair.invariant c.next.ensures.steps c.in-Some.is in omega (arith, (weighed_small a.holds.1), a.holds.0, c.counted-sum.ensures.1)

pub overflow_add-weight : goal.overflow_add-weight
overflow_add-weight c = let a = took c.loop-pair.invariant c.next.ensures.steps c.in-Some.is in omega (arith, (weighed_small a.holds.1), a.holds.0, c.counted-sum.ensures.1)

pub loop-pair-preserved : goal.loop-pair-preserved
loop-pair-preserved c = let a = took c.loop-pair.invariant c.next.ensures.steps c.in-Some.is in a.goes_on (
  omega (arith, a.holds.0, c.counted-sum.ensures.1),
  weighed_next a.before
      a.ends a.holds.1,
  subset_on c.args.query.now c.args.keys.from c.in-Some.pair.from
      c.args.keys.to c.args.area.now c.args.tree.from c.args.tree.to c.loop-pair.sum c.loop-pair.weight a.holds.2
      a.before a.ends c.sourced-there.ensures c.counted-sum.ensures.0,
)

pub returns : goal.returns
returns c = subset_end c.args.query.now c.args.keys.from c.args.keys.to c.args.keys.to c.args.area.now c.args.tree.from
    c.args.tree.to c.loop-pair.sum c.loop-pair.weight (ended c.loop-pair.invariant c.next.ensures.steps c.in-None.is).2 refl
