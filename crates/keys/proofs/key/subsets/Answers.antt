-- The proof of keys::key::subsets, by answers to its goals: what the pairs from `at` on have is taken
-- n times.
use Rattle.std.proofs.Common.{arith, rules, refl}
use Rattle.spec_queries.specs.Bytes.{pair_f}
use Rattle.format.specs.FieldsLaws.{fields_of, took, begun, ended}
use Rattle.queries.specs.PartLaws.{holds_of}
use Rattle.keys.specs.KeyLaws.{weighed_first, weighed_small, weighed_next, subsets_start, subsets_on, subsets_end}
use Rattle.keys.proofs.key.subsets.Goals as goal

pub loop-pair-init : goal.loop-pair-init
loop-pair-init c =
    begun (search rules) (search rules) (search rules) (fields_of pair_f (holds_of c.requires))
    (weighed_first c.requires, subsets_start c.args.query.now c.args.keys.from c.args.keys.to)

pub overflow_add-n : goal.overflow_add-n
overflow_add-n c = let a = took c.loop-pair.invariant c.next.ensures.steps c.in-Some.is in omega (arith, weighed_small a.holds.0)

pub loop-pair-preserved : goal.loop-pair-preserved
loop-pair-preserved c = let a = took c.loop-pair.invariant c.next.ensures.steps c.in-Some.is in a.goes_on (
  weighed_next a.before a.ends a.holds.0,
  subsets_on c.args.query.now
      c.args.keys.from c.in-Some._pair.from c.args.keys.to c.loop-pair.n a.holds.1 a.before
      a.ends,
)

pub returns : goal.returns
returns c = subsets_end c.args.query.now c.args.keys.from c.args.keys.to c.args.keys.to c.loop-pair.n (ended c.loop-pair.invariant c.next.ensures.steps c.in-None.is).1
    refl
