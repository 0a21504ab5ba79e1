-- The proof of keys::key::same_key, by answers to its goals: what is right for the pairs from `at` on is right for
-- all.
use Rattle.std.proofs.Common.{refl, true, false}
use Rattle.spec_queries.specs.Bytes.{pair_f}
use Rattle.format.specs.FieldsLaws.{took, ended}
use Rattle.queries.specs.PartLaws.{list_first, list_rest}
use Rattle.keys.specs.KeyLaws.{alike_none, alike_other, alike_next}
use Rattle.keys.proofs.key.same_key.Goals as goal

pub same_source-requires : goal.same_source-requires
same_source-requires c = let a = took c.loop-pair.invariant c.next.ensures.steps c.in-Some.is in (list_first pair_f a.before a.ends a.holds.0, c.requires.1, c.requires.2)

pub returns-then-not-same_source : goal.returns-then-not-same_source
returns-then-not-same_source c = let a = took c.loop-pair.invariant c.next.ensures.steps c.in-Some.is in a.holds.1 false (alike_other c.args.query.now c.in-Some.pair.from c.args.keys.to c.args.area.now
    c.args.tree.from c.args.tree.to c.args.area2.now c.args.tree2.from c.args.tree2.to a.before
    a.ends c.same_source.ensures (c.if-not-same_source.true))

pub loop-pair-preserved : goal.loop-pair-preserved
loop-pair-preserved c = let a = took c.loop-pair.invariant c.next.ensures.steps c.in-Some.is in a.goes_on (
  list_rest pair_f a.before a.ends a.holds.0,
  λ r h. a.holds.1 r
      (alike_next c.args.query.now c.in-Some.pair.from c.args.keys.to c.args.area.now c.args.tree.from c.args.tree.to
      c.args.area2.now c.args.tree2.from c.args.tree2.to a.before a.ends c.same_source.ensures
      (c.if-not-same_source.false) r h),
)

pub returns : goal.returns
returns c = (ended c.loop-pair.invariant c.next.ensures.steps c.in-None.is).1 true (alike_none c.args.query.now c.args.keys.to c.args.keys.to c.args.area.now c.args.tree.from
    c.args.tree.to c.args.area2.now c.args.tree2.from c.args.tree2.to refl)
