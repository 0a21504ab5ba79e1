-- The proof of keys::key::key_hash, by answers to its goals: what is right for the pairs from `at` on, with the number
-- so far, is right for all.
use Rattle.std.proofs.Common.{refl}
use Rattle.spec_queries.specs.Bytes.{pair_f}
use Rattle.format.specs.FieldsLaws.{took, ended}
use Rattle.queries.specs.PartLaws.{list_first, list_rest}
use Rattle.keys.specs.KeyHashLaws.{hash_none, hash_next}
use Rattle.keys.proofs.key.key_hash.Goals as goal

pub hash_source-h-requires : goal.hash_source-h-requires
hash_source-h-requires c = let a = took c.loop-pair.invariant c.next.ensures.steps c.in-Some.is in (
  list_first pair_f a.before a.ends a.holds.0,
  c.requires.1,
  a.holds.1,
)

pub loop-pair-preserved : goal.loop-pair-preserved
loop-pair-preserved c = let a = took c.loop-pair.invariant c.next.ensures.steps c.in-Some.is in a.goes_on (
  list_rest pair_f a.before a.ends a.holds.0,
  c.hash_source-h.ensures.1,
  λ k f.
      a.holds.2 k (hash_next c.args.query.now c.in-Some.pair.from c.args.keys.to c.args.area.now c.args.tree.from
      c.args.tree.to c.loop-pair.h a.before a.ends c.hash_source-h.ensures.0 k f),
)

pub returns : goal.returns
returns c = (
  (ended c.loop-pair.invariant c.next.ensures.steps c.in-None.is).2 c.loop-pair.h (hash_none c.args.query.now c.args.keys.to c.args.keys.to c.args.area.now
      c.args.tree.from c.args.tree.to c.loop-pair.h refl),
  (ended c.loop-pair.invariant c.next.ensures.steps c.in-None.is).1,
)
