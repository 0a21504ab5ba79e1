-- The proof of key_index::enter::last_like, by answers to its goals: the last with the same key is among those that are
-- left.
use Rattle.std.proofs.Common.{arith}
use Rattle.key_index.specs.SearchLaws as law
use Rattle.key_index.proofs.enter.last_like.Goals as goal

pub loop-at-init : goal.loop-at-init
loop-at-init c = λ s. law.search_begin s

pub field_end-requires : goal.field_end-requires
field_end-requires c = omega (arith, law.other_places c.requires (c.loop-at.invariant c.requires) c.loop-at-test.true)

pub same_key-requires : goal.same_key-requires
same_key-requires c = (
  law.keys_stand c.requires.entering,
  law.other_stands c.requires (c.loop-at.invariant c.requires)
      c.loop-at-test.true c.field_end.ensures,
  law.tree_stands c.requires.entering,
)

pub returns-then-same_key : goal.returns-then-same_key
returns-then-same_key c =
    λ s. law.noted_some (law.search_found s (c.loop-at.invariant s) c.loop-at-test.true c.field_end.ensures
    c.same_key.ensures c.if-same_key.true) c.loop-at-test.true

pub overflow_sub-at : goal.overflow_sub-at
overflow_sub-at c = omega (arith, law.other_places c.requires (c.loop-at.invariant c.requires) c.loop-at-test.true)

pub two_at-at-requires : goal.two_at-at-requires
two_at-at-requires c = omega (arith, law.other_places c.requires (c.loop-at.invariant c.requires) c.loop-at-test.true)

pub loop-at-smaller : goal.loop-at-smaller
loop-at-smaller c =
    omega (arith, law.goes_down c.requires (c.loop-at.invariant c.requires) c.loop-at-test.true, c.two_at-at.ensures.0)

pub loop-at-preserved : goal.loop-at-preserved
loop-at-preserved c =
    λ s. rw c.two_at-at.ensures.0 (law.search_again s (c.loop-at.invariant s) c.loop-at-test.true c.field_end.ensures
    c.same_key.ensures c.if-same_key.false)

pub returns : goal.returns
returns c = λ s. law.noted_none (law.search_none s (c.loop-at.invariant s) c.loop-at-test.false)
