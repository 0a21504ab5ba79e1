-- The proof of key_index::enter::enter_all, by answers to its goals: some trees are entered, and some are left.
use Rattle.std.proofs.Common.{arith, refl, ◌∙◌}
use Rattle.key_index.specs.AllLaws as law
use Rattle.key_index.proofs.enter.enter_all.Goals as goal

pub clear_heads-requires : goal.clear_heads-requires
clear_heads-requires c = c.requires.size

pub overflow_add-end : goal.overflow_add-end
overflow_add-end c = omega (arith, c.requires.short)

pub loop-at-init : goal.loop-at-init
loop-at-init c = (refl, λ d. law.all_begin d c.clear_heads.ensures)

pub field_end-m-requires : goal.field_end-m-requires
field_end-m-requires c =
    omega (
      arith,
      law.all_places (law.collected_kept c.clear_heads.ensures.beyond c.clear_heads.auto.work c.requires)
          (c.loop-at.invariant.1 (law.collected_kept c.clear_heads.ensures.beyond c.clear_heads.auto.work c.requires))
          c.loop-at-test.true refl,
    )

pub enter-requires : goal.enter-requires
enter-requires c =
    law.all_one (law.collected_kept c.clear_heads.ensures.beyond c.clear_heads.auto.work c.requires)
    (c.loop-at.invariant.1 (law.collected_kept c.clear_heads.ensures.beyond c.clear_heads.auto.work c.requires))
    c.loop-at-test.true c.field_end-m.ensures

pub loop-at-smaller : goal.loop-at-smaller
loop-at-smaller c =
    omega (
      arith,
      law.all_places (law.collected_kept c.clear_heads.ensures.beyond c.clear_heads.auto.work c.requires)
          (c.loop-at.invariant.1 (law.collected_kept c.clear_heads.ensures.beyond c.clear_heads.auto.work c.requires))
          c.loop-at-test.true c.field_end-m.ensures,
    )

pub loop-at-preserved : goal.loop-at-preserved
loop-at-preserved c = (
  c.enter.auto.work ∙ c.loop-at.invariant.0,
  λ d. law.all_next d (c.loop-at.invariant.1 d) c.loop-at-test.true
      c.field_end-m.ensures c.enter.auto.work c.enter.ensures,
)

pub shape_of-work : goal.shape_of-work
shape_of-work c = c.loop-at.invariant.0 ∙ c.clear_heads.auto.work

pub returns : goal.returns
returns c =
    record {
      beyond = (c.loop-at.invariant.1 (law.collected_kept c.clear_heads.ensures.beyond c.clear_heads.auto.work
          c.requires)).beyond ∙ c.clear_heads.ensures.beyond;
      index = λ d. law.all_end (law.collected_kept
          c.clear_heads.ensures.beyond c.clear_heads.auto.work d) (c.loop-at.invariant.1 (law.collected_kept
          c.clear_heads.ensures.beyond c.clear_heads.auto.work d)) c.loop-at-test.false;
    }
