-- The proof of first_stretch::first::none_before, by answers to its goals.
use Rattle.std.proofs.Common.{arith, refl}
use Rattle.stretch.specs.NextLaws.{next_places, next_stage}
use Rattle.first_stretch.specs.FirstLaws.{none_end, none_first}
use Rattle.first_stretch.proofs.first.none_before.Goals as goal

pub returns-then-at-stages : goal.returns-then-at-stages
returns-then-at-stages c = none_end c.if-at-stages.true

pub field_end-m-requires : goal.field_end-m-requires
field_end-m-requires c =
    let n = next_places c.if-at-stages.false refl c.requires in
    omega (arith, n)

pub stage_at-requires : goal.stage_at-requires
stage_at-requires c = next_stage c.if-at-stages.false c.field_end-m.ensures c.requires

pub returns : goal.returns
returns c = none_first c.if-at-stages.false c.field_end-m.ensures c.stage_at.ensures c.is_group.ensures
