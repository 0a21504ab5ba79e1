-- The proof of trays::tray_group::tray_group, by answers to its goals.
use Rattle.std.proofs.Common.{refl}
use Rattle.trays.specs.TrayGroupLaws.{query_empty, query_end, query_more, query_stage, query_plain, query_group, query_such, query_not_such}
use Rattle.trays.proofs.tray_group.tray_group.Goals as goal

pub returns-then-stages-end : goal.returns-then-stages-end
returns-then-stages-end c = query_empty c.stages_of-stages.ensures c.if-stages-end.true

pub field_end-requires : goal.field_end-requires
field_end-requires c = query_end c.stages_of-stages.ensures c.if-stages-end.false refl c.requires

pub returns-then-field_end-end : goal.returns-then-field_end-end
returns-then-field_end-end c =
    query_more c.stages_of-stages.ensures c.if-stages-end.false c.field_end.ensures c.if-field_end-end.true

pub stage_at-requires : goal.stage_at-requires
stage_at-requires c =
    query_stage c.stages_of-stages.ensures c.if-stages-end.false c.field_end.ensures c.if-field_end-end.false c.requires

pub returns-in_err-group : goal.returns-in_err-group
returns-in_err-group c =
    rw c.from_residual.ensures (query_plain c.stages_of-stages.ensures c.if-stages-end.false c.field_end.ensures c.if-field_end-end.false
    c.stage_at.ensures c.group.ensures c.in_err-group.was)

pub regroups-requires : goal.regroups-requires
regroups-requires c =
    query_group c.stages_of-stages.ensures c.if-stages-end.false c.field_end.ensures c.if-field_end-end.false
    c.stage_at.ensures c.group.ensures c.in_ok-group.was c.requires

pub returns : goal.returns
returns c =
    query_such c.stages_of-stages.ensures c.if-stages-end.false c.field_end.ensures c.if-field_end-end.false
    c.stage_at.ensures c.group.ensures c.in_ok-group.was c.regroups.ensures c.if-not-regroups.false

pub returns-then-not-regroups : goal.returns-then-not-regroups
returns-then-not-regroups c =
    query_not_such c.stages_of-stages.ensures c.if-stages-end.false c.field_end.ensures c.if-field_end-end.false
    c.stage_at.ensures c.group.ensures c.in_ok-group.was c.regroups.ensures c.if-not-regroups.true
