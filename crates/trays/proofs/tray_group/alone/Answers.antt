-- The proof of trays::tray_group::alone, by answers to its goals.
use Rattle.trays.specs.TrayGroupLaws.{lead_inside, target_room, alone_not, alone_behind, alone_others}
use Rattle.trays.proofs.tray_group.alone.Goals as goal

pub steps-requires : goal.steps-requires
steps-requires c = target_room c.requires.target

pub returns-then-steps-ne1 : goal.returns-then-steps-ne1
returns-then-steps-ne1 c = alone_not c.steps.ensures c.if-steps-ne1.true

pub step_at-label-requires : goal.step_at-label-requires
step_at-label-requires c = lead_inside c.requires.target

pub returns-then-not-none_leads : goal.returns-then-not-none_leads
returns-then-not-none_leads c =
    alone_behind c.steps.ensures c.if-steps-ne1.false c.step_at-label.ensures c.none_leads.ensures
    (c.if-not-none_leads.true)

pub returns : goal.returns
returns c =
    alone_others c.steps.ensures c.if-steps-ne1.false c.step_at-label.ensures c.none_leads.ensures
    (c.if-not-none_leads.false) c.none_leads-2.ensures
