-- The proof of trays::tray_group::none_leads, by answers to its goals: what is right for the pairs from `at` on is right
-- for all.
use Rattle.std.proofs.Common.{refl, true, false}
use Rattle.spec_queries.specs.Bytes.{pair_f}
use Rattle.spec_queries.specs.Rules.{OkPair}
use Rattle.format.specs.FieldsLaws.{took, ended}
use Rattle.queries.specs.PartLaws.{holds_of, list_first, ok_list_rest}
use Rattle.trays.specs.TrayGroupLaws.{lead_inside, first_target, none_end, none_found, none_next}
use Rattle.trays.proofs.tray_group.none_leads.Goals as goal

pub pair_at-pair-requires : goal.pair_at-pair-requires
pair_at-pair-requires c =
    let a = took c.loop-field.invariant c.next.ensures.steps c.in-Some.is in
    list_first pair_f a.before a.ends (holds_of a.holds.0)

pub step_at-requires : goal.step_at-requires
step_at-requires c =
    let a = took c.loop-field.invariant c.next.ensures.steps c.in-Some.is in
    lead_inside (first_target a.before a.ends c.pair_at-pair.ensures a.holds.0)

pub returns-then-step_at-label : goal.returns-then-step_at-label
returns-then-step_at-label c =
    let a = took c.loop-field.invariant c.next.ensures.steps c.in-Some.is in
    a.holds.1 false (none_found c.args.query.now c.in-Some.field.from c.args.pairs.to c.args.label
    a.before a.ends c.pair_at-pair.ensures c.step_at.ensures c.if-step_at-label.true)

pub loop-field-preserved : goal.loop-field-preserved
loop-field-preserved c =
    let a = took c.loop-field.invariant c.next.ensures.steps c.in-Some.is in
    a.goes_on (
      ok_list_rest pair_f a.before a.ends OkPair a.holds.0,
      λ r h. a.holds.1 r (none_next c.args.query.now c.in-Some.field.from c.args.pairs.to c.args.label a.before a.ends
          c.pair_at-pair.ensures c.step_at.ensures c.if-step_at-label.false r h),
    )

pub returns : goal.returns
returns c =
    (ended c.loop-field.invariant c.next.ensures.steps c.in-None.is).1 true
    (none_end c.args.query.now c.args.pairs.to c.args.pairs.to c.args.label refl)
