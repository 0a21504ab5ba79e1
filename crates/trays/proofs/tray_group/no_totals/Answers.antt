-- The proof of trays::tray_group::no_totals, by answers to its goals: what is right for the pairs from `at` on is right
-- for all.
use Rattle.std.proofs.Common.{refl, true, false}
use Rattle.spec_queries.specs.Bytes.{pair_f}
use Rattle.format.specs.FieldsLaws.{took, ended}
use Rattle.queries.specs.PartLaws.{list_first, list_rest}
use Rattle.trays.specs.TrayGroupLaws.{totals_end, totals_found, totals_next}
use Rattle.trays.proofs.tray_group.no_totals.Goals as goal

pub is_total-requires : goal.is_total-requires
is_total-requires c =
    let a = took c.loop-pair.invariant c.next.ensures.steps c.in-Some.is in
    list_first pair_f a.before a.ends a.holds.0

pub returns-then-is_total : goal.returns-then-is_total
returns-then-is_total c =
    let a = took c.loop-pair.invariant c.next.ensures.steps c.in-Some.is in
    a.holds.1 false (totals_found c.args.query.now c.in-Some.pair.from c.args.pairs.to a.before a.ends c.is_total.ensures c.if-is_total.true)

pub loop-pair-preserved : goal.loop-pair-preserved
loop-pair-preserved c =
    let a = took c.loop-pair.invariant c.next.ensures.steps c.in-Some.is in
    a.goes_on (
      list_rest pair_f a.before a.ends a.holds.0,
      λ r h. a.holds.1 r (totals_next c.args.query.now c.in-Some.pair.from c.args.pairs.to a.before a.ends
          c.is_total.ensures c.if-is_total.false r h),
    )

pub returns : goal.returns
returns c = (ended c.loop-pair.invariant c.next.ensures.steps c.in-None.is).1 true (totals_end c.args.query.now c.args.pairs.to c.args.pairs.to refl)
