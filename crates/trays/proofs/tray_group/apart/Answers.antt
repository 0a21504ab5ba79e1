-- The proof of trays::tray_group::apart, by answers to its goals: what is right for the pairs from `at` on is right for
-- all.
use Rattle.std.proofs.Common.{refl, true, false}
use Rattle.spec_queries.specs.Bytes.{pair_f}
use Rattle.spec_queries.specs.Rules.{OkPair}
use Rattle.format.specs.FieldsLaws.{took, ended}
use Rattle.queries.specs.PartLaws.{holds_of, list_first, ok_list_rest}
use Rattle.trays.specs.TrayGroupLaws.{first_target, apart_end, apart_not, apart_next}
use Rattle.trays.proofs.tray_group.apart.Goals as goal

pub pair_at-pair-requires : goal.pair_at-pair-requires
pair_at-pair-requires c =
    let a = took c.loop-field.invariant c.next.ensures.steps c.in-Some.is in
    list_first pair_f a.before a.ends (holds_of a.holds.0)

pub alone-requires : goal.alone-requires
alone-requires c =
    let a = took c.loop-field.invariant c.next.ensures.steps c.in-Some.is in
    record {
      target = first_target a.before a.ends c.pair_at-pair.ensures a.holds.0;
      behind = ok_list_rest pair_f a.before a.ends OkPair a.holds.0;
      others = c.requires.1;
    }

pub returns-then-not-alone : goal.returns-then-not-alone
returns-then-not-alone c =
    let a = took c.loop-field.invariant c.next.ensures.steps c.in-Some.is in
    a.holds.1 false (apart_not c.args.query.now c.in-Some.field.from c.args.pairs.to c.args.others a.before a.ends
    c.pair_at-pair.ensures c.alone.ensures c.if-not-alone.true)

pub loop-field-preserved : goal.loop-field-preserved
loop-field-preserved c =
    let a = took c.loop-field.invariant c.next.ensures.steps c.in-Some.is in
    a.goes_on (
      ok_list_rest pair_f a.before a.ends OkPair a.holds.0,
      λ r h. a.holds.1 r (apart_next c.args.query.now c.in-Some.field.from c.args.pairs.to c.args.others a.before a.ends
          c.pair_at-pair.ensures c.alone.ensures c.if-not-alone.false r h),
    )

pub returns : goal.returns
returns c =
    (ended c.loop-field.invariant c.next.ensures.steps c.in-None.is).1 true
    (apart_end c.args.query.now c.args.pairs.to c.args.pairs.to c.args.others refl)
