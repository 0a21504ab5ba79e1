-- The cycle of the check: the fields inside a field, one that holds fields, a criterion or data. They stand strictly
-- inside, so content left falls from one field to those inside it; between two such steps the functions have a rank.
use Rattle.std.proofs.Common.{Some, rules, arith, sym, ap, ◌∙◌, inl, inr, ℕ, leb}
use lib.Seq.{slice}
use Rattle.areas.specs.Area.{span}
use Rattle.queries.specs.declared.table.Rule.{Rule}
use Rattle.queries.specs.Accept.{field_ok, content_ok}
use Rattle.queries.specs.TableLaws.{criterion_field, data_field, criterion_deep, data_deep, criterion_rule, data_rule, other_rule}
use Rattle.queries.specs.CheckLaws.{children_end, is_behind, is_inside, is_bad, held_good, held_bad}
use Rattle.queries.proofs.check.+checking.Goals as goal
use Rattle.queries.proofs.check.+checking.Goals.{check_field-in_default-via-then-tag-lt33, check_field-in_default-via-else-tag-lt33+else-tag-lt40+else-tag-lt46}

pub check_criterion-returns-then-left-eq0 : goal.check_criterion-returns-then-left-eq0
check_criterion-returns-then-left-eq0 t c = sym (criterion_deep c.args.left _ c.if-left-eq0.true)

pub check_criterion-returns : goal.check_criterion-returns
check_criterion-returns t c =
    c.check_inside.ensures ∙ sym (criterion_rule c.args.left c.args.tag (slice c.args.content.from c.args.content.to
    c.args.area.now) c.requires.2 c.requires.3 c.if-left-eq0.false)

pub check_data-returns-then-left-eq0 : goal.check_data-returns-then-left-eq0
check_data-returns-then-left-eq0 t c = sym (data_deep c.args.left _ c.if-left-eq0.true)

pub check_data-returns : goal.check_data-returns
check_data-returns t c =
    c.check_inside.ensures ∙ sym (data_rule c.args.left c.args.tag (slice c.args.content.from c.args.content.to
    c.args.area.now) c.requires.2 c.requires.3 c.if-left-eq0.false)

pub check_field-returns-in-33-to-39 : goal.check_field-returns-in-33-to-39
check_field-returns-in-33-to-39 t c =
    c.check_criterion.ensures ∙ sym (criterion_field c.args.left c.args.tag (slice c.args.content.from c.args.content.to
    c.args.area.now) (omega arith) (omega arith))

pub check_field-returns-in-40-to-45 : goal.check_field-returns-in-40-to-45
check_field-returns-in-40-to-45 t c =
    c.check_data.ensures ∙ sym (data_field c.args.left c.args.tag (slice c.args.content.from c.args.content.to
    c.args.area.now) (omega arith) (omega arith))

pub check_field-returns-in_default : goal.check_field-returns-in_default
check_field-returns-in_default t c =
    c.check_inside.ensures ∙ sym (other_rule c.args.left c.args.tag (slice c.args.content.from c.args.content.to
    c.args.area.now) c.requires.2 (elim c.in_default.branch [
      | check_field-in_default-via-then-tag-lt33 w ↦ inl (omega
          arith)
      | check_field-in_default-via-else-tag-lt33+else-tag-lt40+else-tag-lt46 w ↦ inr (omega arith)
    ]))

pub check_inside-loop-at-init : goal.check_inside-loop-at-init
check_inside-loop-at-init t c = (
  omega arith,
  c.requires.0,
  omega arith,
  ap (λ (x : Rule). content_ok (field_ok c.args.left) x 0 (slice
      c.args.content.from c.args.content.to c.args.area.now)) c.rule_of-rule.ensures,
)

pub check_inside-overflow_add-count : goal.check_inside-overflow_add-count
check_inside-overflow_add-count t c =
    let f = (is_behind c.rule_of-rule.result c.loop-at.count c.args.area.now (span c.loop-at.at c.args.content.to)
    c.next_child.ensures (c.in-Some-Behind.is ∙ ap Some c.in-Some-Behind.field-0-is)) in
    omega (arith, c.loop-at.invariant)

pub check_inside-loop-at-smaller-in-Some-Behind : goal.check_inside-loop-at-smaller-in-Some-Behind
check_inside-loop-at-smaller-in-Some-Behind t c =
    let f = (is_behind c.rule_of-rule.result c.loop-at.count c.args.area.now (span c.loop-at.at c.args.content.to)
    c.next_child.ensures (c.in-Some-Behind.is ∙ ap Some c.in-Some-Behind.field-0-is)) in
    search rules

pub check_inside-loop-at-preserved-in-Some-Behind : goal.check_inside-loop-at-preserved-in-Some-Behind
check_inside-loop-at-preserved-in-Some-Behind t c =
    let f = (is_behind c.rule_of-rule.result c.loop-at.count c.args.area.now (span c.loop-at.at c.args.content.to)
    c.next_child.ensures (c.in-Some-Behind.is ∙ ap Some c.in-Some-Behind.field-0-is)) in (
      omega (arith, f, c.loop-at.invariant),
      f.within,
      omega (arith, f, c.loop-at.invariant),
      sym (f.same c.args.left) ∙
          c.loop-at.invariant.3,
    )

pub check_inside-check_field-requires : goal.check_inside-check_field-requires
check_inside-check_field-requires t c =
    let f = (is_inside c.rule_of-rule.result c.loop-at.count c.args.area.now (span c.loop-at.at c.args.content.to)
    c.next_child.ensures (c.in-Some-Inside.is ∙ ap Some c.in-Some-Inside.field-0-is)) in
    search rules

pub check_inside-overflow_add-count-in-Some-Inside : goal.check_inside-overflow_add-count-in-Some-Inside
check_inside-overflow_add-count-in-Some-Inside t c =
    let f = (is_inside c.rule_of-rule.result c.loop-at.count c.args.area.now (span c.loop-at.at c.args.content.to)
    c.next_child.ensures (c.in-Some-Inside.is ∙ ap Some c.in-Some-Inside.field-0-is)) in
    omega (arith, c.loop-at.invariant)

pub check_inside-loop-at-smaller : goal.check_inside-loop-at-smaller
check_inside-loop-at-smaller t c =
    let f = (is_inside c.rule_of-rule.result c.loop-at.count c.args.area.now (span c.loop-at.at c.args.content.to)
    c.next_child.ensures (c.in-Some-Inside.is ∙ ap Some c.in-Some-Inside.field-0-is)) in
    search rules

pub check_inside-loop-at-preserved : goal.check_inside-loop-at-preserved
check_inside-loop-at-preserved t c =
    let f = (is_inside c.rule_of-rule.result c.loop-at.count c.args.area.now (span c.loop-at.at c.args.content.to)
    c.next_child.ensures (c.in-Some-Inside.is ∙ ap Some c.in-Some-Inside.field-0-is)) in (
      omega (arith, f, c.loop-at.invariant),
      f.within,
      omega (arith, f, c.loop-at.invariant),
      sym (held_good f
          c.args.left (sym c.check_field.ensures ∙ c.if-not-check_field.false)) ∙ c.loop-at.invariant.3,
    )

pub check_inside-returns-then-not-check_field : goal.check_inside-returns-then-not-check_field
check_inside-returns-then-not-check_field t c =
    let f = (is_inside c.rule_of-rule.result c.loop-at.count c.args.area.now (span c.loop-at.at c.args.content.to)
    c.next_child.ensures (c.in-Some-Inside.is ∙ ap Some c.in-Some-Inside.field-0-is)) in
    sym (held_bad f c.args.left (sym c.check_field.ensures ∙ c.if-not-check_field.true)) ∙ c.loop-at.invariant.3

pub check_inside-returns-in-None : goal.check_inside-returns-in-None
check_inside-returns-in-None t c =
    sym (is_bad c.rule_of-rule.result c.loop-at.count c.args.area.now (span c.loop-at.at c.args.content.to)
    c.next_child.ensures c.in-None.is c.args.left) ∙ c.loop-at.invariant.3

pub check_inside-returns : goal.check_inside-returns
check_inside-returns t c =
    ap (λ (m : ℕ). leb m c.loop-at.count) c.wide.ensures.0 ∙ (sym (children_end c.args.area.now c.loop-at.at
    c.args.content.to c.requires.1 (field_ok c.args.left) c.rule_of-rule.result c.loop-at.count (omega arith) (omega
    arith)) ∙ c.loop-at.invariant.3)
