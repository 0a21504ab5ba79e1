-- `check::next_child`: each return is a case of a child.
use Rattle.std.proofs.Common.{Some, arith, sym, ap, ◌∙◌, ◌-◌, rules}
use Rattle.format.specs.HeadLaws.{head_found}
use Rattle.queries.specs.declared.table.Child.{Child}
use Rattle.queries.specs.Table.{allowed}
use Rattle.queries.specs.CheckLaws.{next_nothing, next_over, next_other, next_good, next_fields, next_bad}
use Rattle.queries.proofs.check.next_child.Goals as goal

pub returns-then-wide-count : goal.returns-then-wide-count
returns-then-wide-count c =
    next_over c.args.rule c.args.count c.args.area.now c.args.rest c.requires.1 (let e = c.wide.ensures.0 in omega
    arith) c.requires.0

pub returns-in_err-field : goal.returns-in_err-field
returns-in_err-field c =
    rw c.from_residual.ensures (next_nothing c.args.rule c.args.count c.args.area.now c.args.rest c.requires.1 c.requires.0 (sym c.head_at.ensures
    ∙ c.in_err-field.was))

pub overflow_sub-to : goal.overflow_sub-to
overflow_sub-to c =
    let f = (head_found c.args.area.now c.args.rest.from c.args.rest.to c.requires.1 _ _ _ (sym c.head_at.ensures ∙
    c.in_ok-field.was)) in
    search rules

pub returns-then-not-allows : goal.returns-then-not-allows
returns-then-not-allows c =
    next_other c.args.rule c.args.count c.args.area.now c.args.rest c.requires.1 _ _ _ (sym c.head_at.ensures ∙
    c.in_ok-field.was) (let e = c.wide.ensures.0 in omega arith) ((sym (ap (λ (ch : Child). allowed ch c.in_ok-field.field.tag
    (c.in_ok-field.field.content.to - c.in_ok-field.field.content.from)) c.child_at.ensures) ∙ sym c.allows.ensures) ∙ c.if-not-allows.true)

pub check_leaf-requires : goal.check_leaf-requires
check_leaf-requires c =
    let f = (head_found c.args.area.now c.args.rest.from c.args.rest.to c.requires.1 _ _ _ (sym c.head_at.ensures ∙
    c.in_ok-field.was)) in
    search rules

pub returns-in-Some-true : goal.returns-in-Some-true
returns-in-Some-true c =
    next_good c.args.rule c.args.count c.args.area.now c.args.rest c.requires.1 _ _ _ (sym c.head_at.ensures ∙
    c.in_ok-field.was) (let e = c.wide.ensures.0 in omega arith) ((sym (ap (λ (ch : Child). allowed ch c.in_ok-field.field.tag
    (c.in_ok-field.field.content.to - c.in_ok-field.field.content.from)) c.child_at.ensures) ∙ sym c.allows.ensures) ∙ c.if-not-allows.false) c.check_leaf.ensures (c.in-Some-true.is ∙ ap Some c.in-Some-true.field-0-test)

pub returns-in-None : goal.returns-in-None
returns-in-None c =
    next_fields c.args.rule c.args.count c.args.area.now c.args.rest c.requires.1 _ _ _ (sym c.head_at.ensures ∙
    c.in_ok-field.was) (let e = c.wide.ensures.0 in omega arith) ((sym (ap (λ (ch : Child). allowed ch c.in_ok-field.field.tag
    (c.in_ok-field.field.content.to - c.in_ok-field.field.content.from)) c.child_at.ensures) ∙ sym c.allows.ensures) ∙ c.if-not-allows.false) c.check_leaf.ensures c.in-None.is

pub returns-in-Some-false : goal.returns-in-Some-false
returns-in-Some-false c =
    next_bad c.args.rule c.args.count c.args.area.now c.args.rest c.requires.1 _ _ _ (sym c.head_at.ensures ∙
    c.in_ok-field.was) (let e = c.wide.ensures.0 in omega arith) ((sym (ap (λ (ch : Child). allowed ch c.in_ok-field.field.tag
    (c.in_ok-field.field.content.to - c.in_ok-field.field.content.from)) c.child_at.ensures) ∙ sym c.allows.ensures) ∙ c.if-not-allows.false) c.check_leaf.ensures (c.in-Some-false.is ∙ ap Some c.in-Some-false.field-0-test)
