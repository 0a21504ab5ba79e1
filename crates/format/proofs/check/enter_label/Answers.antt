-- `check::enter_label`: each return is a case of a label.
use Rattle.std.proofs.Common.{arith, sym, ap, ◌∙◌, ◌+◌, rules}
use lib.Seq.{slice}
use Rattle.format.specs.Check.{trees_ok}
use Rattle.format.specs.HeadLaws.{head_found, span_found}
use Rattle.format.specs.CheckLaws.{label_tag_lem, label_short, label_low, label_high, label_array, label_nothing, array_tag, array_trees_lem, rest_done, rest_no_label, rest_bad_label, rest_label}
use Rattle.format.proofs.check.enter_label.Goals as goal

pub returns-then-at-end : goal.returns-then-at-end
returns-then-at-end c =
    λ d. rest_done c.args.area.now c.args.p d c.args.end c.requires.0 c.requires.1 c.requires.2 c.if-at-end.true

pub returns-in_default : goal.returns-in_default
returns-in_default c =
    λ d. rest_no_label c.args.area.now c.args.p d c.args.end c.requires.0 c.requires.1 c.requires.2 c.if-at-end.false
    (sym c.head_at.ensures ∙ c.in_default.is)

pub returns-then-field-ne-TAG : goal.returns-then-field-ne-TAG
returns-then-field-ne-TAG c =
    λ d. rest_bad_label c.args.area.now c.args.p d c.args.end c.requires.0 c.requires.1 c.requires.2 _ _ _ (sym
    c.head_at.ensures ∙ c.in-Some.is) (label_tag_lem d _ _ _ c.if-field-ne-TAG.true)

pub overflow_sub-to : goal.overflow_sub-to
overflow_sub-to c =
    let f = (head_found c.args.area.now c.args.p.stop c.args.end c.requires.2 _ _ _ (sym c.head_at.ensures ∙
    c.in-Some.is)) in
    search rules

pub returns-then-to-at-lt7 : goal.returns-then-to-at-lt7
returns-then-to-at-lt7 c =
    λ d. let f = head_found c.args.area.now c.args.p.stop c.args.end c.requires.2 _ _ _ (sym c.head_at.ensures ∙
    c.in-Some.is) in
    rest_bad_label c.args.area.now c.args.p d c.args.end c.requires.0 c.requires.1 c.requires.2 _ _ _ (sym
    c.head_at.ensures ∙ c.in-Some.is) (label_short c.args.area.now c.args.p.stop c.in-Some.field.content.to d
    c.args.p.last _
    (omega arith) c.if-field-ne-TAG.false (omega arith) c.if-to-at-lt7.true)

pub label_at-label-requires : goal.label_at-label-requires
label_at-label-requires c =
    let f = (head_found c.args.area.now c.args.p.stop c.args.end c.requires.2 _ _ _ (sym c.head_at.ensures ∙
    c.in-Some.is)) in
    search rules

pub returns-then-label-p : goal.returns-then-label-p
returns-then-label-p c =
    λ d. rest_bad_label c.args.area.now c.args.p d c.args.end c.requires.0 c.requires.1 c.requires.2 _ _ _ (sym
    c.head_at.ensures ∙ c.in-Some.is) (label_low c.args.area.now c.args.p.stop c.in-Some.field.content.to d
    c.args.p.last _ (omega (
      arith,
      (head_found c.args.area.now c.args.p.stop c.args.end c.requires.2 _ _ _ (sym c.head_at.ensures ∙
          c.in-Some.is)),
    )) c.if-field-ne-TAG.false (omega (arith, c.if-to-at-lt7.false)) c.label_at-label.result
    c.label_at-label.ensures c.if-label-p.true)

pub returns-then-label_number-gt-LABEL : goal.returns-then-label_number-gt-LABEL
returns-then-label_number-gt-LABEL c =
    λ d. rest_bad_label c.args.area.now c.args.p d c.args.end c.requires.0 c.requires.1 c.requires.2 _ _ _ (sym
    c.head_at.ensures ∙ c.in-Some.is) (label_high c.args.area.now c.args.p.stop c.in-Some.field.content.to d
    c.args.p.last _
    (omega (
      arith,
      (head_found c.args.area.now c.args.p.stop c.args.end c.requires.2 _ _ _ (sym c.head_at.ensures ∙
          c.in-Some.is)),
    )) c.if-field-ne-TAG.false (omega (arith, c.if-to-at-lt7.false)) c.label_at-label.result
    c.label_at-label.ensures (let n = c.label_number.ensures in omega arith))

pub spanning_at-requires : goal.spanning_at-requires
spanning_at-requires c =
    let f = (head_found c.args.area.now c.args.p.stop c.args.end c.requires.2 _ _ _ (sym c.head_at.ensures ∙
    c.in-Some.is)) in
    search rules

pub returns-in_default-spanning_at : goal.returns-in_default-spanning_at
returns-in_default-spanning_at c =
    λ d. rest_bad_label c.args.area.now c.args.p d c.args.end c.requires.0 c.requires.1 c.requires.2 _ _ _ (sym
    c.head_at.ensures ∙ c.in-Some.is) (label_nothing c.args.area.now c.args.p.stop c.in-Some.field.content.to d
    c.args.p.last _
    (omega (
      arith,
      (head_found c.args.area.now c.args.p.stop c.args.end c.requires.2 _ _ _ (sym c.head_at.ensures ∙
          c.in-Some.is)),
    )) c.if-field-ne-TAG.false (omega (arith, c.if-to-at-lt7.false)) c.label_at-label.result
    c.label_at-label.ensures (sym c.spanning_at.ensures ∙ c.in_default-spanning_at.is))

pub returns-then-array-ne1 : goal.returns-then-array-ne1
returns-then-array-ne1 c =
    λ d. rest_bad_label c.args.area.now c.args.p d c.args.end c.requires.0 c.requires.1 c.requires.2 _ _ _ (sym
    c.head_at.ensures ∙ c.in-Some.is) ((label_array c.args.area.now c.args.p.stop c.in-Some.field.content.to d
    c.args.p.last _
    (omega (
      arith,
      (head_found c.args.area.now c.args.p.stop c.args.end c.requires.2 _ _ _ (sym c.head_at.ensures ∙
          c.in-Some.is)),
    )) c.if-field-ne-TAG.false (omega (arith, c.if-to-at-lt7.false)) c.label_at-label.result
    c.label_at-label.ensures c.if-label-p.false (let n = c.label_number.ensures in omega arith) _ _ _ (sym
    c.spanning_at.ensures ∙ c.in-Some-spanning_at.is)) ∙ array_tag d _ _ c.if-array-ne1.true)

pub returns : goal.returns
returns c =
    λ d. let f = head_found c.args.area.now c.args.p.stop c.args.end c.requires.2 _ _ _ (sym c.head_at.ensures ∙
    c.in-Some.is) in
    let g = span_found c.args.area.now (c.args.p.stop + 4) _ (omega arith) _ _ _ (sym
    c.spanning_at.ensures ∙ c.in-Some-spanning_at.is) in
    rest_label c.args.area.now c.args.p d c.args.end c.requires.0 c.requires.1 c.requires.2 _ _ _ (sym
    c.head_at.ensures ∙ c.in-Some.is) _ _ c.label_at-label.ensures ((label_array c.args.area.now c.args.p.stop
    c.in-Some.field.content.to d c.args.p.last _ (omega arith) c.if-field-ne-TAG.false (omega (
      arith,
      c.if-to-at-lt7.false,
    ))
    c.label_at-label.result c.label_at-label.ensures c.if-label-p.false (let n = c.label_number.ensures in omega arith)
    _ _ _ (sym c.spanning_at.ensures ∙ c.in-Some-spanning_at.is)) ∙ array_trees_lem d _ _ c.if-array-ne1.false ∙ ap (λ
    i.
    trees_ok d (slice c.in-Some-spanning_at.array.content.from i c.args.area.now)) g.stop) (omega (arith, g)) (omega
    (arith, g))
