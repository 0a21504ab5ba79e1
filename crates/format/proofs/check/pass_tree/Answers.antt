-- `check::pass_tree`: each return is a case of a tree.
use Rattle.std.proofs.Common.{arith, sym, ◌∙◌, rules}
use Rattle.format.specs.HeadLaws.{head_found}
use Rattle.format.specs.CheckLaws.{tree_tag, tree_large, tree_root, tree_nothing, rest_nothing, rest_bad, rest_inward, rest_on}
use Rattle.format.proofs.check.pass_tree.Goals as goal

pub returns-in_default : goal.returns-in_default
returns-in_default c =
    λ d end k b. rest_nothing c.args.area.now c.args.p c.requires.1 d end b c.requires.0 (sym c.head_at.ensures ∙
    c.in_default.is)

pub returns-then-tree-ne2 : goal.returns-then-tree-ne2
returns-then-tree-ne2 c =
    λ d end k b. rest_bad c.args.area.now c.args.p c.requires.1 d end b _ _ _ (sym c.head_at.ensures ∙ c.in-Some.is)
    (tree_tag d _ _ c.if-tree-ne2.true)

pub overflow_sub-to : goal.overflow_sub-to
overflow_sub-to c =
    let f = (head_found c.args.area.now c.args.p.at c.args.p.stop c.requires.1 _ _ _ (sym c.head_at.ensures ∙
    c.in-Some.is)) in
    search rules

pub returns-then-to-from : goal.returns-then-to-from
returns-then-to-from c =
    λ d end k b. rest_bad c.args.area.now c.args.p c.requires.1 d end b _ _ _ (sym c.head_at.ensures ∙ c.in-Some.is)
    (tree_large c.args.area.now _ _ d _ (omega (
      arith,
      (head_found c.args.area.now c.args.p.at c.args.p.stop
          c.requires.1 _ _ _ (sym c.head_at.ensures ∙ c.in-Some.is)),
    )) c.if-to-from.true)

pub head_at-requires-2 : goal.head_at-requires-2
head_at-requires-2 c =
    let f = (head_found c.args.area.now c.args.p.at c.args.p.stop c.requires.1 _ _ _ (sym c.head_at.ensures ∙
    c.in-Some.is)) in
    search rules

pub returns-in_default-head_at : goal.returns-in_default-head_at
returns-in_default-head_at c =
    λ d end k b. let f = head_found c.args.area.now c.args.p.at c.args.p.stop c.requires.1 _ _ _ (sym
    c.head_at.ensures ∙ c.in-Some.is) in
    rest_bad c.args.area.now c.args.p c.requires.1 d end b _ _ _ (sym c.head_at.ensures ∙ c.in-Some.is)
    (tree_nothing c.args.area.now _ _ d _ (omega arith) (λ z. omega (arith, z)) c.if-tree-ne2.false
    f.order c.if-to-from.false (sym c.head_at-2.ensures ∙ c.in_default-head_at.is))

pub check_root-requires : goal.check_root-requires
check_root-requires c =
    let f = (head_found c.args.area.now c.args.p.at c.args.p.stop c.requires.1 _ _ _ (sym c.head_at.ensures ∙
    c.in-Some.is)) in
    let g = head_found c.args.area.now _ _ (omega (arith, f)) _ _ _ (sym c.head_at-2.ensures ∙ c.in-Some-head_at.is) in
    search rules

pub returns-then-not-check_root : goal.returns-then-not-check_root
returns-then-not-check_root c =
    λ d end k b. let f = head_found c.args.area.now c.args.p.at c.args.p.stop c.requires.1 _ _ _ (sym
    c.head_at.ensures ∙ c.in-Some.is) in
    rest_bad c.args.area.now c.args.p c.requires.1 d end b _ _ _ (sym c.head_at.ensures ∙ c.in-Some.is)
    (tree_root c.args.area.now _ _ d _ (omega arith) (λ z. omega (arith, z)) c.if-tree-ne2.false f.order
    c.if-to-from.false _ _ _ (sym c.head_at-2.ensures ∙ c.in-Some-head_at.is) (sym c.check_root.ensures ∙
    c.if-not-check_root.true))

pub returns-then-labels-to : goal.returns-then-labels-to
returns-then-labels-to c =
    λ d end k b. rest_on c.args.area.now c.args.p c.requires.1 d end b _ _ _ (sym c.head_at.ensures ∙ c.in-Some.is) k
    c.if-tree-ne2.false c.if-to-from.false _ _ _ (sym c.head_at-2.ensures ∙ c.in-Some-head_at.is) (sym
    c.check_root.ensures ∙
    c.if-not-check_root.false) c.if-labels-to.true

pub returns : goal.returns
returns c =
    λ d end k b. rest_inward c.args.area.now c.args.p c.requires.1 d end b _ _ _ (sym c.head_at.ensures ∙
    c.in-Some.is) k c.if-tree-ne2.false c.if-to-from.false _ _ _ (sym c.head_at-2.ensures ∙ c.in-Some-head_at.is) (sym
    c.check_root.ensures ∙ c.if-not-check_root.false)
