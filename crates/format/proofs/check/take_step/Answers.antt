-- `check::take_step`: at the end of the trees a label, else a tree.
use Rattle.std.proofs.Common.{arith, refl, ◌∙◌, ◌+◌, ◌-◌, eq-eqb}
use Rattle.format.specs.CheckLaws.{rest_deep, rest_bare, root_void, root_integer}
use Rattle.format.proofs.check.take_step.Goals as goal

pub returns-then-at-stop : goal.returns-then-at-stop
returns-then-at-stop c = c.enter_label.ensures c.args.left

pub returns-then-left-eq0 : goal.returns-then-left-eq0
returns-then-left-eq0 c =
    rest_deep c.args.area.now c.args.p (omega arith) c.args.left c.args.end c.requires.1 c.if-left-eq0.true (omega
    arith)

pub returns-then-is_bare : goal.returns-then-is_bare
returns-then-is_bare c =
    let b = c.is_bare.ensures c.if-is_bare.true in
    rest_bare c.args.area.now c.args.p (omega arith) c.args.left c.args.end c.requires.1 5 8 (omega arith) b
    (root_integer c.args.area.now (c.args.p.at + 6) (c.args.p.at + 14) 5 (omega (arith, b.ends)) refl ∙ eq-eqb
    (c.args.p.at + 14 - (c.args.p.at + 6)) 8 (omega arith))

pub returns-then-is_bare-2 : goal.returns-then-is_bare-2
returns-then-is_bare-2 c =
    let b = c.is_bare-2.ensures c.if-is_bare-2.true in
    rest_bare c.args.area.now c.args.p (omega arith) c.args.left c.args.end c.requires.1 3 0 (omega arith) b (root_void
    c.args.area.now (c.args.p.at + 6) (c.args.p.at + 6) 3 (omega (arith, b.ends)) refl ∙ eq-eqb (c.args.p.at + 6 -
    (c.args.p.at + 6)) 0 (omega arith))

pub returns : goal.returns
returns c = c.pass_tree.ensures c.args.left c.args.end (omega arith) c.requires.1
