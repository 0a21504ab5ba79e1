-- `check::check_root`: by the tag, integers first.
use Rattle.std.proofs.Common.{sym, ◌∙◌, ap, ℕ, eq-eqb}
use lib.Seq.{slice}
use Rattle.format.specs.Check.{root_ok}
use Rattle.format.specs.CheckLaws.{root_void, root_integer, root_text, root_bad, root_eight}
use Rattle.format.proofs.check.check_root.Goals as goal

pub returns-then-tag-eq5 : goal.returns-then-tag-eq5
returns-then-tag-eq5 c =
    sym (root_integer c.args.area.now c.args.content.from c.args.content.to c.args.tag c.requires.1 c.if-tag-eq5.true ∙
    eq-eqb _ 8 c.if-len-eq8.true)

pub returns-then-len-eq8 : goal.returns-then-len-eq8
returns-then-len-eq8 c =
    sym (root_eight c.args.area.now c.args.content.from c.args.content.to c.args.tag c.requires.1 c.if-len-eq8.true
    c.if-tag-eq5.false)

pub returns-then-tag-eq3 : goal.returns-then-tag-eq3
returns-then-tag-eq3 c =
    sym (root_void c.args.area.now c.args.content.from c.args.content.to c.args.tag c.requires.1 c.if-tag-eq3.true)

pub returns-then-tag-eq4 : goal.returns-then-tag-eq4
returns-then-tag-eq4 c =
    c.check_bit.ensures ∙ sym (ap (λ (t : ℕ). root_ok (t, slice c.args.content.from c.args.content.to c.args.area.now))
    c.if-tag-eq4.true)

pub returns-then-tag-eq6 : goal.returns-then-tag-eq6
returns-then-tag-eq6 c =
    sym (root_text c.args.area.now c.args.content.from c.args.content.to c.args.tag c.requires.1 c.if-tag-eq6.true)

pub returns : goal.returns
returns c =
    sym (root_bad c.args.area.now c.args.content.from c.args.content.to c.args.tag c.requires.1 (λ a b.
    c.if-tag-eq3.false a) (λ a b. c.if-tag-eq4.false a) (λ a b. c.if-len-eq8.false b) (λ a b. c.if-tag-eq6.false a))
