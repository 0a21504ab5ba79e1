-- `check::check_array_field`: by its tag; no labels stand behind its trees.
use Rattle.std.proofs.Common.{sym, ◌∙◌}
use Rattle.format.specs.Check.{place}
use Rattle.format.specs.CheckLaws.{array_tag, array_trees_lem, rest_trees}
use Rattle.format.proofs.check.check_array_field.Goals as goal

pub returns-then-tag-eq1 : goal.returns-then-tag-eq1
returns-then-tag-eq1 c =
    c.check_rest.ensures ∙ rest_trees c.args.left c.args.area.now (place c.args.content.from c.args.content.to 0) ∙ sym
    (array_trees_lem c.args.left c.args.tag _ c.if-tag-eq1.true)

pub returns-else-tag-eq1 : goal.returns-else-tag-eq1
returns-else-tag-eq1 c = sym (array_tag c.args.left c.args.tag _ c.if-tag-eq1.false)
