-- `check::check_leaf`: by the tag.
use Rattle.std.proofs.Common.{sym, ◌∙◌, arith}
use lib.Seq.{slice}
use Rattle.queries.specs.TableLaws.{not_leaf}
use Rattle.queries.specs.CheckLaws.{field_array, field_path, field_divisor, leaf_tells}
use Rattle.queries.proofs.check.check_leaf.Goals as goal

pub returns-in-1 : goal.returns-in-1
returns-in-1 c =
    leaf_tells c.args.tag (slice c.args.content.from c.args.content.to c.args.area.now) _ (λ d.
    c.check_array_field.ensures ∙ sym (field_array d c.args.tag (slice c.args.content.from c.args.content.to
    c.args.area.now) c.in-1.is))

pub returns-in-32 : goal.returns-in-32
returns-in-32 c =
    leaf_tells c.args.tag (slice c.args.content.from c.args.content.to c.args.area.now) _ (λ d.
    c.check_path.ensures ∙ sym (field_path d c.args.tag (slice c.args.content.from c.args.content.to c.args.area.now)
    c.in-32.is))

pub returns-in-46 : goal.returns-in-46
returns-in-46 c =
    leaf_tells c.args.tag (slice c.args.content.from c.args.content.to c.args.area.now) _ (λ d.
    c.check_divisor.ensures ∙ sym (field_divisor d c.args.tag (slice c.args.content.from c.args.content.to
    c.args.area.now) c.in-46.is))

pub returns-in_default : goal.returns-in_default
returns-in_default c = not_leaf c.args.tag (omega arith) (omega arith) (omega arith)
