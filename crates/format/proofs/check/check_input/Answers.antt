-- `check::check_input`: by the one field that spans the bytes.
use Rattle.std.proofs.Common.{arith, sym, ◌∙◌, length, rules}
use Rattle.format.specs.HeadLaws.{span_found}
use Rattle.format.specs.CheckLaws.{input_field, input_nothing}
use Rattle.format.proofs.check.check_input.Goals as goal

pub check_array_field-requires : goal.check_array_field-requires
check_array_field-requires c =
    let f = span_found c.args.bytes.now 0 (length c.args.bytes.now) (omega arith) _ _ _ (sym c.spanning.ensures ∙
    c.in-Some.is) in
    search rules

pub returns-in-Some : goal.returns-in-Some
returns-in-Some c =
    c.check_array_field.ensures ∙ sym (input_field c.args.bytes.now _ _ _ (sym c.spanning.ensures ∙ c.in-Some.is))

pub returns-in-None : goal.returns-in-None
returns-in-None c = sym (input_nothing c.args.bytes.now (sym c.spanning.ensures ∙ c.in-None.is))
