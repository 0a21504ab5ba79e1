-- `check::check_array`: the length first, then whether the bytes are an array.
use Rattle.std.proofs.Common.{sym, ◌∙◌}
use Rattle.format.specs.CheckLaws.{array_over, array_accepted, array_malformed}
use Rattle.format.proofs.check.check_array.Goals as goal

pub returns-then-bytes-gt-ARRAY : goal.returns-then-bytes-gt-ARRAY
returns-then-bytes-gt-ARRAY c = sym (array_over c.args.bytes.now c.if-bytes-gt-ARRAY.true)

pub returns-then-not-check_input : goal.returns-then-not-check_input
returns-then-not-check_input c =
    sym (array_malformed c.args.bytes.now c.if-bytes-gt-ARRAY.false (sym c.check_input.ensures ∙
    c.if-not-check_input.true))

pub returns : goal.returns
returns c =
    sym (array_accepted c.args.bytes.now c.if-bytes-gt-ARRAY.false (sym c.check_input.ensures ∙
    c.if-not-check_input.false))
