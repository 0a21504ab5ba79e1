use Rattle.std.proofs.Common.{◌≡◌, true, drop}
use Rattle.spec_trees.specs.Lists.{all}
use Rattle.spec_tracer.specs.Message.{is_digit}
use Rattle.spec_tracer.specs.Values.{decimal}
use Rattle.tracer_tree.proofs.number.whole.Given as goal

abbrev pub invariant-loop-digit : goal.invariant-loop-digit
invariant-loop-digit l =
    (all is_digit (drop l.digit-index l.digits) ≡ true) × (decimal l.number (drop l.digit-index l.digits) ≡ decimal 0 l.digits)
