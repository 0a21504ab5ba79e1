-- Equality compares root, labels, element order and length; absent equals only absent. It is the logic's `≡`:
-- `given?`, among the laws, decides it, and any other decision would say the same.
use Rattle.std.specs.Prelude.{Bool}
use Rattle.std.proofs.Math.Bool.{decide}
use Rattle.spec_stages.specs.Paths.{Given}
use Rattle.spec_stages.specs.DecisionLaws.{given?}

unfoldable pub same_given : Given → Given → Bool
unfolding decide
same_given x y = decide (given? x y)
