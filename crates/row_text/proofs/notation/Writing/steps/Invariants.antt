-- `steps` ends: each turn leaves a character behind.
use Rattle.std.proofs.Common.{length}
use Rattle.row_text.proofs.notation.Writing.steps.Given as goal

abbrev pub decreases-loop-character : goal.decreases-loop-character
decreases-loop-character l = length l.rest
