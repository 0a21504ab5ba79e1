-- The proof of format::labels::heads, by answers to its goals.
use Rattle.std.proofs.Common.{refl}
use Rattle.spec_trees.specs.Bytes.{label_heads}
use Rattle.format.proofs.labels.heads.Goals as goal

pub returns : goal.returns
unfolding label_heads
returns c = refl
