-- The proof of format::labels::put_label, by answers to its goals.
use Rattle.format.specs.HeadedLaws.{byte_wrote}
use Rattle.format.proofs.labels.put_label.Goals as goal

pub returns : goal.returns
returns c = byte_wrote c.args.work.now c.args.at c.args.label c.requires.0
