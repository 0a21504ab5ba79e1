-- The proof of tracer_lines::label::label_at, by answers to its goals.
use Rattle.std.proofs.Common.{◌∙◌, ap}
use Rattle.tracer_lines.specs.Label.{word_label}
use Rattle.tracer_lines.specs.LabelLaws.{name_label}
use Rattle.tracer_lines.proofs.label.label_at.Goals as goal

pub returns : goal.returns
returns c = (c.word_label.ensures.0 ∙ ap word_label c.name_word.ensures ∙ name_label c.requires, c.word_label.ensures.1)
