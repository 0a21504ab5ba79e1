-- The proof of tracer_lines::label::word_label, by answers to its goals.
use Rattle.std.proofs.Common.{sym, ap, rules}
use Rattle.tracer_lines.specs.Label.{word_label}
use Rattle.tracer_lines.proofs.label.word_label.Goals as goal

pub returns-in-4869954 : goal.returns-in-4869954
unfolding word_label
returns-in-4869954 c = (sym (ap word_label c.in-4869954.is), search rules)

pub returns-in-4473420 : goal.returns-in-4473420
unfolding word_label
returns-in-4473420 c = (sym (ap word_label c.in-4473420.is), search rules)

pub returns-in-1212305240 : goal.returns-in-1212305240
unfolding word_label
returns-in-1212305240 c = (sym (ap word_label c.in-1212305240.is), search rules)

pub returns-in-1447186264 : goal.returns-in-1447186264
unfolding word_label
returns-in-1447186264 c = (sym (ap word_label c.in-1447186264.is), search rules)

pub returns-in-4605252 : goal.returns-in-4605252
unfolding word_label
returns-in-4605252 c = (sym (ap word_label c.in-4605252.is), search rules)

pub returns-in-4804676 : goal.returns-in-4804676
unfolding word_label
returns-in-4804676 c = (sym (ap word_label c.in-4804676.is), search rules)

pub returns-in-17487 : goal.returns-in-17487
unfolding word_label
returns-in-17487 c = (sym (ap word_label c.in-17487.is), search rules)

pub returns-in_default : goal.returns-in_default
unfolding word_label
returns-in_default c = search rules
