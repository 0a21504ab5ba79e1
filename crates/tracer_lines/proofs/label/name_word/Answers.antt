-- The proof of tracer_lines::label::name_word, by answers to its goals: the number of the bytes so far.
use Rattle.std.proofs.Common.{arith, ap, ◌+◌, ◌*◌, ◌∙◌}
use Rattle.tracer_lines.specs.LabelLaws.{word_none, word_more, word_small}
use Rattle.tracer_lines.proofs.label.name_word.Goals as goal

pub loop-byte-init : goal.loop-byte-init
loop-byte-init c = word_none c.args.name.now

pub overflow_mul-word : goal.overflow_mul-word
overflow_mul-word c = omega (arith, word_small c.args.name.now c.loop-byte.byte-index c.requires c.loop-byte-test.true c.loop-byte.invariant)

pub overflow_add-word : goal.overflow_add-word
overflow_add-word c = omega (arith, word_small c.args.name.now c.loop-byte.byte-index c.requires c.loop-byte-test.true c.loop-byte.invariant, c.from.ensures, c.type_inv.name c.loop-byte.byte-index)

pub loop-byte-preserved : goal.loop-byte-preserved
loop-byte-preserved c = ap (λ n. c.loop-byte.word * 256 + n) c.from.ensures ∙ word_more c.args.name.now c.loop-byte.byte-index c.loop-byte-test.true c.loop-byte.invariant
