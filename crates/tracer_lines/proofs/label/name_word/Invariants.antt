use Rattle.std.proofs.Common.{◌≡◌, take}
use Rattle.spec_trees.specs.Readers.{big_value}
use Rattle.tracer_lines.proofs.label.name_word.Given as goal

abbrev pub invariant-loop-byte : goal.invariant-loop-byte
invariant-loop-byte l = l.word ≡ big_value (take l.byte-index l.name)
