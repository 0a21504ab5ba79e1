-- The proof of tracer_tree::number::fraction, by answers to its goals.
use Rattle.std.proofs.Common.{rules, ap, ◌∙◌}
use Rattle.tracer_tree.specs.Number.{amount_of}
use Rattle.tracer_tree.specs.NumberLaws.{fraction_none, fraction_alone, fraction_other, fraction_one, fraction_two, fraction_more}
use Rattle.tracer_tree.proofs.number.fraction.Goals as goal

pub returns-in-empty : goal.returns-in-empty
returns-in-empty c = fraction_none c.args.rest.now c.in-empty.len_below

pub returns-in-46 : goal.returns-in-46
returns-in-46 c = c.tenths.ensures ∙ ap amount_of (fraction_one c.args.rest.now (search rules) c.in-46.len_at_least c.in-46.len_below)

pub returns-in-46-2 : goal.returns-in-46-2
returns-in-46-2 c = c.both_digits.ensures ∙ ap amount_of (fraction_two c.args.rest.now (search rules) c.in-46-2.len_at_least c.in-46-2.len_below)

pub returns-in_default : goal.returns-in_default
returns-in_default c = fraction_alone c.args.rest.now c.in_default.len_at_least c.in_default.len_below

pub returns-in_default-2 : goal.returns-in_default-2
returns-in_default-2 c = search (rules, fraction_other)

pub returns-in_default-3 : goal.returns-in_default-3
returns-in_default-3 c = search (rules, fraction_other)

pub returns-in_default-4 : goal.returns-in_default-4
returns-in_default-4 c = fraction_more c.args.rest.now c.in_default.len_at_least
