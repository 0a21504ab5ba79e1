-- The proof of tracer_tree::number::read_number, by answers to its goals.
use Rattle.std.proofs.Common.{rules, sym, ap, ◌∙◌, option_map, pos, neg_ℤ}
use Rattle.spec_trees.specs.Bytes.{pattern}
use Rattle.tracer_tree.specs.NumberLaws.{minus_inside, mapped, number_negative, number_positive}
use Rattle.tracer_tree.proofs.number.read_number.Goals as goal

pub amount_at-requires : goal.amount_at-requires
amount_at-requires c = minus_inside c.args.value.now (sym c.stands.ensures ∙ c.if-stands.true)

pub returns-then-stands : goal.returns-then-stands
returns-then-stands c =
    mapped (λ n. pattern (neg_ℤ (pos n))) c.amount_at.result c.map.ensures.cases (λ x y h. search rules)
    ∙ ap (option_map (λ n. pattern (neg_ℤ (pos n)))) c.amount_at.ensures ∙ number_negative c.args.value.now (sym c.stands.ensures ∙ c.if-stands.true)

pub returns : goal.returns
returns c = c.amount_at-2.ensures ∙ number_positive c.args.value.now (sym c.stands.ensures ∙ c.if-stands.false)
