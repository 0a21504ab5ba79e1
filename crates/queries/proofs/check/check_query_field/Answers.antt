-- `check::check_query_field`: the tag, then the stages inside.
use Rattle.std.proofs.Common.{arith, sym, ◌∙◌, inl}
use Rattle.spec_trees.specs.Limits.{nest_max}
use Rattle.queries.specs.TableLaws.{other_rule, not_leaf}
use Rattle.queries.specs.CheckLaws.{query_field, query_tag}
use Rattle.queries.proofs.check.check_query_field.Goals as goal

pub returns-then-tag-eq16 : goal.returns-then-tag-eq16
returns-then-tag-eq16 c =
    c.check_inside.ensures ∙ sym (other_rule nest_max c.args.tag _ (not_leaf c.args.tag (λ e. omega (
      arith,
      e,
      c.if-tag-eq16.true,
    )) (λ e. omega (arith, e, c.if-tag-eq16.true)) (λ e. omega (arith, e, c.if-tag-eq16.true))) (inl
    (omega arith))) ∙ sym (query_field nest_max c.args.tag _ c.if-tag-eq16.true)

pub returns-else-tag-eq16 : goal.returns-else-tag-eq16
returns-else-tag-eq16 c = sym (query_tag c.args.tag _ c.if-tag-eq16.false)
