-- `check::check_query`: the length first, then the one field that spans the bytes.
use Rattle.std.proofs.Common.{arith, sym, ◌∙◌, length, rules}
use Rattle.format.specs.HeadLaws.{span_found}
use Rattle.queries.specs.CheckLaws.{query_over, query_accepted, query_malformed, query_nothing}
use Rattle.queries.proofs.check.check_query.Goals as goal

pub returns-then-bytes-gt-QUERY : goal.returns-then-bytes-gt-QUERY
returns-then-bytes-gt-QUERY c = sym (query_over c.args.bytes.now c.if-bytes-gt-QUERY.true)

pub check_query_field-requires : goal.check_query_field-requires
check_query_field-requires c =
    let f = span_found c.args.bytes.now 0 (length c.args.bytes.now) (omega arith) _ _ _ (sym c.spanning.ensures ∙
    c.in-Some.is) in
    search rules

pub returns : goal.returns
returns c =
    sym (query_accepted c.args.bytes.now c.if-bytes-gt-QUERY.false _ _ _ (sym c.spanning.ensures ∙ c.in-Some.is) (sym
    c.check_query_field.ensures ∙ c.if-not-check_query_field.false))

pub returns-then-not-check_query_field : goal.returns-then-not-check_query_field
returns-then-not-check_query_field c =
    sym (query_malformed c.args.bytes.now c.if-bytes-gt-QUERY.false _ _ _ (sym c.spanning.ensures ∙ c.in-Some.is)
    (sym c.check_query_field.ensures ∙ c.if-not-check_query_field.true))

pub returns-in_default : goal.returns-in_default
returns-in_default c =
    sym (query_nothing c.args.bytes.now c.if-bytes-gt-QUERY.false (sym c.spanning.ensures ∙ c.in_default.is))
