-- Both parts of a query that the rules allow are allowed, wherever it is cut.
use Rattle.std.specs.Prelude.{◌≡◌, List, ◌++◌, map, ◌+◌, length}
use Rattle.std.proofs.Common.{ap, ◌∙◌, arith, length-append}
use Rattle.std.proofs.lemmas.List.{map-append}
use Rattle.std.proofs.Math.Option.{some}
use Rattle.spec_trees.specs.Bytes.{field_bytes, bytes}
use Rattle.spec_trees.specs.ListLaws.{All-left, All-right}
use Rattle.spec_trees.proofs.FieldLaws.{bytes_append}
use Rattle.spec_queries.specs.Query.{Stage}
use Rattle.spec_queries.specs.Bytes.{stage_f, query_f, query_bytes}
use Rattle.spec_queries.specs.Decode.{decode_query}
use Rattle.spec_queries.specs.Rules.{OkS, OkQ}
use Rattle.spec_queries.specs.QueryLaws.{query_back}

-- the bytes of the stages, without the query's head
length_query : (ss : List Stage) → length (query_bytes ss) ≡ 3 + length (bytes (map stage_f ss))
unfolding query_bytes query_f field_bytes
length_query ss = omega arith

length_cut : (a b : List Stage) → length (bytes (map stage_f (a ++ b))) ≡ length (bytes (map stage_f a)) + length (bytes (map stage_f b))
length_cut a b = ap length (ap bytes (map-append stage_f a b) ∙ bytes_append (map stage_f a) (map stage_f b)) ∙ length-append (bytes (map stage_f a)) (bytes (map stage_f b))

module _ (a b : List Stage) (o : OkQ (a ++ b)) where
  pub first_allowed : OkQ a
  first_allowed = record {
    stages = All-left OkS a b o.stages;
    count = omega (arith, o.count, length-append a b);
    size = omega (arith, o.size, length_query a, length_query (a ++ b), length_cut a b);
  }

  pub second_allowed : OkQ b
  second_allowed = record {
    stages = All-right OkS a b o.stages;
    count = omega (arith, o.count, length-append a b);
    size = omega (arith, o.size, length_query b, length_query (a ++ b), length_cut a b);
  }

-- so of a query that the rules allow, both parts are admitted, wherever it is cut
pub cut_admitted : (a b : List Stage) → OkQ (a ++ b) → (decode_query (query_bytes a) ≡ some a) × (decode_query (query_bytes b) ≡ some b)
cut_admitted a b o = (query_back a (first_allowed a b o), query_back b (second_allowed a b o))
