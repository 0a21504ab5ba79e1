-- A cut, in document 01's term: it parts the stages of a query, in order, into two queries, either of which may have
-- none.
use Rattle.std.specs.Prelude.{◌≡◌, List, ◌++◌, ℕ}
use Rattle.spec_queries.specs.Query.{Stage}
use Rattle.spec_queries.specs.Bytes.{query_bytes}
use Rattle.spec_queries.specs.Rules.{OkQ}
use Rattle.spec_run.specs.Run.{Outcome, result_bytes}

-- q is the byte form of a query that the rules allow; q₁ and q₂ are those of its parts
pub record Cut (q q₁ q₂ : List ℕ) : Type 0 where
  pub before : List Stage
  pub behind : List Stage
  pub allowed : OkQ (before ++ behind)
  pub whole : q ≡ query_bytes (before ++ behind)
  pub first : q₁ ≡ query_bytes before
  pub second : q₂ ≡ query_bytes behind

-- number, length and result bytes are the same
pub record SameAnswer (o p : Outcome) : Type 0 where
  pub number : o.number ≡ p.number
  pub length : o.length ≡ p.length
  pub result : result_bytes o ≡ result_bytes p
