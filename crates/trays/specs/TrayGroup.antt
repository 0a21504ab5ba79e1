-- What the search for a tray group asks of a query's bytes, and what it says of them: the aggregates are looked through
-- for a total, and the destinations are tested one after another, each against those behind it.
use Rattle.std.specs.Prelude.{◌≡◌, List, [], ◌∷◌, ◌++◌, Bool, true, false, not, ◌&&◌, ℕ, Some, None, Option}
use Rattle.std.proofs.Math.Option.{none}
use Rattle.spec_trees.specs.Lists.{all, All}
use Rattle.spec_queries.specs.Query.{Path, Pair, Stage, group}
use Rattle.spec_queries.specs.Bytes.{query_bytes}
use Rattle.spec_queries.specs.Rules.{OkP⁺, OkPair, OkQ}
use Rattle.spec_queries.specs.Again.{targets, leads, distinct_targets, no_totals, regroups, regrouping}
use Rattle.areas.specs.Area.{IsAt}
use Rattle.areas.specs.declared.span.Span.{Span}
use Rattle.queries.specs.Places.{path_bytes, pairs_bytes, OkAt, Pairs}
use Rattle.queries.specs.declared.stage.GroupAt.{GroupAt}

-- ---- destinations, one against others
-- no destination of the pairs begins with k
unfoldable pub none_leads : ℕ → List Pair → Bool
none_leads k ps = all (λ p. not (leads k p)) (targets ps)

-- the path is a single label, with which no destination of the pairs begins
unfoldable pub alone : Path → List Pair → Bool
alone [] ps = false
alone (k ∷ []) ps = none_leads k ps
alone (k ∷ j ∷ p) ps = false

-- so is each destination of ps, against those behind it and those of qs
unfoldable pub apart : List Pair → List Pair → Bool
apart [] qs = true
apart (p ∷ ps) qs = alone p.target (ps ++ qs) && apart ps qs

-- ---- answers, right of whatever pairs stand there that the rules allow
-- whether no destination begins with k
abbrev pub NoneLeadsIs : (q : List ℕ) (pairs_at : Span) (k : ℕ) → Bool → Type 0
NoneLeadsIs q pairs_at k r = (ps : List Pair) → All OkPair ps → IsAt q pairs_at (pairs_bytes ps) → r ≡ none_leads k ps

-- a destination, the pairs behind it, and others
pub record TargetsReady (q : List ℕ) (target_at behind_at others_at : Span) : Type 0 where
  pub target : OkAt OkP⁺ path_bytes q target_at
  pub behind : OkAt (All OkPair) pairs_bytes q behind_at
  pub others : OkAt (All OkPair) pairs_bytes q others_at

-- whether it stands alone
abbrev pub AloneIs : (q : List ℕ) (target_at behind_at others_at : Span) → Bool → Type 0
AloneIs q target_at behind_at others_at r = (p : Path) (ps qs : List Pair) → IsAt q target_at (path_bytes p) → All OkPair ps → IsAt q behind_at (pairs_bytes ps)
    → All OkPair qs → IsAt q others_at (pairs_bytes qs) → r ≡ alone p (ps ++ qs)

-- whether all do
abbrev pub ApartIs : (q : List ℕ) (pairs_at others_at : Span) → Bool → Type 0
ApartIs q pairs_at others_at r = (ps qs : List Pair) → All OkPair ps → IsAt q pairs_at (pairs_bytes ps) → All OkPair qs → IsAt q others_at (pairs_bytes qs)
    → r ≡ apart ps qs

-- whether none is a total, also of pairs that the rules do not allow
abbrev pub NoTotalsIs : (q : List ℕ) (pairs_at : Span) → Bool → Type 0
NoTotalsIs q pairs_at r = (ps : List Pair) → IsAt q pairs_at (pairs_bytes ps) → r ≡ no_totals ps

-- ---- a group
-- allowed pairs stand at its places
pub record GroupStands (q : List ℕ) (at : GroupAt) : Type 0 where
  pub aggregates : List Pair
  pub grouping : List Pair
  pub pairs : Pairs q at aggregates grouping

-- whether its destinations are single, distinct labels
abbrev pub DistinctIs : (q : List ℕ) → GroupAt → Bool → Type 0
DistinctIs q at r = (ag gs : List Pair) → Pairs q at ag gs → r ≡ distinct_targets ag gs

-- whether its tray results can be grouped again
abbrev pub RegroupsIs : (q : List ℕ) → GroupAt → Bool → Type 0
RegroupsIs q at r = (ag gs : List Pair) → Pairs q at ag gs → r ≡ regroups ag gs

-- q is the byte form of a query that the rules allow
pub record QueryForm (q : List ℕ) : Type 0 where
  pub query : List Stage
  pub query_is : q ≡ query_bytes query
  pub query_ok : OkQ query

-- the stages ss are one group alone whose tray results can be grouped again, and its pairs stand there
pub record IsTrayGroup (q : List ℕ) (ss : List Stage) (at : GroupAt) : Type 0 where
  pub aggregates : List Pair
  pub grouping : List Pair
  pub same : ss ≡ group aggregates grouping ∷ []
  pub again : regroups aggregates grouping ≡ true
  pub pairs : Pairs q at aggregates grouping

pub record TrayGroupOf (q : List ℕ) (ss : List Stage) (r : Option GroupAt) : Type 0 where
  pub at_is : (at : GroupAt) → r ≡ Some at → IsTrayGroup q ss at
  pub other_is : r ≡ None → regrouping ss ≡ none

-- r is right of whatever query these bytes are
abbrev pub TrayGroupIs : List ℕ → Option GroupAt → Type 0
TrayGroupIs q r = (ss : List Stage) → q ≡ query_bytes ss → OkQ ss → TrayGroupOf q ss r
