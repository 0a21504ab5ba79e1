-- What the regrouping of two arrays asks, and what its answer says.
use Rattle.std.specs.Prelude.{◌≡◌, List, [], ◌∷◌, ◌++◌, true, ℕ, length}
use Rattle.spec_trees.specs.Limits.{work_min}
use Rattle.spec_trees.specs.Tree.{Tree}
use Rattle.spec_trees.specs.Bytes.{array_bytes}
use Rattle.spec_trees.specs.Within.{Within}
use Rattle.spec_queries.specs.Query.{Pair}
use Rattle.spec_queries.specs.Again.{regroups, regrouped}
use Rattle.spec_stages.specs.Stages.{going, stages}
use Rattle.spec_stages.specs.Positions.{numbered, carried}
use Rattle.queries.specs.declared.stage.GroupAt.{GroupAt}
use Rattle.stretches.specs.Ended.{Ended, EndedIs}
use Rattle.queries.specs.Places.{Pairs}

-- the pairs of a tray group stand in q, and a and b are the byte forms of arrays within the limits
pub record RegroupReady (q : List ℕ) (at : GroupAt) (a b w : List ℕ) : Type 0 where
  pub aggregates : List Pair
  pub grouping : List Pair
  pub pairs : Pairs q at aggregates grouping
  pub again : regroups aggregates grouping ≡ true
  pub first : List Tree
  pub first_is : a ≡ array_bytes first
  pub first_ok : Within first
  pub second : List Tree
  pub second_is : b ≡ array_bytes second
  pub second_ok : Within second
  pub size : length w ≡ work_min

-- whatever they are, r says what the regrouping of the first array's trees, and behind them the second's, comes to
abbrev pub Regroups : (q : List ℕ) (at : GroupAt) (a b v : List ℕ) → Ended → Type 0
Regroups q at a b v r = (ag gs : List Pair) (ts us : List Tree) → Pairs q at ag gs → regroups ag gs ≡ true
    → a ≡ array_bytes ts → Within ts → b ≡ array_bytes us → Within us
    → EndedIs v r (stages [] (regrouped ag gs ∷ []) (going (ts ++ us))) (carried [] (regrouped ag gs ∷ []) (numbered 1 (ts ++ us)))
