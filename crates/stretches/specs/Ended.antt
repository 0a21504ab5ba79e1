-- What the answer of all stretches says: the state that the plain run's stages come to, where its trees stand, and which
-- positions they bear.
use Rattle.std.specs.Prelude.{◌≡◌, List, ℕ, ◌+◌, ◌≤◌, ◌<◌, Result, Ok, Err}
use Rattle.spec_trees.specs.Limits.{array_max}
use Rattle.spec_trees.specs.Tree.{Tree}
use Rattle.spec_trees.specs.Size.{array_size}
use Rattle.spec_trees.specs.Bytes.{array_bytes}
use Rattle.spec_trees.specs.Within.{Within}
use Rattle.areas.specs.Area.{Is}
use Rattle.spec_queries.specs.Query.{Stage}
use Rattle.spec_queries.specs.Bytes.{query_bytes}
use Rattle.spec_queries.specs.Rules.{OkQ}
use Rattle.queries.specs.Places.{array_trees}
use Rattle.spec_stages.specs.Stages.{too_long, overflow, State, going, large, halted, stages}
use Rattle.spec_stages.specs.Positions.{Borne, unmarked, numbered, carried}
use Rattle.map.specs.Map.{collected_at}
use Rattle.positions.specs.Bearing.{Bears}
use Rattle.stretches.specs.declared.ended.Failure.{Failure}
use Rattle.stretches.specs.declared.ended.Failure.TheVariants as failure

-- with an array, of whose trees the collector holds so many bytes, or by a failure
abbrev pub Ended : Type 0
Ended = Result ℕ Failure

-- the trees of the state are bs, which stand in the collector, n bytes of them, bear their positions, and are no more than
-- an array may have
pub record HeldIs (w : List ℕ) (n : ℕ) (st : State) (bs : List Borne) : Type 0 where
  pub same : st ≡ going (unmarked bs)
  pub trees_are : Is w collected_at (collected_at + n) (array_trees (unmarked bs))
  pub bears : Bears w 0 bs
  pub short : n + 3 ≤ array_max

-- the trees of the state are more than an array may have
pub record FullIs (st : State) : Type 0 where
  pub trees : List Tree
  pub same : st ≡ going trees
  pub over : array_max < array_size trees

-- r says the state st, whose trees are bs if it goes on; w is the area
pub record EndedIs (w : List ℕ) (r : Ended) (st : State) (bs : List Borne) : Type 0 where
  pub held : (n : ℕ) → r ≡ Ok n → HeldIs w n st bs
  pub full : r ≡ Err failure.Full → FullIs st
  pub large_is : r ≡ Err failure.Large → st ≡ large
  pub long_is : r ≡ Err failure.Long → st ≡ halted too_long
  pub overflow_is : r ≡ Err failure.Overflow → st ≡ halted overflow

-- ---- all stretches
-- the byte forms of an admitted query, and of an input and a joined array within the limits
pub record Forms (q i j : List ℕ) : Type 0 where
  pub query : List Stage
  pub query_is : q ≡ query_bytes query
  pub query_ok : OkQ query
  pub input : List Tree
  pub input_is : i ≡ array_bytes input
  pub input_ok : Within input
  pub joined : List Tree
  pub joined_is : j ≡ array_bytes joined
  pub joined_ok : Within joined

-- whatever query and arrays these bytes are, r says what the plain run's stages come to, and what their trees bear
abbrev pub Runs : (q i j w : List ℕ) → Ended → Type 0
Runs q i j w r = (ss : List Stage) (ts us : List Tree) → q ≡ query_bytes ss → OkQ ss → i ≡ array_bytes ts → Within ts → j ≡ array_bytes us → Within us
    → EndedIs w r (stages us ss (going ts)) (carried us ss (numbered 1 ts))
