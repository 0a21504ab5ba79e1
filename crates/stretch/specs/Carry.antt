-- The collected trees with the positions that they bear, and what it means that a part of a run carries trees there.
-- The stages are lent all of the work area but those positions.
use Rattle.std.specs.Prelude.{◌≡◌, List, [], ◌++◌, ℕ, ◌+◌, ◌≤◌, ◌<◌, length, take}
use Rattle.spec_trees.specs.Lists.{All}
use Rattle.areas.specs.Area.{Is}
use Rattle.queries.specs.Places.{array_trees}
use Rattle.spec_stages.specs.Stages.{State, going, large, halted}
use Rattle.spec_stages.specs.Positions.{Borne, unmarked}
use Rattle.map.specs.Map.{trees_max, lent_part, collected_at}
use Rattle.positions.specs.Bearing.{Position, Bears, Standing, Marks}
use Rattle.stream.specs.declared.collector.Collector.{Collector}
use Rattle.stream.specs.declared.collector.Collector.TheVariants.{Len, Over, Large}

-- what is lent to the stages
abbrev pub lent_area : List ℕ → List ℕ
lent_area w = take lent_part w

abbrev pub Positions : List Borne → Type 0
Positions bs = All (λ b. Position b.position) bs

-- the collector, which holds what s says, has taken bs: they stand there and bear their positions; or they are more than
-- an array may have
unfoldable pub Holds : List ℕ → Collector → List Borne → Type 0
Holds w (Len n) bs = Is w collected_at (collected_at + n) (array_trees (unmarked bs)) × (n ≤ trees_max) × Bears w 0 bs
Holds w Over bs = trees_max < length (array_trees (unmarked bs))
Holds w Large bs = ⊥

-- after cs it has taken bs, which are the trees of the state; or a tree was too large, and nothing else is said
unfoldable pub Taken : List ℕ → Collector → List Borne → State → List Borne → Type 0
Taken v r cs large bs = r ≡ Large
Taken v r cs (halted h) bs = ⊥
Taken v r cs (going ts) bs = (unmarked bs ≡ ts) × Holds v r (cs ++ bs)

-- from the area w with the collector s to the area v with the collector r
pub record Carries (w : List ℕ) (s : Collector) (v : List ℕ) (r : Collector) (st : State) (bs : List Borne) : Type 0 where
  pub taken : (cs : List Borne) → Holds w s cs → Taken v r cs st bs

-- the collector has just the trees of the state, and they bear their positions
pub record Shows (v : List ℕ) (r : Collector) (st : State) (bs : List Borne) : Type 0 where
  pub taken : Taken v r [] st bs

-- ---- the trees that were collected between s and r
abbrev pub SinceReady : List ℕ → Collector → Collector → Type 0
SinceReady w s r = (a b : ℕ) → s ≡ Len a → r ≡ Len b → Standing w a b

-- all bear k; nothing that is lent to the stages changed
pub record MarkedSince (w v : List ℕ) (s r : Collector) (k : ℕ) : Type 0 where
  pub kept : lent_area v ≡ lent_area w
  pub marks : (a b : ℕ) → s ≡ Len a → r ≡ Len b → Marks w v a b k
