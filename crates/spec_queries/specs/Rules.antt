-- The queries that the rules allow: nesting, counts, paths that must not be empty, divisors.
use Rattle.std.specs.Prelude.{◌≡◌, List, false, ℕ, suc, ◌≤◌, max, length, T}
use Rattle.spec_trees.specs.Lists.{All}
use Rattle.spec_trees.specs.Limits.{query_max, nest_max, stages_max, items_max, members_max, aggregates_max, grouping_max}
use Rattle.spec_trees.specs.Within.{AllowedA}
use Rattle.spec_queries.specs.Query.{Path, Route, Criterion, always, exists, equal, same, negated, both, either, Data, literal, path, listed, test, choice, reduced, Datas, ended, more, data_list, Item, keep, place, Pair, Stage, match, unwind, project, group, lookup, is_path, is_divisor}
use Rattle.spec_queries.specs.Bytes.{query_bytes}

-- ---- paths
abbrev pub OkP : Path → Type 0
OkP p = T (is_path p)

abbrev pub OkRoute : Route → Type 0
OkRoute p = OkP p

-- not empty
abbrev pub OkP⁺ : Path → Type 0
OkP⁺ p = OkP p × (1 ≤ length p)

-- ---- criteria: each counts 1, the outermost included
unfoldable pub nest_c : Criterion → ℕ
nest_c always = 1
nest_c (exists p) = 1
nest_c (equal p a) = 1
nest_c (same p q) = 1
nest_c (negated c) = suc (nest_c c)
nest_c (both c d) = suc (max (nest_c c) (nest_c d))
nest_c (either c d) = suc (max (nest_c c) (nest_c d))

abbrev pub OkC : Criterion → Type 0
OkC always = Unit {0}
OkC (exists p) = OkRoute p
OkC (equal p a) = OkRoute p × AllowedA a
OkC (same p q) = OkRoute p × OkRoute q
OkC (negated c) = OkC c
OkC (both c d) = OkC c × OkC d
OkC (either c d) = OkC c × OkC d

-- ---- data: each criterion or data field on the way counts 1
unfoldable mutual
  pub nest_d : Data → ℕ
  nest_d (literal a) = 1
  nest_d (path p) = 1
  nest_d (listed ds) = suc (nest_ds ds)
  nest_d (test c) = suc (nest_c c)
  nest_d (choice c d e) = suc (max (nest_c c) (max (nest_d d) (nest_d e)))
  nest_d (reduced p n) = 1

  pub nest_ds : Datas → ℕ
  nest_ds ended = 0
  nest_ds (more d ds) = max (nest_d d) (nest_ds ds)

abbrev mutual
  pub OkD : Data → Type 0
  OkD (literal a) = AllowedA a
  OkD (path p) = OkRoute p
  OkD (listed ds) = OkDs ds × (1 ≤ length (data_list ds)) × (length (data_list ds) ≤ members_max)
  OkD (test c) = OkC c
  OkD (choice c d e) = OkC c × OkD d × OkD e
  OkD (reduced p n) = OkRoute p × T (is_divisor n)

  pub OkDs : Datas → Type 0
  OkDs ended = Unit {0}
  OkDs (more d ds) = OkD d × OkDs ds

-- where nesting may go d deep
abbrev pub NestedC : ℕ → Criterion → Type 0
NestedC d c = OkC c × (nest_c c ≤ d)

abbrev pub NestedD : ℕ → Data → Type 0
NestedD d x = OkD x × (nest_d x ≤ d)

-- ---- items, pairs, stages
abbrev pub OkI : Item → Type 0
OkI (keep p) = OkP p
OkI (place d p) = NestedD nest_max d × OkP⁺ p

abbrev pub OkPair : Pair → Type 0
OkPair p = OkRoute p.source × OkP⁺ p.target

abbrev pub OkPairs : ℕ → List Pair → Type 0
OkPairs n ps = All OkPair ps × (length ps ≤ n)

-- no total
abbrev pub Plain : Pair → Type 0
Plain p = p.is_total ≡ false

abbrev pub OkS : Stage → Type 0
OkS (match c) = NestedC nest_max c
OkS (unwind p) = OkP p
OkS (project is) = All OkI is × (1 ≤ length is) × (length is ≤ items_max)
OkS (group ag gs) = OkPairs aggregates_max ag × OkPairs grouping_max gs × All Plain gs
OkS (lookup q r p) = OkRoute q × OkRoute r × OkP⁺ p

-- a query that these rules allow
pub record OkQ (ss : List Stage) : Type 0 where
  pub stages : All OkS ss
  pub count : length ss ≤ stages_max
  pub size : length (query_bytes ss) ≤ query_max
