-- Queries that are accepted and some that are refused, and groups that can be regrouped and some that can't, computed
-- from the definitions.
use Rattle.std.specs.Prelude.{◌≡◌, refl, List, [], ◌∷◌, map, Bool, true, false, ℕ, zero, suc, replicate}
use Rattle.std.proofs.Math.Option.{Option, none, some}
use Rattle.spec_trees.specs.Options.{some?}
use Rattle.spec_trees.specs.Examples.{#, decoded}
use Rattle.spec_queries.specs.Query.{Path, Criterion, always, exists, equal, same, negated, both, either, Data, literal, path, listed, test, choice, reduced, ended, more, datas, keep, place, pair_of, total_pair, Stage, match, unwind, project, group, lookup, is_path, is_divisor}
use Rattle.spec_queries.specs.Bytes.{path_f, criterion_f, divisor_f, data_f, item_f, pair_f, pairs_f, stage_f, query_f, query_bytes}
use Rattle.spec_queries.specs.Decode.{path_r, path_r⁺, criterion_r, divisor_r, data_r, item_r, pair_r, aggregate_r, pairs_r, stage_r, query_r, decode_query, read_query}
use Rattle.spec_queries.specs.Again.{again, leads, distinct_labels, distinct_targets, no_totals, regroups, regrouping}

-- under this name all definitions of the crate and of those below compute
unfoldable abbrev pub admitted : List ℕ → Option (List Stage)
unfolding decoded path_f criterion_f divisor_f data_f item_f pair_f pairs_f stage_f query_f query_bytes is_path path_r path_r⁺ criterion_r is_divisor divisor_r data_r item_r pair_r aggregate_r pairs_r stage_r query_r decode_query read_query again leads distinct_labels distinct_targets no_totals regroups regrouping
admitted b = decode_query b

abbrev nots : ℕ → Criterion
nots zero = always
nots (suc n) = negated (nots n)

abbrev lists : ℕ → Data
lists zero = path []
lists (suc n) = listed (more (lists n) ended)

abbrev placing : Data → List Stage
placing d = project (place d (1 ∷ []) ∷ []) ∷ []

abbrev grouping : ℕ → ℕ → List Stage
grouping m n = group (replicate m (pair_of [] (1 ∷ []))) (replicate n (pair_of [] (1 ∷ []))) ∷ []

-- stages, and whether the rules allow them
abbrev queries : List (List Stage × Bool)
queries =
    ([], true)
    -- stages: 8, not 9
    ∷ (replicate 8 (unwind []), true)
    ∷ (replicate 9 (unwind []), false)
    -- paths: 8 labels, not 9, none zero
    ∷ (unwind (replicate 8 255) ∷ [], true)
    ∷ (unwind (replicate 9 255) ∷ [], false)
    ∷ (unwind (1 ∷ 0 ∷ []) ∷ [], false)
    -- nesting: 8, not 9, the leaf and the outermost counted
    ∷ (match (nots 7) ∷ [], true)
    ∷ (match (nots 8) ∷ [], false)
    ∷ (placing (lists 7), true)
    ∷ (placing (lists 8), false)
    ∷ (placing (test (nots 6)), true)
    ∷ (placing (test (nots 7)), false)
    -- counts: items 1 to 16, members 1 to 8, pairs 0 to 8 and 0 to 4
    ∷ (project [] ∷ [], false)
    ∷ (project (replicate 16 (keep [])) ∷ [], true)
    ∷ (project (replicate 17 (keep [])) ∷ [], false)
    ∷ (placing (listed ended), false)
    ∷ (placing (listed (datas (replicate 8 (path [])))), true)
    ∷ (placing (listed (datas (replicate 9 (path [])))), false)
    ∷ (grouping 0 0, true)
    ∷ (grouping 8 4, true)
    ∷ (grouping 9 4, false)
    ∷ (grouping 8 5, false)
    -- a total counts to the aggregates, and does not stand among the grouping
    ∷ (group (replicate 4 (total_pair [] (1 ∷ []))) [] ∷ [], true)
    ∷ (group (total_pair [] (1 ∷ []) ∷ replicate 7 (pair_of [] (1 ∷ []))) [] ∷ [], true)
    ∷ (group (total_pair [] (1 ∷ []) ∷ replicate 8 (pair_of [] (1 ∷ []))) [] ∷ [], false)
    ∷ (group [] (total_pair [] (1 ∷ []) ∷ []) ∷ [], false)
    ∷ (group (total_pair (1 ∷ []) [] ∷ []) [] ∷ [], false)
    -- destinations are not empty
    ∷ (project (place (path []) [] ∷ []) ∷ [], false)
    ∷ (group (pair_of (1 ∷ []) [] ∷ []) [] ∷ [], false)
    ∷ (lookup [] [] [] ∷ [], false)
    ∷ (lookup [] [] (1 ∷ []) ∷ [], true)
    -- divisors: 1 to 10,000
    ∷ (placing (reduced [] 0), false)
    ∷ (placing (reduced [] 1), true)
    ∷ (placing (reduced [] 10000), true)
    ∷ (placing (reduced [] 10001), false)
    -- every kind of criterion and data
    ∷ (
      match (both (either (exists (1 ∷ [])) (equal (1 ∷ []) (# 5 ∷ []))) (same [] (2 ∷ [])))
          ∷ placing (listed (more (literal (# 5 ∷ [])) (more (choice always (path (1 ∷ [])) (test always)) (more (reduced (1 ∷ []) 10) ended)))),
      true,
    )
    ∷ []

queries_are : map (λ r. some? (admitted (query_bytes r.0))) queries ≡ map (λ r. r.1) queries
unfolding admitted
queries_are = refl

-- destinations, and whether they are single labels of which none stands twice: none at all will do
abbrev destinations : List (List Path × Bool)
destinations =
    ([], true)
    ∷ ((3 ∷ []) ∷ (1 ∷ []) ∷ (2 ∷ []) ∷ [], true)
    ∷ ((1 ∷ []) ∷ (2 ∷ 3 ∷ []) ∷ [], false)
    ∷ ((1 ∷ []) ∷ [] ∷ [], false)
    ∷ ((1 ∷ []) ∷ (2 ∷ []) ∷ (1 ∷ []) ∷ [], false)
    ∷ []

destinations_are : map (λ r. distinct_labels r.0) destinations ≡ map (λ r. r.1) destinations
unfolding admitted
destinations_are = refl

-- queries, and their regrouping: each destination is now also the source; a label in both lists, or a stage more, and
-- there is none
abbrev regroupings : List (List Stage × Option Stage)
regroupings =
    (group [] [] ∷ [], some (group [] []))
    ∷ (
      group (pair_of (2 ∷ 3 ∷ []) (5 ∷ []) ∷ []) (pair_of (1 ∷ []) (4 ∷ []) ∷ []) ∷ [],
      some (group (pair_of (5 ∷ []) (5 ∷ []) ∷ []) (pair_of (4 ∷ []) (4 ∷ []) ∷ [])),
    )
    ∷ (group (pair_of (2 ∷ []) (4 ∷ []) ∷ []) (pair_of (1 ∷ []) (4 ∷ []) ∷ []) ∷ [], none)
    -- no total is grouped again
    ∷ (group (total_pair (2 ∷ []) (5 ∷ []) ∷ []) (pair_of (1 ∷ []) (4 ∷ []) ∷ []) ∷ [], none)
    ∷ (group [] [] ∷ group [] [] ∷ [], none)
    ∷ (match always ∷ [], none)
    ∷ []

regroupings_are : map (λ r. regrouping r.0) regroupings ≡ map (λ r. r.1) regroupings
unfolding admitted
regroupings_are = refl
