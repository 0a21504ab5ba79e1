-- The positions that the result trees of document 01's examples bear, computed from the definitions.
use Rattle.std.specs.Prelude.{◌≡◌, refl, List, [], ◌∷◌, map, ℕ}
use Rattle.spec_trees.specs.Tree.{Tree, bare, bare_void}
use Rattle.spec_trees.specs.Examples.{#, ⟨◌⟩, ◌⇒◌⨾◌}
use Rattle.spec_queries.specs.Query.{exists, pair_of, Stage, match, unwind, group, lookup}
use Rattle.spec_stages.specs.Positions.{marked, numbered, borne_having, borne_classes, borne_grouped, sole, carry, carried, result_positions}
use Rattle.spec_stages.specs.Examples.{ran}

-- under this name all definitions compute
unfoldable abbrev pub stems : List Tree → List Stage → List Tree → List ℕ
unfolding ran marked numbered borne_having borne_classes borne_grouped sole carry carried result_positions
stems joined ss ts = result_positions joined ss ts

-- the input of P6
abbrev rows : List Tree
rows = ⟨ 1 ⇒ # 1 ∷ [] ⨾ 2 ⇒ # 10 ∷ [] ⨾ bare ⟩ ∷ ⟨ 2 ⇒ # 11 ∷ [] ⨾ bare ⟩ ∷ ⟨ 1 ⇒ # 1 ∷ [] ⨾ 2 ⇒ # 12 ∷ [] ⨾ bare ⟩ ∷ []

abbrev by_one : Stage
by_one = group (pair_of (2 ∷ []) (2 ∷ []) ∷ []) (pair_of (1 ∷ []) (1 ∷ []) ∷ [])

abbrev pub table : List (List ℕ × List ℕ)
table =
    -- no stage: every tree bears its own, from 1
    (stems [] [] rows, 1 ∷ 2 ∷ 3 ∷ [])
    -- exists 1 holds of the first and the third
    ∷ (stems [] (match (exists (1 ∷ [])) ∷ []) rows, 1 ∷ 3 ∷ [])
    -- P2, behind a tree that gives none
    ∷ (stems [] (unwind (1 ∷ []) ∷ []) (bare_void ∷ ⟨ 1 ⇒ # 5 ∷ # 6 ∷ [] ⨾ bare ⟩ ∷ ⟨ 1 ⇒ # 7 ∷ [] ⨾ bare ⟩ ∷ []), 2 ∷ 2 ∷ 3 ∷ [])
    -- P6: the class without label 1 comes first, and is the second tree
    ∷ (stems [] (by_one ∷ []) rows, 2 ∷ 1 ∷ [])
    -- grouped again, all in one class: the first member's position, which is not the smallest
    ∷ (stems [] (by_one ∷ group [] [] ∷ []) rows, 2 ∷ [])
    -- P7
    ∷ (
      stems (⟨ 1 ⇒ # 1 ∷ [] ⨾ 4 ⇒ # 8 ∷ [] ⨾ bare ⟩ ∷ ⟨ 4 ⇒ # 9 ∷ [] ⨾ bare ⟩ ∷ []) (lookup (1 ∷ []) (1 ∷ []) (3 ∷ []) ∷ [])
          (⟨ 1 ⇒ # 1 ∷ [] ⨾ bare ⟩ ∷ ⟨ 2 ⇒ # 2 ∷ [] ⨾ bare ⟩ ∷ []),
      1 ∷ 2 ∷ [],
    )
    ∷ []

pub positions_given : map (λ r. r.0) table ≡ map (λ r. r.1) table
unfolding stems
positions_given = refl
