-- Totals, computed from the definitions: partial sums past 64 bits, the ends of the range, roots that add nothing, a
-- total of 0; totals among other pairs; what decides between 9, 12 and 8.
use Rattle.std.specs.Prelude.{◌≡◌, refl, List, [], ◌∷◌, map, Bool, true, false, ℕ, ◌^◌, ◌+◌, ◌-◌, ℤ, pos, neg_ℤ, replicate}
use Rattle.std.proofs.Math.Option.{Option, none, some}
use Rattle.spec_trees.specs.Tree.{Tree, node, boolean, text, bare, bare_void}
use Rattle.spec_trees.specs.Examples.{int, #, ⟨◌⟩, ◌⇒◌⨾◌}
use Rattle.spec_queries.specs.Query.{Route, Pair, pair_of, total_pair, Stage, unwind, group, lookup}
use Rattle.spec_stages.specs.Totals.{total, fits_signed}
use Rattle.spec_stages.specs.Stages.{too_long, overflow, going, large, halted}
use Rattle.spec_stages.specs.Examples.{ran}

abbrev greatest : ℤ
greatest = pos (2 ^ 63 - 1)

abbrev least : ℤ
least = neg_ℤ (pos (2 ^ 63))

abbrev minus : ℕ → Tree
minus n = int (neg_ℤ (pos n))

-- ---- the total of what a path gives of trees, and whether it fits
abbrev totalled : Route → List Tree → Option ℤ × Bool
totalled p ts = (total p ts, fits_signed (total p ts))

abbrev sums : List ((Option ℤ × Bool) × (Option ℤ × Bool))
sums =
    -- a partial sum may leave 64 bits
    (totalled [] (int greatest ∷ # 1 ∷ minus 1 ∷ []), (some greatest, true))
    ∷ (totalled [] (int least ∷ minus 1 ∷ # 1 ∷ []), (some least, true))
    -- a total may not
    ∷ (totalled [] (int greatest ∷ # 1 ∷ []), (some (pos (2 ^ 63)), false))
    ∷ (totalled [] (int least ∷ minus 1 ∷ []), (some (neg_ℤ (pos (2 ^ 63 + 1))), false))
    -- without an integer root there is none; a total of 0 is one
    ∷ (totalled [] (bare_void ∷ node (text (65 ∷ [])) bare ∷ node (boolean true) bare ∷ []), (none, true))
    ∷ (totalled [] (# 5 ∷ bare_void ∷ minus 5 ∷ []), (some (pos 0), true))
    -- the trees under the source, over all members; roots deeper in them have no part
    ∷ (totalled (1 ∷ []) (⟨ 1 ⇒ # 2 ∷ # 3 ∷ [] ⨾ 2 ⇒ # 9 ∷ [] ⨾ bare ⟩ ∷ bare_void ∷ ⟨ 1 ⇒ # 4 ∷ [] ⨾ bare ⟩ ∷ []), (some (pos 9), true))
    ∷ (totalled (1 ∷ []) (⟨ 1 ⇒ ⟨ 1 ⇒ # 7 ∷ [] ⨾ bare ⟩ ∷ [] ⨾ bare ⟩ ∷ []), (none, true))
    ∷ []

pub sums_computed : map (λ r. r.0) sums ≡ map (λ r. r.1) sums
unfolding ran
sums_computed = refl

-- ---- in a group
-- edge lengths at 2, of a job at 1
abbrev edge : ℕ → ℤ → Tree
edge j z = ⟨ 1 ⇒ # j ∷ [] ⨾ 2 ⇒ int z ∷ [] ⨾ bare ⟩

abbrev by_job : List Pair → Stage
by_job ag = group ag (pair_of (1 ∷ []) (1 ∷ []) ∷ [])

abbrev added : Stage
added = by_job (total_pair (2 ∷ []) (2 ∷ []) ∷ [])

abbrev voids : ℕ → List Tree
voids n = replicate n bare_void

-- one tree, which unwound by 3 gives 40 trees of over 410 bytes; no total of it fits
abbrev wide : List Tree
wide = ⟨ 1 ⇒ # 7 ∷ [] ⨾ 2 ⇒ int greatest ∷ # 1 ∷ [] ⨾ 3 ⇒ voids 40 ⨾ 4 ⇒ voids 60 ⨾ bare ⟩ ∷ []

pub runs_computed :
    -- totals of two classes; a class without an integer root gets nothing
    (ran [] (added ∷ []) (edge 7 (pos 30) ∷ edge 8 (pos 5) ∷ edge 7 (neg_ℤ (pos 4)) ∷ ⟨ 1 ⇒ # 9 ∷ [] ⨾ 2 ⇒ bare_void ∷ [] ⨾ bare ⟩ ∷ [])
    ≡ going (edge 7 (pos 26) ∷ edge 8 (pos 5) ∷ ⟨ 1 ⇒ # 9 ∷ [] ⨾ bare ⟩ ∷ []))
    -- placed and merged in list order among other pairs
    × (ran [] (by_job (pair_of (2 ∷ []) (3 ∷ []) ∷ total_pair (2 ∷ []) (3 ∷ []) ∷ []) ∷ []) (edge 7 (pos 30) ∷ edge 7 (pos 5) ∷ [])
    ≡ going (⟨ 1 ⇒ # 7 ∷ [] ⨾ 3 ⇒ # 35 ∷ # 5 ∷ [] ⨾ bare ⟩ ∷ []))
    × (ran [] (by_job (total_pair (2 ∷ []) (3 ∷ []) ∷ pair_of (2 ∷ []) (3 ∷ []) ∷ []) ∷ []) (edge 7 (pos 30) ∷ edge 7 (pos 5) ∷ [])
    ≡ going (⟨ 1 ⇒ # 7 ∷ [] ⨾ 3 ⇒ # 30 ∷ # 5 ∷ [] ⨾ bare ⟩ ∷ []))
    -- 12, of the second class
    × (ran [] (added ∷ []) (edge 7 (pos 1) ∷ edge 8 greatest ∷ edge 8 (pos 1) ∷ []) ≡ halted overflow)
    -- 12 before the 8 of a class that stands before it, and of a stage behind
    × (ran [] (by_job (pair_of (3 ∷ []) (3 ∷ []) ∷ total_pair (2 ∷ []) (2 ∷ []) ∷ []) ∷ [])
    (⟨ 1 ⇒ # 7 ∷ [] ⨾ 3 ⇒ voids 200 ⨾ bare ⟩ ∷ ⟨ 1 ⇒ # 7 ∷ [] ⨾ 3 ⇒ voids 200 ⨾ bare ⟩ ∷ edge 8 greatest ∷ edge 8 (pos 1) ∷ [])
    ≡ halted overflow)
    × (ran (voids 341) (added ∷ lookup (5 ∷ []) (5 ∷ []) (6 ∷ []) ∷ []) (edge 7 (pos 1) ∷ edge 8 greatest ∷ edge 8 (pos 1) ∷ []) ≡ halted overflow)
    -- without it, 8
    × (ran (voids 341) (added ∷ lookup (5 ∷ []) (5 ∷ []) (6 ∷ []) ∷ []) (edge 7 (pos 1) ∷ []) ≡ large)
    -- 8 of the stretch before the group goes before its 12, and so does 9
    × (ran (voids 341) (lookup (5 ∷ []) (5 ∷ []) (6 ∷ []) ∷ added ∷ []) (edge 8 greatest ∷ edge 8 (pos 1) ∷ []) ≡ large)
    × (ran [] (unwind (3 ∷ []) ∷ added ∷ []) wide ≡ halted too_long)
    × (ran [] (added ∷ []) wide ≡ halted overflow)
unfolding ran
runs_computed = (refl, refl, refl, refl, refl, refl, refl, refl, refl, refl)
