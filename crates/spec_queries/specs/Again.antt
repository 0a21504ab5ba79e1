-- The group that groups tray results again: each destination is now also the source.
use Rattle.std.specs.Prelude.{List, [], ◌∷◌, ◌++◌, map, Bool, true, false, not, ◌&&◌, ℕ, eqb}
use Rattle.std.proofs.Math.Option.{Option, none, some}
use Rattle.spec_trees.specs.Options.{only}
use Rattle.spec_trees.specs.Lists.{all}
use Rattle.spec_queries.specs.Query.{Path, Pair, pair_of, Stage, match, unwind, project, group, lookup}

-- the target, a path of labels, is here applied as a route. No total is grouped again
unfoldable pub again : Pair → Pair
again p = pair_of p.target p.target

abbrev pub targets : List Pair → List Path
targets ps = map (λ p. p.target) ps

-- whether the outermost label of p is k
unfoldable pub leads : ℕ → Path → Bool
leads k [] = false
leads k (j ∷ p) = eqb k j

-- all are single labels, and none stands twice
unfoldable pub distinct_labels : List Path → Bool
distinct_labels [] = true
distinct_labels ([] ∷ ps) = false
distinct_labels ((k ∷ []) ∷ ps) = all (λ p. not (leads k p)) ps && distinct_labels ps
distinct_labels ((k ∷ j ∷ p) ∷ ps) = false

-- so are the destinations of a group, of its aggregates and its grouping together
unfoldable pub distinct_targets : List Pair → List Pair → Bool
distinct_targets ag gs = distinct_labels (targets (ag ++ gs))

-- no aggregate is a total
unfoldable pub no_totals : List Pair → Bool
no_totals ag = all (λ p. not p.is_total) ag

-- a group whose tray results can be grouped again
unfoldable pub regroups : List Pair → List Pair → Bool
regroups ag gs = no_totals ag && distinct_targets ag gs

-- the group over tray results joined
abbrev pub regrouped : List Pair → List Pair → Stage
regrouped ag gs = group (map again ag) (map again gs)

-- that of a query which is one such group alone
unfoldable pub regrouping : List Stage → Option Stage
regrouping [] = none
regrouping (match c ∷ ss) = none
regrouping (unwind p ∷ ss) = none
regrouping (project is ∷ ss) = none
regrouping (lookup q r p ∷ ss) = none
regrouping (group ag gs ∷ []) = only (regroups ag gs) (some (regrouped ag gs))
regrouping (group ag gs ∷ s ∷ ss) = none
