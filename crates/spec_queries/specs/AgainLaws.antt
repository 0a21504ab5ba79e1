-- Laws of regrouping: what it is taken from, and that the regrouping of a regrouping is itself.
use Rattle.std.specs.Prelude.{◌≡◌, refl, List, [], ◌∷◌, ◌++◌, map, true, not, ◌&&◌, ℕ}
use Rattle.std.proofs.Common.{sym, ap, ap₂, ◌∙◌, arith}
use Rattle.std.proofs.lemmas.Simd.{map-map}
use Rattle.std.proofs.lemmas.List.{map-append}
use Rattle.std.proofs.Math.Option.{some}
use Rattle.spec_trees.specs.Options.{only}
use Rattle.spec_trees.specs.OptionLaws.{T_true, only_some, some_equal, both_true}
use Rattle.spec_trees.specs.Lists.{all, All}
use Rattle.std.proofs.lemmas.Bool.{not-true}
use Rattle.spec_queries.specs.Query.{Pair, Stage, match, unwind, project, group, lookup}
use Rattle.spec_queries.specs.Rules.{Plain}
use Rattle.spec_queries.specs.Again.{again, targets, distinct_labels, distinct_targets, no_totals, regroups, regrouped, regrouping}

-- ---- what it is taken from
pub regrouping_group : (ag gs : List Pair) (s : Stage) → regrouping (group ag gs ∷ []) ≡ some s → (regroups ag gs ≡ true) × (s ≡ regrouped ag gs)
unfolding regrouping
regrouping_group ag gs s h =
    let a = only_some (regroups ag gs) (some (regrouped ag gs)) h in
    (T_true (regroups ag gs) a.0, sym (some_equal (regrouped ag gs) s a.1))

-- then no aggregate is a total, and the destinations are single labels of which none stands twice
pub regroups_parts : (ag gs : List Pair) → regroups ag gs ≡ true → (no_totals ag ≡ true) × (distinct_targets ag gs ≡ true)
unfolding regroups
regroups_parts ag gs h = both_true (no_totals ag) (distinct_targets ag gs) h

pub none_totals : (ag : List Pair) → no_totals ag ≡ true → All Plain ag
unfolding no_totals all
none_totals [] h = tt
none_totals (p ∷ ag) h =
    let a = both_true (not p.is_total) (no_totals ag) h in
    (not-true p.is_total a.0, none_totals ag a.1)

-- only of one group alone
pub regrouping_alone : (q : List Stage) (s : Stage) → regrouping q ≡ some s → (ag gs : List Pair) × (q ≡ group ag gs ∷ [])
unfolding regrouping
regrouping_alone [] s h = let z : ◌≡◌ {A = ℕ} 0 1 = cc in absurd (omega arith)
regrouping_alone (match c ∷ ss) s h = let z : ◌≡◌ {A = ℕ} 0 1 = cc in absurd (omega arith)
regrouping_alone (unwind p ∷ ss) s h = let z : ◌≡◌ {A = ℕ} 0 1 = cc in absurd (omega arith)
regrouping_alone (project is ∷ ss) s h = let z : ◌≡◌ {A = ℕ} 0 1 = cc in absurd (omega arith)
regrouping_alone (lookup q r p ∷ ss) s h = let z : ◌≡◌ {A = ℕ} 0 1 = cc in absurd (omega arith)
regrouping_alone (group ag gs ∷ s' ∷ ss) s h = let z : ◌≡◌ {A = ℕ} 0 1 = cc in absurd (omega arith)
regrouping_alone (group ag gs ∷ []) s h = (ag, gs, refl)

-- ---- again and again
again_twice : (ps : List Pair) → map again (map again ps) ≡ map again ps
unfolding again
again_twice ps = map-map again again ps

again_targets : (ps : List Pair) → targets (map again ps) ≡ targets ps
unfolding again
again_targets ps = map-map (λ p. p.target) again ps

distinct_again : (ag gs : List Pair) → distinct_targets (map again ag) (map again gs) ≡ distinct_targets ag gs
unfolding distinct_targets
distinct_again ag gs = ap distinct_labels (ap targets (sym (map-append again ag gs)) ∙ again_targets (ag ++ gs))

no_totals_again : (ps : List Pair) → no_totals (map again ps) ≡ true
unfolding no_totals all again
no_totals_again [] = refl
no_totals_again (p ∷ ps) = no_totals_again ps

regroups_again : (ag gs : List Pair) → regroups ag gs ≡ true → regroups (map again ag) (map again gs) ≡ true
unfolding regroups
regroups_again ag gs h = ap₂ ◌&&◌ (no_totals_again ag) (distinct_again ag gs ∙ (regroups_parts ag gs h).1)

pub regrouping_again : (ag gs : List Pair) → regroups ag gs ≡ true → regrouping (regrouped ag gs ∷ []) ≡ some (regrouped ag gs)
unfolding regrouping only
regrouping_again ag gs h = rw (regroups_again ag gs h) (ap₂ (λ a g. some (group a g)) (again_twice ag) (again_twice gs))
