-- Destinations that are tested one after another, each against those behind it, are single and distinct just if the
-- definition says so.
use Rattle.std.specs.Prelude.{◌≡◌, refl, List, [], ◌∷◌, ◌++◌, Bool, true, false, not, ◌&&◌, ℕ}
use Rattle.std.proofs.Common.{sym, ap, ap₂, ◌∙◌, append-nil}
use Rattle.std.proofs.lemmas.List.{map-append}
use Rattle.spec_trees.specs.Lists.{all}
use Rattle.spec_trees.specs.FilterLaws.{all_append}
use Rattle.spec_queries.specs.Query.{Path, Pair}
use Rattle.spec_queries.specs.Again.{targets, leads, distinct_labels, distinct_targets}
use Rattle.trays.specs.TrayGroup.{none_leads, alone, apart}

pub leads_both : (k : ℕ) (ps qs : List Pair) → none_leads k (ps ++ qs) ≡ none_leads k ps && none_leads k qs
unfolding none_leads
leads_both k ps qs = ap (all (λ p. not (leads k p))) (map-append (λ p. p.target) ps qs) ∙ all_append (λ p. not (leads k p)) (targets ps) (targets qs)

-- ---- one destination and those behind it
distinct_first : (p : Path) (ps : List Pair) → distinct_labels (p ∷ targets ps) ≡ alone p ps && distinct_labels (targets ps)
unfolding distinct_labels alone none_leads
distinct_first [] ps = refl
distinct_first (k ∷ []) ps = refl
distinct_first (k ∷ j ∷ p) ps = refl

and_assoc : (a b c : Bool) → a && (b && c) ≡ (a && b) && c
and_assoc true b c = refl
and_assoc false b c = refl

distinct_both : (ps qs : List Pair) → distinct_labels (targets (ps ++ qs)) ≡ apart ps qs && distinct_labels (targets qs)
unfolding apart
distinct_both [] qs = refl
distinct_both (p ∷ ps) qs =
    distinct_first p.target (ps ++ qs) ∙ ap (λ b. alone p.target (ps ++ qs) && b) (distinct_both ps qs)
    ∙ and_assoc (alone p.target (ps ++ qs)) (apart ps qs) (distinct_labels (targets qs))

distinct_last : (ps : List Pair) → distinct_labels (targets ps) ≡ apart ps []
unfolding apart distinct_labels
distinct_last [] = refl
distinct_last (p ∷ ps) = distinct_first p.target ps ∙ ap₂ (λ l b. alone p.target l && b) (sym (append-nil ps)) (distinct_last ps)

-- ---- a group's aggregates against its key, and the key by itself
pub distinct_parts : (ag gs : List Pair) → distinct_targets ag gs ≡ apart ag gs && apart gs []
unfolding distinct_targets
distinct_parts ag gs = distinct_both ag gs ∙ ap (λ b. apart ag gs && b) (distinct_last gs)
