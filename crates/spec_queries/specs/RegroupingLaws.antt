-- The regrouping of an allowed group is an allowed query, and its pairs are short.
use Rattle.std.specs.Prelude.{◌≡◌, refl, List, [], ◌∷◌, ◌++◌, map, true, not, ℕ, ◌+◌, ◌*◌, ◌≤◌, length}
use Rattle.std.proofs.Common.{ap, ◌∙◌, arith, length-append}
use Rattle.std.proofs.lemmas.List.{map-append, length-map}
use Rattle.spec_trees.specs.Limits.{aggregates_max, grouping_max}
use Rattle.spec_trees.specs.Bytes.{field_bytes, bytes}
use Rattle.spec_trees.specs.Lists.{all, All}
use Rattle.spec_trees.specs.OptionLaws.{both_true}
use Rattle.spec_trees.proofs.FieldLaws.{bytes_append, length_bytes}
use Rattle.spec_queries.specs.Query.{Path, Pair}
use Rattle.spec_queries.specs.Bytes.{path_f, pair_f, pairs_f, stage_f, query_f, query_bytes}
use Rattle.spec_queries.specs.Rules.{OkPair, OkPairs, Plain, OkQ}
use Rattle.spec_queries.specs.Again.{again, targets, leads, distinct_labels, distinct_targets, regrouped}

-- ---- the rules allow it
pairs_again : (ps : List Pair) → All OkPair ps → All OkPair (map again ps)
unfolding again
pairs_again [] o = tt
pairs_again (p ∷ ps) o = ((o.0.1.0, o.0.1), pairs_again ps o.1)

pub ok_again : (n : ℕ) (ps : List Pair) → OkPairs n ps → OkPairs n (map again ps)
ok_again n ps o = (pairs_again ps o.0, omega (arith, o.1, length-map ps again))

pub plain_again : (ps : List Pair) → All Plain (map again ps)
unfolding again
plain_again [] = tt
plain_again (p ∷ ps) = (refl, plain_again ps)

-- ---- its size
-- the most bytes that a pair takes whose two paths are single labels
abbrev pub again_max : ℕ
again_max = 16

abbrev again_bytes : List Pair → List ℕ
again_bytes ps = bytes (map pair_f (map again ps))

no_bytes : length (bytes []) ≡ 0
unfolding bytes
no_bytes = refl

one_short : (p : Pair) (k : ℕ) → p.target ≡ k ∷ [] → length (pair_f (again p)).1 ≤ 13
unfolding again pair_f path_f
one_short p k e = rw e (omega (arith, length_bytes (32, k ∷ []) ((32, k ∷ []) ∷ []), length_bytes (32, k ∷ []) [], no_bytes))

again_short : (ps : List Pair) → distinct_labels (targets ps) ≡ true → length (again_bytes ps) ≤ again_max * length ps
unfolding bytes distinct_labels
again_short [] h = omega arith
again_short (p ∷ ps) h = go (again_short ps) p.target refl h
  where
    go : (distinct_labels (targets ps) ≡ true → length (again_bytes ps) ≤ again_max * length ps) → (d : Path) → p.target ≡ d
        → distinct_labels (d ∷ targets ps) ≡ true → length (again_bytes (p ∷ ps)) ≤ again_max * length (p ∷ ps)
    go rest [] e z = let y : ◌≡◌ {A = ℕ} 0 1 = cc in absurd (omega arith)
    go rest (k ∷ j ∷ d) e z = let y : ◌≡◌ {A = ℕ} 0 1 = cc in absurd (omega arith)
    go rest (k ∷ []) e z =
        let short = rest (both_true (all (λ q. not (leads k q)) (targets ps)) (distinct_labels (targets ps)) z).1 in
        omega (arith, length_bytes (pair_f (again p)) (map pair_f (map again ps)), one_short p k e)

-- those of the aggregates and of the key together
pub group_short : (ag gs : List Pair) → distinct_targets ag gs ≡ true → length (again_bytes ag) + length (again_bytes gs) ≤ again_max * (length ag + length gs)
unfolding distinct_targets
group_short ag gs h =
    let both : again_bytes (ag ++ gs) ≡ again_bytes ag ++ again_bytes gs =
    ap bytes (ap (map pair_f) (map-append again ag gs) ∙ map-append pair_f (map again ag) (map again gs)) ∙ bytes_append (map pair_f (map again ag)) (map pair_f (map again gs)) in
    omega (arith, again_short (ag ++ gs) h, ap length both, length-append (again_bytes ag) (again_bytes gs), length-append ag gs)

-- ---- as a query
length_regrouping : (ag gs : List Pair) → length (query_bytes (regrouped ag gs ∷ [])) ≡ 12 + (length (again_bytes ag) + length (again_bytes gs))
unfolding query_bytes query_f field_bytes stage_f pairs_f
length_regrouping ag gs =
    let a = pairs_f 50 (map again ag) in
    let g = pairs_f 51 (map again gs) in
    omega (arith, length_bytes (20, bytes (a ∷ g ∷ [])) [], length_bytes a (g ∷ []), length_bytes g [], no_bytes)

pub regrouping_ok : (ag gs : List Pair) → distinct_targets ag gs ≡ true → OkPairs aggregates_max ag → OkPairs grouping_max gs → OkQ (regrouped ag gs ∷ [])
regrouping_ok ag gs h oa og = record {
  stages = ((ok_again aggregates_max ag oa, ok_again grouping_max gs og, plain_again gs), tt);
  count = omega arith;
  size = omega (arith, length_regrouping ag gs, group_short ag gs h, oa.1, og.1);
}
