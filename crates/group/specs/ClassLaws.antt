-- Laws of the tree of a class: it begins as the bare void tree, and grows by the aggregates and then by the grouping
-- pairs.
use Rattle.std.specs.Prelude.{◌≡◌, refl, List, [], ◌∷◌, ◌++◌, map, Bool, true, false, cond, ℕ, ◌+◌, ◌≤◌, length, Ok, Err}
use Rattle.std.proofs.Common.{ap, ap₂, arith}
use Rattle.spec_trees.specs.Limits.{tree_max, depth_max, aggregates_max}
use Rattle.spec_trees.specs.Lists.{filter, All, gather}
use Rattle.spec_trees.specs.ListLaws.{All-both, All-imply}
use Rattle.spec_trees.specs.Tree.{Tree, bare_void}
use Rattle.spec_trees.specs.Bytes.{tree_bytes}
use Rattle.spec_trees.specs.Within.{Allowed, AllowedA}
use Rattle.areas.specs.Area.{Is, Wrote, IsAt, span, Out, too_large}
use Rattle.spec_queries.specs.Query.{Pair}
use Rattle.spec_queries.specs.Rules.{OkPair, OkPairs}
use Rattle.queries.specs.Places.{pairs_bytes, array_trees}
use Rattle.queries.specs.TreesLaws.{array_before}
use Rattle.spec_stages.specs.Merge.{build}
use Rattle.queries.specs.declared.stage.GroupAt.{GroupAt}
use Rattle.spec_stages.specs.FitLaws.{ClassFits}
use Rattle.spec_stages.specs.Group.{aggregated, identified, sourced, Class, class_tree}
use Rattle.group.specs.Grow.{aggregate_value, identity_value, one_part, sourced_part, Always, Fits, Sound, FirstAt, ClassAt, Grown, PairsReady, PairsGrow}
use Rattle.group.specs.GrowLaws.{grown_void, grown_stop, grown_next, grown_made}
use Rattle.group.specs.PairLaws.{first_keep, class_keep}
use Rattle.group.specs.Class.{ClassReady, MakesClass}

-- ---- the parts of the tree, pair by pair
aggregate_parts : (c : Class) (ps : List Pair) → map (aggregated c) ps ≡ gather (one_part aggregate_value c) ps
unfolding gather aggregated
aggregate_parts c [] = refl
aggregate_parts c (p ∷ ps) = ap (λ l. aggregated c p ∷ l) (aggregate_parts c ps)

identity_parts : (c : Class) (ps : List Pair) → map (identified c) (filter (sourced c) ps) ≡ gather (sourced_part c) ps
unfolding gather filter identified
identity_parts c [] = refl
identity_parts c (p ∷ ps) = go (sourced c p) (identity_parts c ps)
  where
    go : (b : Bool) → map (identified c) (filter (sourced c) ps) ≡ gather (sourced_part c) ps
        → map (identified c) (cond b (p ∷ filter (sourced c) ps) (filter (sourced c) ps)) ≡ cond b (one_part identity_value c p) [] ++ gather (sourced_part c) ps
    go true q = ap (λ l. identified c p ∷ l) q
    go false q = q

class_parts : (ags gs : List Pair) (c : Class) → class_tree ags gs c ≡ build bare_void (gather (one_part aggregate_value c) ags ++ gather (sourced_part c) gs)
unfolding class_tree
class_parts ags gs c = ap (build bare_void) (ap₂ ◌++◌ (aggregate_parts c ags) (identity_parts c gs))

-- ---- what is asked of the pairs
fitting : {n : ℕ} (c : Class) (ps : List Pair) → OkPairs n ps → ClassFits ps c → All (Sound Fits c) ps
fitting c ps o f = All-both OkPair (Fits c) ps o.0 f

always : {n : ℕ} (c : Class) (ps : List Pair) → OkPairs n ps → All (Sound Always c) ps
always c ps o = All-imply OkPair (Sound Always c) (λ p h. (h, tt)) ps o.0

-- ---- the class, of whatever stands there
module _ {w : List ℕ} {x xe b s : ℕ} (t : Tree) (ts : List Tree) (ot : Allowed depth_max t) (ht : Is w x xe (tree_bytes t)) (os : AllowedA ts) (hs : Is w xe b (array_trees ts)) (l : b ≤ s) where
  class_there : ClassAt (span x b) s w (t, ts)
  class_there = record { allowed = (ot, os); members_are = array_before t ts ht hs; below = l }

  first_there : FirstAt (span x xe) s w (t, ts)
  first_there = record { allowed = ot; first_is = ht; below = omega (arith, l, hs.ends) }

module _ {w q : List ℕ} {at : GroupAt} {x xe b s : ℕ} (h : ClassReady w q at (span x xe) b s) {w1 : List ℕ} {z : ℕ} (l : length w1 ≡ length w)
    (k : Wrote w w1 s (s + tree_max) (tree_bytes bare_void) (Ok z)) where
  abbrev start : Grown w w1 s bare_void [] (Ok z)
  start = grown_void h.room k

  pub class_ready : PairsReady (ClassAt (span x b) s) Fits w1 q at.aggregates (span s z)
  class_ready =
      let a = h.first in
      let r = h.rest in
      let t = start.tree_is z refl in
      record {
        members = (a.value, r.value);
        there = class_keep (a.value, r.value) start.below (class_there a.value r.value a.allowed a.value_is r.allowed r.value_is h.below);
        asked = record {
          value = h.aggregates.value;
          allowed = fitting (a.value, r.value) h.aggregates.value h.aggregates.allowed h.fits;
          value_is = h.aggregates.value_is;
        };
        whole = record { tree = t.tree; ok = t.ok; tree_is = t.stands };
        within = t.within;
        room = omega (arith, h.room);
        small = omega (arith, h.small);
      }

  module _ {w2 : List ℕ} {r : Out} (j : PairsGrow (ClassAt (span x b) s) Fits (one_part aggregate_value) w1 w2 q at.aggregates (span s z) r) where
    -- the aggregates were built in, of whatever stands there
    aggregates_grown : (ags : List Pair) (t : Tree) (ts : List Tree) → OkPairs aggregates_max ags → IsAt q at.aggregates (pairs_bytes ags)
        → Allowed depth_max t → Is w x xe (tree_bytes t) → AllowedA ts → Is w xe b (array_trees ts) → ClassFits ags (t, ts)
        → Grown w w2 s bare_void (gather (one_part aggregate_value (t, ts)) ags) r
    aggregates_grown ags t ts oa ha ot ht os hs fs =
        let there = class_keep (t, ts) start.below (class_there t ts ot ht os hs h.below) in
        grown_next start (gather (one_part aggregate_value (t, ts)) ags) refl (λ y oy hy. j (t, ts) ags y there (fitting (t, ts) ags oa fs) ha oy hy)

    pub class_stop : r ≡ Err too_large → MakesClass w w2 q at (span x xe) b s (Err too_large)
    class_stop y ags gs t ts oa ha og hg ot ht os hs fs =
        grown_made (class_parts ags gs (t, ts)) (grown_stop (aggregates_grown ags t ts oa ha ot ht os hs fs) (gather (sourced_part (t, ts)) gs) y)

    module _ {i : ℕ} (y : r ≡ Ok i) where
      pub identities_ready : length w2 ≡ length w1 → PairsReady (FirstAt (span x xe) s) Always w2 q at.keys (span s i)
      identities_ready l2 =
          let f = h.first in
          let o = h.rest in
          let a = h.aggregates in
          let n = aggregates_grown a.value f.value o.value a.allowed a.value_is f.allowed f.value_is o.allowed o.value_is h.fits in
          let t = n.tree_is i y in
          record {
            members = (f.value, o.value);
            there = first_keep (f.value, o.value) n.below (first_there f.value o.value f.allowed f.value_is o.allowed o.value_is h.below);
            asked = record {
              value = h.grouping.value;
              allowed = always (f.value, o.value) h.grouping.value h.grouping.allowed;
              value_is = h.grouping.value_is;
            };
            whole = record { tree = t.tree; ok = t.ok; tree_is = t.stands };
            within = t.within;
            room = omega (arith, h.room);
            small = omega (arith, h.small);
          }

      pub class_made : {w3 : List ℕ} {o : Out} → PairsGrow (FirstAt (span x xe) s) Always sourced_part w2 w3 q at.keys (span s i) o → MakesClass w w3 q at (span x xe) b s o
      class_made {w3} {o} k2 ags gs t ts oa ha og hg ot ht os hs fs =
          let n = aggregates_grown ags t ts oa ha ot ht os hs fs in
          let there = first_keep (t, ts) n.below (first_there t ts ot ht os hs h.below) in
          grown_made (class_parts ags gs (t, ts))
          (grown_next n (gather (sourced_part (t, ts)) gs) y (λ z oz hz. k2 (t, ts) gs z there (always (t, ts) gs og) hg oz hz))
