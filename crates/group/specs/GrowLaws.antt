-- Laws of a tree that grows: one part, parts behind others, and the pairs of a list, one behind another.
use Rattle.std.proofs.Math.Path.{◌≡◌, refl, ap, subst}
use Rattle.std.proofs.Common.{sym, ◌∙◌, leb→le}
use mathlib.Core.List.{List, [], ◌∷◌, ◌++◌}
use Rattle.std.specs.Prelude.{Bool, true, false, cond, ◌&&◌, ℕ, ◌+◌, ◌*◌, ◌≤◌, length, take, leb, Err, Ok as At}
use Rattle.std.proofs.Math.Option.{Option, none}
use native.Mathlib.Omega.{arith}
use Rattle.spec_trees.specs.Limits.{tree_max, depth_max}
use Rattle.spec_trees.specs.Options.{◌>>=◌}
use Rattle.spec_trees.specs.Lists.{All, gather}
use Rattle.spec_trees.specs.Tree.{Tree, bare_void}
use Rattle.spec_trees.specs.Size.{size, depth, fits}
use Rattle.spec_trees.specs.Bytes.{tree_bytes}
use Rattle.spec_trees.specs.Within.{Ok}
use Rattle.areas.specs.Area.{Is, Wrote, field_end, span, Out, too_large}
use Rattle.areas.specs.AreaLaws.{drop_more, wrote_keep, written}
use Rattle.spec_trees.specs.OptionLaws.{true_T, T_and}
use Rattle.spec_queries.specs.Query.{Pair}
use Rattle.spec_queries.specs.Bytes.{pair_f}
use Rattle.queries.specs.PartLaws.{list_parts, list_none, ok_list_first, ok_list_rest}
use Rattle.spec_stages.specs.Merge.{merge, build}
use Rattle.spec_stages.proofs.KeepLaws.{merge_ok}
use Rattle.spec_stages.specs.Group.{Class}
use Rattle.build.specs.BuildLaws.{added_next, added_large}
use Rattle.build.specs.Made.{Made, AddedAt}
use Rattle.group.specs.Grow.{Sound, Grown, PairReady, PairGrows, PairsReady, PairsGrow}

-- ---- building in parts behind others is building in all
build_join : (z : Tree) (xs ys : List Tree) → build z (xs ++ ys) ≡ (build z xs >>= λ y. build y ys)
unfolding build ◌>>=◌
build_join z [] ys = refl
build_join z (x ∷ xs) ys = go (fits x && fits (merge z x)) (build (merge z x) (xs ++ ys)) (build (merge z x) xs) (build_join (merge z x) xs ys)
  where
    go : (b : Bool) (m n : Option Tree) → m ≡ (n >>= λ y. build y ys) → cond b m none ≡ (cond b n none >>= λ y. build y ys)
    go true m n q = q
    go false m n q = refl

-- a tree that fits has room
fits_size : (t : Tree) → fits t ≡ true → size t ≤ tree_max
unfolding fits
fits_size t e = leb→le (size t) tree_max (T_and (leb (size t) tree_max) (leb (depth t) depth_max) (true_T e)).0

both_last : (a b : Bool) → (a && b) ≡ true → b ≡ true
both_last true b e = e
both_last false b e = let y : ◌≡◌ {A = ℕ} 0 1 = cc in absurd (omega arith)

-- ---- no part, one part, the bare void tree that was written
module _ {w : List ℕ} {s : ℕ} where
  pub grown_none : {se : ℕ} (z : Tree) → Ok z → Is w s se (tree_bytes z) → se ≤ s + tree_max → Grown w w s z [] (At se)
  unfolding build
  grown_none {se} z o h l = record {
    tree_is = λ e q. let y : se ≡ e = cc in
        record { tree = z; ok = o; same = refl; stands = subst (λ n. Is w s n (tree_bytes z)) y h; within = omega arith };
    large = λ q. let y : ◌≡◌ {A = ℕ} 0 1 = cc in absurd (omega arith);
    below = refl;
    beyond = refl;
  }

  pub grown_one : {u : List ℕ} {r : Out} (z y : Tree) → Ok z → Ok y → AddedAt w u s z y r → Grown w u s z (y ∷ []) r
  unfolding build
  grown_one z y oz oy h = record {
    tree_is = λ e q. record {
      tree = merge z y;
      ok = merge_ok z y oz oy;
      same = added_next h [] q;
      stands = h.merge_is e q;
      within = omega (arith, h.ends e q, fits_size (merge z y) (both_last (fits y) (fits (merge z y)) (h.fit e q)));
    };
    large = λ q. added_large h [] q;
    below = h.below;
    beyond = h.beyond (s + 3 * tree_max) (omega arith);
  }

  pub grown_void : {u : List ℕ} {e : ℕ} → s + 3 * tree_max ≤ length w → Wrote w u s (s + tree_max) (tree_bytes bare_void) (At e) → Grown w u s bare_void [] (At e)
  unfolding build
  grown_void {u} {e} l h =
      let f = h.fits e refl in
      record {
        tree_is = λ n q. let y : e ≡ n = cc in
            record { tree = bare_void; ok = (tt, tt); same = refl; stands = subst (λ n. Is u s n (tree_bytes bare_void)) y (written h (omega arith) refl); within = omega (arith, f.room) };
        large = λ q. let y : ◌≡◌ {A = ℕ} 0 1 = cc in absurd (omega arith);
        below = wrote_keep h (omega arith);
        beyond = drop_more w u e (s + 3 * tree_max) (omega (arith, f.room)) f.beyond;
      }

-- ---- parts behind others
module _ {w u : List ℕ} {s : ℕ} {z : Tree} {xs : List Tree} {r : Out} (h : Grown w u s z xs r) (ys : List Tree) where
  pub grown_stop : r ≡ Err too_large → Grown w u s z (xs ++ ys) (Err too_large)
  unfolding ◌>>=◌
  grown_stop q = record {
    tree_is = λ e i. let y : ◌≡◌ {A = ℕ} 0 1 = cc in absurd (omega arith);
    large = λ i. build_join z xs ys ∙ ap (λ o. o >>= λ y. build y ys) (h.large q);
    below = h.below;
    beyond = h.beyond;
  }

  pub grown_next : {x : List ℕ} {e : ℕ} {o : Out} → r ≡ At e → ((y : Tree) → Ok y → Is u s e (tree_bytes y) → Grown u x s y ys o) → Grown w x s z (xs ++ ys) o
  unfolding ◌>>=◌
  grown_next {x} {e} {o} q k =
      let a = h.tree_is e q in
      let b = k a.tree a.ok a.stands in
      let same : build z (xs ++ ys) ≡ build a.tree ys = build_join z xs ys ∙ ap (λ o. o >>= λ y. build y ys) a.same in
      record {
        tree_is = λ n i. let c = b.tree_is n i in
            record { tree = c.tree; ok = c.ok; same = same ∙ c.same; stands = c.stands; within = c.within };
        large = λ i. same ∙ b.large i;
        below = b.below ∙ h.below;
        beyond = b.beyond ∙ h.beyond;
      }

-- what was made
pub grown_made : {w u : List ℕ} {s : ℕ} {z : Tree} {parts : List Tree} {r : Out} {x : Option Tree} → x ≡ build z parts → Grown w u s z parts r → Made w u s x r
grown_made y h = record {
  tree_is = λ e q. let a = h.tree_is e q in record { tree = a.tree; same = y ∙ a.same; stands = a.stands };
  large = λ q. y ∙ h.large q;
  below = h.below;
  beyond = h.beyond;
}

-- ---- pairs, one behind another: a class stands as C says, and stays while all below s does
module _ (C : List ℕ → Class → Type 0) (Q : Class → Pair → Type 0) (f : Class → Pair → List Tree) (q : List ℕ) (p e : ℕ) (w : List ℕ) (s se : ℕ) where
  pub pairs_done : p ≡ e → se ≤ s + tree_max → PairsGrow C Q f w w q (span p e) (span s se) (At se)
  unfolding gather
  pairs_done y l c ps z hc op hp oz hz =
      subst (λ i. Grown w w s z (gather (f c) i) (At se)) (sym (list_none pair_f ps y hp)) (grown_none z oz hz l)

  module _ (n : p ≡ e → ⊥) {m : ℕ} (g : m ≡ field_end q p) where
    pub pairs_first : PairsReady C Q w q (span p e) (span s se) → PairReady C Q w q (span p m) (span s se)
    pairs_first h = record {
      members = h.members;
      there = h.there;
      asked = ok_list_first pair_f n g (Sound Q h.members) h.asked;
      whole = h.whole;
      within = h.within;
      room = h.room;
      small = h.small;
    }

    module _ {u : List ℕ} {r : Out} (k : PairGrows C Q f w u q (span p m) (span s se) r) where
      pub pairs_stop : r ≡ Err too_large → PairsGrow C Q f w u q (span p e) (span s se) (Err too_large)
      unfolding gather
      pairs_stop y c ps z hc op hp oz hz =
          let a = list_parts pair_f ps g n hp in
          let oa = subst (All (Sound Q c)) a.same op in
          subst (λ i. Grown w u s z (gather (f c) i) (Err too_large)) (sym a.same)
          (grown_stop (k c a.first z hc oa.0 a.first_is oz hz) (gather (f c) a.rest) y)

      module _ (keep : (c : Class) → take s u ≡ take s w → C w c → C u c) {i : ℕ} (y : r ≡ At i) where
        pub pairs_rest : PairsReady C Q w q (span p e) (span s se) → length u ≡ length w → PairsReady C Q u q (span m e) (span s i)
        pairs_rest h l =
            let a = ok_list_first pair_f n g (Sound Q h.members) h.asked in
            let j = k h.members a.value h.whole.tree h.there a.allowed a.value_is h.whole.ok h.whole.tree_is in
            let t = j.tree_is i y in
            record {
              members = h.members;
              there = keep h.members j.below h.there;
              asked = ok_list_rest pair_f n g (Sound Q h.members) h.asked;
              whole = record { tree = t.tree; ok = t.ok; tree_is = t.stands };
              within = t.within;
              room = omega (arith, h.room);
              small = omega (arith, h.small);
            }

        pub pairs_next : (x : List ℕ) (o : Out) → PairsGrow C Q f u x q (span m e) (span s i) o → PairsGrow C Q f w x q (span p e) (span s se) o
        unfolding gather
        pairs_next x o k2 c ps z hc op hp oz hz =
            let a = list_parts pair_f ps g n hp in
            let oa = subst (All (Sound Q c)) a.same op in
            let j = k c a.first z hc oa.0 a.first_is oz hz in
            subst (λ i. Grown w x s z (gather (f c) i) o) (sym a.same)
            (grown_next j (gather (f c) a.rest) y (λ t ot ht. k2 c a.rest t (keep c j.below hc) oa.1 a.rest_is ot ht))
