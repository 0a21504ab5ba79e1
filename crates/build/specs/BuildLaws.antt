-- A part that is added to a tree where both stand: the tests that are made there are those of `build`, and so is the
-- merge.
use Rattle.std.specs.Prelude.{◌≡◌, refl, List, ◌∷◌, Bool, true, false, ◌&&◌, ℕ, ◌+◌, ◌-◌, ◌≤◌, ◌<◌, length, take, drop, leb, Err, Ok as At}
use Rattle.std.proofs.Common.{sym, ap, ap₂, subst, ◌∙◌, append-nil, arith, le-leb}
use Rattle.std.proofs.Math.Option.{none}
use Rattle.std.proofs.lemmas.Bool.{lt-leb}
use Rattle.spec_trees.specs.Limits.{tree_max, depth_max}
use Rattle.spec_trees.specs.Tree.{Tree, ε, ◌▹◌, bare_void}
use Rattle.spec_trees.specs.Size.{size, depth, depth_a, fits}
use Rattle.spec_trees.specs.SizeLaws.{length_tree}
use Rattle.spec_trees.specs.Bytes.{field_bytes, bytes, tree_f, tree_bytes}
use Rattle.spec_trees.specs.Within.{Ok}
use Rattle.areas.specs.Area.{Is, span, Fitted, Wrote, Out, too_large}
use Rattle.areas.specs.AreaLaws.{take_less, is_keep, fitted_keep, fitted_is, wrote_keep, written, wrote_beyond, moved_fitted}
use Rattle.format.specs.Stand.{trees_bytes, Holds}
use Rattle.spec_stages.specs.Merge.{merge, build}
use Rattle.merge.specs.MergeBytes.{MergeReady, TreesMerged}
use Rattle.build.specs.Build.{DepthSaid, Standing, Addable, PartAdded, Added}

-- ---- `build`, part by part
pub build_next : (s t : Tree) (ts : List Tree) → (fits t && fits (merge s t)) ≡ true → build s (t ∷ ts) ≡ build (merge s t) ts
unfolding build
build_next s t ts e = rw e refl

pub build_large : (s t : Tree) (ts : List Tree) → (fits t && fits (merge s t)) ≡ false → build s (t ∷ ts) ≡ none
unfolding build
build_large s t ts e = rw e refl

-- the same, by what adding the part answered
module _ {w u : List ℕ} {s ie : ℕ} {x y : Tree} {r : Out} (h : PartAdded w u s ie x y r) (ts : List Tree) where
  pub added_next : {e : ℕ} → r ≡ At e → build x (y ∷ ts) ≡ build (merge x y) ts
  added_next {e} q = build_next x y ts (h.fit e q)

  pub added_large : r ≡ Err too_large → build x (y ∷ ts) ≡ none
  added_large q = build_large x y ts (h.large q)

-- ---- a well formed tree that stands there
pub standing_keep : {w u : List ℕ} {p e d : ℕ} → Standing w (span p e) → take d u ≡ take d w → e ≤ d → Standing u (span p e)
standing_keep h k b = record { tree = h.tree; ok = h.ok; tree_is = is_keep h.tree_is k b }

pub standing_written : {w u : List ℕ} {d stop e : ℕ} {r : Out} (t : Tree) → Ok t → d ≤ length w → Wrote w u d stop (tree_bytes t) r → r ≡ At e → Standing u (span d e)
standing_written t o b h q = record { tree = t; ok = o; tree_is = written h b q }

pub standing_void : {w u : List ℕ} {d stop e : ℕ} {r : Out} → d ≤ length w → Wrote w u d stop (tree_bytes bare_void) r → r ≡ At e → Standing u (span d e)
standing_void b h q = standing_written bare_void (tt, tt) b h q

-- ---- a tree alone, as the trees of an array
one_is : {w : List ℕ} {p e : ℕ} (t : Tree) → Is w p e (tree_bytes t) → Is w p e (trees_bytes (t ▹ ε))
unfolding tree_bytes tree_f bytes
one_is {w} {p} {e} t h = subst (λ l. Is w p e l) (sym (append-nil (field_bytes (tree_f t)))) h

pub standing_one : {w : List ℕ} {p e : ℕ} → Standing w (span p e) → Holds trees_bytes w p e
standing_one h = record { value = h.tree ▹ ε; value_is = one_is h.tree h.tree_is }

one_depth : (t : Tree) → depth_a (t ▹ ε) ≡ depth t
unfolding depth
one_depth t = omega arith

pub depth_said : {w : List ℕ} {p e : ℕ} {o : Bool} (t : Tree) → Is w p e (tree_bytes t) → DepthSaid w (span p e) o → leb (depth t) depth_max ≡ o
depth_said t h k = ap (λ n. leb n depth_max) (sym (one_depth t)) ∙ sym (k (t ▹ ε) (one_is t h))

-- ---- the tests
pub fits_by_depth : (t : Tree) (o : Bool) → size t ≤ tree_max → leb (depth t) depth_max ≡ o → fits t ≡ o
unfolding fits
fits_by_depth t o b q = ap (λ x. x && leb (depth t) depth_max) (le-leb (size t) tree_max b) ∙ q

pub fits_not : (t : Tree) → tree_max < size t → fits t ≡ false
unfolding fits
fits_not t b = ap (λ x. x && leb (depth t) depth_max) (lt-leb (size t) tree_max b)

pub both : {a b x y : Bool} → a ≡ x → b ≡ y → (a && b) ≡ (x && y)
both p q = ap₂ ◌&&◌ p q

pub refused : {w u : List ℕ} {s ie : ℕ} {x y : Tree} → (fits y && fits (merge x y)) ≡ false → take s u ≡ take s w
    → ((top : ℕ) → ie + tree_max ≤ top → drop top u ≡ drop top w) → PartAdded w u s ie x y (Err too_large)
refused q a b = record {
  fit = λ e z. let y : ◌≡◌ {A = ℕ} 0 1 = cc in absurd (omega arith);
  merge_is = λ e z. let y : ◌≡◌ {A = ℕ} 0 1 = cc in absurd (omega arith);
  ends = λ e z. let y : ◌≡◌ {A = ℕ} 0 1 = cc in absurd (omega arith);
  large = λ z. q;
  below = a;
  beyond = b;
}

-- ---- what `add_part` asks, and what it did
module _ {w : List ℕ} {s se i ie : ℕ} (h : Addable w (span s se) (span i ie)) where
  pub addable_ready : MergeReady tree_bytes w (span s se) (span i ie) (span ie (ie + tree_max))
  addable_ready =
      let a = h.part.tree_is in
      record {
        first = record { value = h.whole.tree; value_is = h.whole.tree_is };
        second = record { value = h.part.tree; value_is = h.part.tree_is };
        first_below = omega (arith, h.above, a.ends);
        second_below = omega arith;
        room = omega arith;
        area = h.room;
        small = h.small;
      }

  module _ {o : Bool} (k : DepthSaid w (span i ie) o) where
    pub part_fits : (y : Tree) → Is w i ie (tree_bytes y) → fits y ≡ o
    part_fits y hy =
        let b : size y ≤ tree_max = omega (arith, h.part_room, hy.ends, length_tree y) in
        fits_by_depth y o b (depth_said y hy k)

    -- the part is too deep
    pub part_deep : o ≡ false → Added w w (span s se) (span i ie) (Err too_large)
    part_deep q x y ox oy hx hy = refused (ap (λ a. a && fits (merge x y)) (part_fits y hy ∙ q)) refl (λ top b. refl)

    module _ (z : o ≡ true) {u : List ℕ} {r : Out} (m : TreesMerged w u (span s se) (span i ie) (span ie (ie + tree_max)) r) where
      module _ (x y : Tree) (ox : Ok x) (oy : Ok y) (hx : Is w s se (tree_bytes x)) (hy : Is w i ie (tree_bytes y)) where
        made : Wrote w u ie (ie + tree_max) (tree_bytes (merge x y)) r
        made = m x y ox oy hx hy

        made_below : take s u ≡ take s w
        made_below =
            take_less w u s ie (omega (arith, h.above, hx.ends, hy.ends)) (wrote_keep made (omega (arith, h.room)))

        made_beyond : (top : ℕ) → ie + tree_max ≤ top → drop top u ≡ drop top w
        made_beyond top b = wrote_beyond b made

        made_refused : fits (merge x y) ≡ false → PartAdded w u s ie x y (Err too_large)
        made_refused q = refused (both (part_fits y hy ∙ z) q) made_below made_beyond

      -- the merge is too large
      pub merge_large : r ≡ Err too_large → Added w u (span s se) (span i ie) (Err too_large)
      merge_large q x y ox oy hx hy =
          made_refused x y ox oy hx hy
          (fits_not (merge x y) (omega (arith, ((made x y ox oy hx hy).large q).over, length_tree (merge x y))))

      module _ {e : ℕ} (q : r ≡ At e) where
        -- where it stands
        merge_stands : (x y : Tree) (ox : Ok x) (oy : Ok y) → Is w s se (tree_bytes x) → Is w i ie (tree_bytes y) → Is u ie e (tree_bytes (merge x y))
        merge_stands x y ox oy hx hy = written (made x y ox oy hx hy) (omega (arith, h.room)) q

        pub merge_one : Holds trees_bytes u ie e
        merge_one =
            let x = h.whole in
            let y = h.part in
            record { value = merge x.tree y.tree ▹ ε; value_is = one_is (merge x.tree y.tree) (merge_stands x.tree y.tree x.ok y.ok x.tree_is y.tree_is) }

        pub merge_ends : (s ≤ ie) × (ie ≤ e) × (e ≤ length w)
        merge_ends =
            let x = h.whole in
            let y = h.part in
            let g = (made x.tree y.tree x.ok y.ok x.tree_is y.tree_is).fits e q in
            (omega (arith, h.above, x.tree_is.ends, y.tree_is.ends), omega (arith, g.ends), omega (arith, g.room, h.room))

        module _ {d : Bool} (l : DepthSaid u (span ie e) d) where
          -- the merge is too deep
          pub merge_deep : d ≡ false → Added w u (span s se) (span i ie) (Err too_large)
          merge_deep c x y ox oy hx hy =
              let g = (made x y ox oy hx hy).fits e q in
              let b : size (merge x y) ≤ tree_max = omega (arith, g.ends, g.room, length_tree (merge x y)) in
              made_refused x y ox oy hx hy (fits_by_depth (merge x y) false b (depth_said (merge x y) (merge_stands x y ox oy hx hy) l ∙ c))

          -- the merge was moved down
          pub merge_moved : {v2 : List ℕ} → d ≡ true → Wrote u v2 s (length u) (take (e - ie) (drop ie u)) (At (s + (e - ie))) → Added w v2 (span s se) (span i ie) (At (s + (e - ie)))
          merge_moved {v2} c k2 x y ox oy hx hy =
              let g = (made x y ox oy hx hy).fits e q in
              let b : size (merge x y) ≤ tree_max = omega (arith, g.ends, g.room, length_tree (merge x y)) in
              let st = merge_stands x y ox oy hx hy in
              let bs : s ≤ length w = omega (arith, hx.ends, hx.inside) in
              let len : s + length (tree_bytes (merge x y)) ≤ s + tree_max = omega (arith, length_tree (merge x y)) in
              let moved : (top : ℕ) → ie + tree_max ≤ top → Fitted w v2 s (s + tree_max) top (tree_bytes (merge x y)) (s + (e - ie))
              = λ top t. moved_fitted {top = top} (made_below x y ox oy hx hy) (made_beyond x y ox oy hx hy top t) st len (omega (arith, h.above, hx.ends, hy.ends)) k2 in
              let m0 = moved (ie + tree_max) (omega arith) in
              record {
                fit = λ n t. both (part_fits y hy ∙ z) (fits_by_depth (merge x y) true b (depth_said (merge x y) st l ∙ c));
                merge_is = λ n t. let j : s + (e - ie) ≡ n = cc in subst (λ n. Is v2 s n (tree_bytes (merge x y))) j (fitted_is bs m0);
                ends = λ n t. let j : s + (e - ie) ≡ n = cc in omega (arith, g.ends, length_tree (merge x y));
                large = λ t. let j : ◌≡◌ {A = ℕ} 0 1 = cc in absurd (omega arith);
                below = fitted_keep bs m0;
                beyond = λ top t. (moved top t).beyond;
              }
