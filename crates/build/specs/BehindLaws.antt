-- Laws of a part that goes behind a tree: when it does, what the merge is then, and its bytes where it was put.
use Rattle.std.specs.Prelude.{◌≡◌, refl, List, ◌++◌, Bool, true, false, ℕ, ◌+◌, ◌-◌, ◌≤◌, ◌<◌, max, length, take, drop, get_or, ltb, leb, Err, Ok as At}
use Rattle.std.proofs.Common.{sym, ap, ap₂, subst, ◌∙◌, append_assoc, arith, length-append, take-append-drop, take-take, lt-ltb, ltb-true, leb-true, leb-false, le-leb}
use Rattle.std.proofs.lemmas.Bool.{lt-leb}
use Rattle.areas.specs.declared.span.Span.{Span}
use Rattle.spec_trees.specs.Limits.{tree_max, depth_max}
use Rattle.spec_trees.specs.OptionLaws.{split}
use Rattle.spec_trees.specs.Tree.{Tree, node, Trees, Labels, bare, label, root, labels}
use Rattle.spec_trees.specs.Size.{size, depth, depth_l, fits}
use Rattle.spec_trees.specs.SizeLaws.{length_tree}
use Rattle.spec_trees.specs.Bytes.{field_bytes, bytes, tree_f, label_fs, tree_bytes}
use Rattle.spec_trees.specs.Within.{Ok, OkL}
use Rattle.areas.specs.Area.{Is, span, Wrote, head_bytes, field_end, too_large}
use Rattle.areas.specs.AreaLaws.{length_field, is_content, fitted, drop_more, wrote_keep, written, wrote_seq, finish_at, is_copied}
use Rattle.format.specs.Labels.{label_at}
use Rattle.format.specs.Stand.{root_bytes, labels_bytes, entry_bytes}
use Rattle.format.specs.StandLaws.{tree_parts, labels_first, labels_parts, labels_none}
use Rattle.spec_stages.specs.Merge.{merge_root, merge}
use Rattle.spec_stages.specs.MergeTwo.{merge_two, merge_two_l, into}
use Rattle.spec_stages.specs.MergeTwoLaws.{root_labels, two_merge, two_bare}
use Rattle.build.specs.Build.{DepthSaid, Addable, Added}
use Rattle.merge.specs.MergeBytesLaws.{root_void}
use Rattle.build.specs.BuildLaws.{part_fits, fits_by_depth, fits_not, depth_said, both, refused}
use Rattle.build.specs.Behind.{AtMost, Apart, join_l, Behind, LastIs, GoesBehind}

-- ---- the last label, from one that was read on: labels above m, none of which is above r
abbrev pub LastFrom : (s : List ℕ) (p e m : ℕ) → ℕ → Type 0
LastFrom s p e m r = (ls : Labels) → OkL ls m → Is s p e (labels_bytes ls) → (m ≤ r) × AtMost ls r

pub last_all : (s : List ℕ) (p e r : ℕ) → LastFrom s p e 0 r → LastIs s (span p e) r
last_all s p e r h ls o k = (h ls o k).1

pub last_end : (s : List ℕ) (p e m : ℕ) → p ≡ e → LastFrom s p e m m
last_end s p e m z ls o h = (omega arith, subst (λ l. AtMost l m) (sym (labels_none ls z h)) tt)

pub last_next : (s : List ℕ) (p e m : ℕ) {n k : ℕ} → (p ≡ e → ⊥) → n ≡ field_end s p → k ≡ label_at s p → (r : ℕ) → LastFrom s n e k r → LastFrom s p e m r
last_next s p e m {n} {k} z g y r h ls o i =
    let c = labels_parts ls g z i in
    let j : k ≡ c.key = y ∙ c.entry.label_is in
    let ok = subst (λ l. OkL l m) c.same o in
    let d = h c.others (subst (OkL c.others) (sym j) ok.3) c.others_is in
    (omega (arith, ok.0, d.0), subst (λ l. AtMost l r) (sym c.same) (omega (arith, d.0), d.1))

-- ---- when a part goes behind
apart_bare : (ls : Labels) → Apart ls bare
apart_bare bare = tt
apart_bare (label k a ls) = (tt, apart_bare ls)

apart_above : (ls : Labels) (n j : ℕ) (b : Trees) (ms : Labels) → AtMost ls n → n < j → Apart ls (label j b ms)
apart_above bare n j b ms h l = tt
apart_above (label k a ls) n j b ms h l = (omega (arith, h.0), apart_above ls n j b ms h.1 l)

pub behind_no : (w : List ℕ) (built part : Span) → GoesBehind w built part false
behind_no w built part x y ox hx hy q = let z : ◌≡◌ {A = ℕ} 0 1 = cc in absurd (omega arith)

module _ {w : List ℕ} {s se i ie l : ℕ} (v : get_or w (i + 3) 0 ≡ 3) (g : l ≡ field_end w (i + 3)) where
  root_stays : (x y : Tree) → Is w s se (tree_bytes x) → Is w i ie (tree_bytes y) → merge_root (root x) (root y) ≡ root x
  root_stays x y hx hy =
      let a = tree_parts {l = field_end w (s + 3)} x refl hx in
      let b = tree_parts y g hy in
      root_void w (s + 3) (field_end w (s + 3)) (i + 3) l v (root x) (root y) a.root_is b.root_is

  pub behind_bare : l ≡ ie → GoesBehind w (span s se) (span i ie) true
  behind_bare z x y ox hx hy q =
      let b = tree_parts y g hy in
      record { root_left = root_stays x y hx hy; apart = subst (Apart (labels x)) (sym (labels_none (labels y) z b.labels_is)) (apart_bare (labels x)) }

  pub behind_last : {k j m : ℕ} {r : Bool} → (l ≡ ie → ⊥) → m ≡ field_end w (s + 3) → LastIs w (span m se) k → j ≡ label_at w l → r ≡ ltb k j → GoesBehind w (span s se) (span i ie) r
  behind_last {k} {j} z f d y e x y2 ox hx hy q =
      let a = tree_parts x f hx in
      let b = tree_parts y2 g hy in
      let c = labels_parts {m = field_end w l} (labels y2) refl z b.labels_is in
      let n : k < c.key = omega (arith, ltb-true k j (sym e ∙ q), y, c.entry.label_is) in
      record {
        root_left = root_stays x y2 hx hy;
        apart = subst (Apart (labels x)) (sym c.same) (apart_above (labels x) k c.key c.array c.others (d (labels x) (root_labels x ox) a.labels_is) n);
      }

-- ---- the merge
two_apart : (ls ms : Labels) → Apart ls ms → merge_two_l ls ms ≡ join_l ls ms
unfolding merge_two into join_l
two_apart bare ms h = refl
two_apart (label k a ls) bare h = ap (label k a) (sym (two_bare ls) ∙ two_apart ls bare h.1)
two_apart (label k a ls) (label j b ms) h = rw (lt-ltb k j h.0) (ap (label k a) (two_apart ls (label j b ms) h.1))

joined_bytes : (ls ms : Labels) → labels_bytes (join_l ls ms) ≡ labels_bytes ls ++ labels_bytes ms
unfolding join_l bytes label_fs
joined_bytes bare ms = refl
joined_bytes (label k a ls) ms =
    labels_first k a (join_l ls ms) ∙ ap (λ (l : List ℕ). entry_bytes k a ++ l) (joined_bytes ls ms)
    ∙ sym (ap (λ l. l ++ labels_bytes ms) (labels_first k a ls) ∙ append_assoc (entry_bytes k a) (labels_bytes ls) (labels_bytes ms))

abbrev content : Tree → List ℕ
content t = root_bytes (root t) ++ labels_bytes (labels t)

tree_content : (t : Tree) → tree_bytes t ≡ field_bytes (2, content t)
unfolding tree_bytes tree_f bytes
tree_content (node r ls) = refl

two_content : (x y : Tree) → Behind x y → content (merge_two x y) ≡ content x ++ labels_bytes (labels y)
unfolding merge_two
two_content (node r ls) y h =
    ap₂ (λ (o : List ℕ) (l : List ℕ). o ++ l) (ap root_bytes h.root_left) (ap labels_bytes (two_apart ls (labels y) h.apart) ∙ joined_bytes ls (labels y))
    ∙ sym (append_assoc (root_bytes r) (labels_bytes ls) (labels_bytes (labels y)))

merged_content : (x y : Tree) → Ok x → Ok y → Behind x y → tree_bytes (merge x y) ≡ field_bytes (2, content x ++ labels_bytes (labels y))
merged_content x y ox oy h =
    sym (ap tree_bytes (two_merge x y ox oy)) ∙ tree_content (merge_two x y) ∙ ap (λ (l : List ℕ). field_bytes (2, l)) (two_content x y h)

-- the merge is as deep as the deeper of the two
joined_depth : (ls ms : Labels) → depth_l (join_l ls ms) ≡ max (depth_l ls) (depth_l ms)
unfolding join_l depth_l
joined_depth bare ms = omega arith
joined_depth (label k a ls) ms = omega (arith, joined_depth ls ms)

two_depth : (x y : Tree) → Behind x y → depth (merge_two x y) ≡ max (depth x) (depth y)
unfolding merge_two depth
two_depth (node r ls) (node q ms) h = omega (arith, ap depth_l (two_apart ls ms h.apart), joined_depth ls ms)

merged_depth : (x y : Tree) → Ok x → Ok y → Behind x y → depth (merge x y) ≡ max (depth x) (depth y)
merged_depth x y ox oy h = sym (ap depth (two_merge x y ox oy)) ∙ two_depth x y h

deeper : (a b n : ℕ) → leb b n ≡ true → leb (max a b) n ≡ leb a n
deeper a b n q =
    let l = leb-true b n q in
    split (leb a n)
    (λ p. let m = leb-true a n p in le-leb (max a b) n (omega arith) ∙ sym p)
    (λ p. let m = leb-false a n p in lt-leb (max a b) n (omega arith) ∙ sym p)

-- ---- the labels put behind those of the tree, and the tree's head stored anew

-- what stands there already
wrote_itself : {w : List ℕ} {d e : ℕ} {xs : List ℕ} → Is w d e xs → Wrote w w d (length w) xs (At e)
wrote_itself {w} {d} {e} {xs} h = fitted record {
  ends = h.ends;
  room = h.inside;
  below = sym (take-append-drop d (take e w)) ∙ ap₂ (λ (a : List ℕ) (b : List ℕ). a ++ b) (take-take d e w (omega (arith, h.ends))) h.lies;
  beyond = refl;
}

module _ {w : List ℕ} {s se i ie l e : ℕ} (h : Addable w (span s se) (span i ie)) (k : DepthSaid w (span i ie) true) (b : GoesBehind w (span s se) (span i ie) true)
    (g : l ≡ field_end w (i + 3)) (z : e ≡ se + (ie - l)) where
  pub append_places : (s + 6 ≤ se) × (se ≤ l) × (l ≤ ie) × (ie ≤ length w)
  append_places =
      let x = tree_parts {l = field_end w (s + 3)} h.whole.tree refl h.whole.tree_is in
      let y = tree_parts h.part.tree g h.part.tree_is in
      (omega (arith, x.after, x.within), omega (arith, h.above, y.after), y.within, h.part.tree_is.inside)

  module _ (x y : Tree) (ox : Ok x) (oy : Ok y) (hx : Is w s se (tree_bytes x)) (hy : Is w i ie (tree_bytes y)) where
    joined : tree_bytes (merge x y) ≡ field_bytes (2, content x ++ labels_bytes (labels y))
    joined = merged_content x y ox oy (b x y ox hx hy refl)

    part_labels : Is w l ie (labels_bytes (labels y))
    part_labels = (tree_parts y g hy).labels_is

    joined_ends : e ≡ s + size (merge x y)
    joined_ends =
        omega (
          arith,
          append_places,
          length_tree (merge x y),
          ap length joined,
          length_field (2, content x ++ labels_bytes (labels y)),
          length-append (content x) (labels_bytes (labels y)),
          hx.ends,
          ap length (tree_content x),
          length_field (2, content x),
          part_labels.ends,
        )

  -- too many bytes
  pub append_large : tree_max < e - s → Added w w (span s se) (span i ie) (Err too_large)
  append_large q x y ox oy hx hy =
      refused (both (part_fits h k y hy) (fits_not (merge x y) (omega (arith, joined_ends x y ox oy hx hy)))) refl (λ top n. refl)

  -- how deep the tree is says whether the merge fits
  module _ (r : e - s ≤ tree_max) {d : Bool} (f : DepthSaid w (span s se) d) where
    merge_fits : (x y : Tree) → Ok x → Ok y → Is w s se (tree_bytes x) → Is w i ie (tree_bytes y) → fits (merge x y) ≡ d
    merge_fits x y ox oy hx hy =
        fits_by_depth (merge x y) d (omega (arith, joined_ends x y ox oy hx hy))
        (ap (λ n. leb n depth_max) (merged_depth x y ox oy (b x y ox hx hy refl)) ∙ deeper (depth x) (depth y) depth_max (depth_said y hy k) ∙ depth_said x hx f)

    -- too deep
    pub append_deep : d ≡ false → Added w w (span s se) (span i ie) (Err too_large)
    append_deep q x y ox oy hx hy = refused (both (part_fits h k y hy) (merge_fits x y ox oy hx hy ∙ q)) refl (λ top n. refl)

  module _ {w1 w2 : List ℕ} (l1 : length w1 ≡ length w) (m : Wrote w w1 se (length w) (take (ie - l) (drop l w)) (At (se + (ie - l))))
      (p : Wrote w1 w2 s (s + 3) (head_bytes 2 (e - (s + 3))) (At (s + 3))) where
    put_behind : (x y : Tree) → Ok x → Ok y → Is w s se (tree_bytes x) → Is w i ie (tree_bytes y) → Wrote w w2 s (length w) (tree_bytes (merge x y)) (At e)
    put_behind x y ox oy hx hy =
        let a = append_places in
        let c = is_content (2, content x) (subst (Is w s se) (tree_content x) hx) in
        let n = is_copied (part_labels x y ox oy hx hy) m in
        let t = subst (λ o. Wrote w w1 (s + 3) (length w) (content x ++ labels_bytes (labels y)) (At o)) (sym z)
        (wrote_seq (wrote_itself c) (omega (arith, a)) refl n) in
        subst (λ o. Wrote w w2 s (length w) o (At e)) (sym (joined x y ox oy hx hy))
        (finish_at w1 s 2 (omega (arith, a)) (omega (arith, a)) refl p w (length w) (content x ++ labels_bytes (labels y)) (omega (arith, a)) t)

    behind_is : (x y : Tree) → Ok x → Ok y → Is w s se (tree_bytes x) → Is w i ie (tree_bytes y) → Is w2 s e (tree_bytes (merge x y))
    behind_is x y ox oy hx hy = written (put_behind x y ox oy hx hy) (omega (arith, append_places)) refl

    behind_kept : (x y : Tree) → Ok x → Ok y → Is w s se (tree_bytes x) → Is w i ie (tree_bytes y) → take s w2 ≡ take s w
    behind_kept x y ox oy hx hy = wrote_keep (put_behind x y ox oy hx hy) (omega (arith, append_places))

    behind_beyond : (x y : Tree) → Ok x → Ok y → Is w s se (tree_bytes x) → Is w i ie (tree_bytes y) → (top : ℕ) → ie + tree_max ≤ top → drop top w2 ≡ drop top w
    behind_beyond x y ox oy hx hy top n =
        let f = (put_behind x y ox oy hx hy).fits e refl in
        drop_more w w2 e top (omega (arith, append_places)) f.beyond

    pub append_done : e - s ≤ tree_max → {d : Bool} → DepthSaid w (span s se) d → d ≡ true → Added w w2 (span s se) (span i ie) (At e)
    append_done r f q x y ox oy hx hy = record {
      fit = λ n t. both (part_fits h k y hy) (merge_fits r f x y ox oy hx hy ∙ q);
      merge_is = λ n t. let j : e ≡ n = cc in subst (λ n. Is w2 s n (tree_bytes (merge x y))) j (behind_is x y ox oy hx hy);
      ends = λ n t. let j : e ≡ n = cc in omega (arith, joined_ends x y ox oy hx hy);
      large = λ t. let j : ◌≡◌ {A = ℕ} 0 1 = cc in absurd (omega arith);
      below = behind_kept x y ox oy hx hy;
      beyond = behind_beyond x y ox oy hx hy;
    }
