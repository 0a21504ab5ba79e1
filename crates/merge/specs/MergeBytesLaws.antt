-- The merge of two values where they stand, step by step: what each function of the merge asks of the next, and what
-- it has written when that one has.
use Rattle.std.specs.Prelude.{◌≡◌, List, ◌++◌, Bool, true, false, cond, ℕ, ◌+◌, ◌-◌, ◌≤◌, ◌<◌, length, take, drop, get_or, ltb, Ok, Err}
use Rattle.std.proofs.Math.Path.{refl, subst}
use Rattle.std.proofs.Common.{sym, ap, ap₂, ◌∙◌, arith}
use borrow.Author.Tests.{lt-ltb, le-ltb}
use Rattle.spec_trees.specs.Tree.{Root, void, boolean, integer, text, Tree, node, Trees, ◌▹◌, Labels, label, root, labels}
use Rattle.spec_trees.specs.Bytes.{field_bytes, bytes, root_f, tree_f, tree_bytes, label_heads, label_of}
use Rattle.areas.specs.Area.{Is, Wrote, span, head_bytes, field_end, Finishable, Finished, Out, too_large}
use Rattle.areas.specs.AreaLaws.{is_keep, is_tag, length_field, told, no_room, wrote_keep, wrote_fail, wrote_seq, fail_back, is_copied, finishable}
use Rattle.format.specs.Labels.{label_at, trees_at}
use Rattle.format.specs.Stand.{root_bytes, labels_bytes, trees_bytes, Holds}
use Rattle.format.specs.StandLaws.{heads_least, length_label, length_entry, tree_parts, entry_parts, labels_first, labels_parts, labels_none, trees_parts, trees_none}
use Rattle.spec_stages.specs.Merge.{merge_root}
use Rattle.spec_stages.specs.MergeTwo.{merge_two, merge_two_l, merge_two_a, Entry, merge_entry, merge_first}
use Rattle.spec_stages.specs.MergeTwoLaws.{two_bare, bare_two, two_none, none_two, remain, two_step, not_both}
use Rattle.merge.specs.MergeBytes.{MergeReady, Merged, entry_of}

-- ---- one of the two is the merge, and was copied
module _ {A : Type 0} {f : A → List ℕ} {m : A → A → A} {w v : List ℕ} {s se t te d stop : ℕ} {r : Out} where
  pub first_copied : ((x y : A) → Is w s se (f x) → Is w t te (f y) → m x y ≡ x)
      → Wrote w v d stop (take (se - s) (drop s w)) r → Merged f m w v (span s se) (span t te) (span d stop) r
  first_copied e k x y hx hy = subst (λ z. Wrote w v d stop (f z) r) (sym (e x y hx hy)) (is_copied hx k)

  pub second_copied : ((x y : A) → Is w s se (f x) → Is w t te (f y) → m x y ≡ y)
      → Wrote w v d stop (take (te - t) (drop t w)) r → Merged f m w v (span s se) (span t te) (span d stop) r
  second_copied e k x y hx hy = subst (λ z. Wrote w v d stop (f z) r) (sym (e x y hx hy)) (is_copied hy k)

-- ---- the first bytes of a merge were written, and the rest is the merge of two values that stand there
pub record Turn {A : Type 0} (f : A → List ℕ) (m : A → A → A) (w v : List ℕ) (i ie j je d stop : ℕ) (q : Out) (x y : A) : Type 0 where
  pub bytes : List ℕ
  pub wrote : Wrote w v d stop bytes q
  pub left : A
  pub right : A
  pub left_is : Is w i ie (f left)
  pub right_is : Is w j je (f right)
  pub same : f (m x y) ≡ bytes ++ f (m left right)

abbrev pub Turns : {A : Type 0} (f : A → List ℕ) (m : A → A → A) (w v : List ℕ) (i i' ie j j' je d stop : ℕ) → Out → Type 0
Turns {A} f m w v i i' ie j j' je d stop q = (x y : A) → Is w i ie (f x) → Is w j je (f y) → Turn f m w v i' ie j' je d stop q x y

module _ {A : Type 0} {f : A → List ℕ} {m : A → A → A} {w v : List ℕ} {i i' ie j j' je d stop : ℕ} {q : Out}
    (turn : Turns f m w v i i' ie j j' je d stop q) where
  -- they did not fit
  pub turn_fail : q ≡ Err too_large → Merged f m w v (span i ie) (span j je) (span d stop) (Err too_large)
  turn_fail z x y hx hy =
      let t = turn x y hx hy in
      subst (λ l. Wrote w v d stop l (Err too_large)) (sym t.same) (wrote_fail t.wrote (f (m t.left t.right)) z)

  module _ {e : ℕ} (h : MergeReady f w (span i ie) (span j je) (span d stop)) (z : q ≡ Ok e) where
    -- whatever is right for the rest is right for the whole
    pub turn_next : {u : List ℕ} {r : Out} → Merged f m v u (span i' ie) (span j' je) (span e stop) r → Merged f m w u (span i ie) (span j je) (span d stop) r
    turn_next {u} {r} k x y hx hy =
        let t = turn x y hx hy in
        let kept = wrote_keep t.wrote (omega arith) in
        subst (λ l. Wrote w u d stop l r) (sym t.same)
        (wrote_seq t.wrote (omega arith) z
        (k t.left t.right (is_keep t.left_is kept h.first_below) (is_keep t.right_is kept h.second_below)))

    pub turn_ready : length v ≡ length w → MergeReady f v (span i' ie) (span j' je) (span e stop)
    turn_ready l =
        let t = turn h.first.value h.second.value h.first.value_is h.second.value_is in
        let kept = wrote_keep t.wrote (omega arith) in
        let g = t.wrote.fits e z in
        record {
          first = record { value = t.left; value_is = is_keep t.left_is kept h.first_below };
          second = record { value = t.right; value_is = is_keep t.right_is kept h.second_below };
          first_below = omega (arith, h.first_below, g.ends);
          second_below = omega (arith, h.second_below, g.ends);
          room = g.room;
          area = omega (arith, h.area);
          small = omega (arith, h.small);
        }

-- ---- roots
merge_void : (x y : Root) → (root_f y).0 ≡ 3 → merge_root x y ≡ x
unfolding merge_root root_f
merge_void x void q = refl
merge_void x (boolean b) q = absurd (omega arith)
merge_void x (integer z) q = absurd (omega arith)
merge_void x (text s) q = absurd (omega arith)

merge_full : (x y : Root) → ((root_f y).0 ≡ 3 → ⊥) → merge_root x y ≡ y
unfolding merge_root root_f
merge_full x void q = absurd (q refl)
merge_full x (boolean b) q = refl
merge_full x (integer z) q = refl
merge_full x (text s) q = refl

module _ (w : List ℕ) (s se t te : ℕ) where
  pub root_void : get_or w t 0 ≡ 3 → (x y : Root) → Is w s se (root_bytes x) → Is w t te (root_bytes y) → merge_root x y ≡ x
  root_void q x y hx hy = merge_void x y (sym (is_tag (root_f y) hy) ∙ q)

  pub root_full : (get_or w t 0 ≡ 3 → ⊥) → (x y : Root) → Is w s se (root_bytes x) → Is w t te (root_bytes y) → merge_root x y ≡ y
  root_full q x y hx hy = merge_full x y (λ z. q (is_tag (root_f y) hy ∙ z))

pub root_inside : {w : List ℕ} {t te : ℕ} → Holds root_bytes w t te → t < length w
root_inside {w} {t} h = omega (arith, h.value_is.ends, h.value_is.inside, length_field (root_f h.value))

-- ---- a tree: its root, then its labels
abbrev content : Tree → Tree → List ℕ
content x y = root_bytes (merge_root (root x) (root y)) ++ labels_bytes (merge_two_l (labels x) (labels y))

tree_bytes_lem : (x y : Tree) → tree_bytes (merge_two x y) ≡ field_bytes (2, content x y)
unfolding tree_bytes tree_f bytes merge_two
tree_bytes_lem (node r ls) (node q ms) = refl

pub tree_no_room : (w : List ℕ) (s se t te d stop : ℕ) → stop < d + 3 → Merged tree_bytes merge_two w w (span s se) (span t te) (span d stop) (Err too_large)
tree_no_room w s se t te d stop q x y hx hy =
    no_room w d stop (tree_bytes (merge_two x y)) (omega (arith, ap length (tree_bytes_lem x y), length_field (2, content x y)))

module _ {w : List ℕ} {s sl se t tl te d stop : ℕ} (h : MergeReady tree_bytes w (span s se) (span t te) (span d stop))
    (gs : sl ≡ field_end w (s + 3)) (gt : tl ≡ field_end w (t + 3)) (b : d + 3 ≤ stop) where
  pub ready_root : MergeReady root_bytes w (span (s + 3) sl) (span (t + 3) tl) (span (d + 3) stop)
  ready_root =
      let x = tree_parts h.first.value gs h.first.value_is in
      let y = tree_parts h.second.value gt h.second.value_is in
      record {
        first = record { value = root h.first.value; value_is = x.root_is };
        second = record { value = root h.second.value; value_is = y.root_is };
        first_below = omega (arith, x.within, h.first_below);
        second_below = omega (arith, y.within, h.second_below);
        room = b;
        area = h.area;
        small = h.small;
      }

  module _ {v : List ℕ} {r : Out} (k : Merged root_bytes merge_root w v (span (s + 3) sl) (span (t + 3) tl) (span (d + 3) stop) r) where
    tree_root : (x y : Tree) → Is w s se (tree_bytes x) → Is w t te (tree_bytes y) → Wrote w v (d + 3) stop (root_bytes (merge_root (root x) (root y))) r
    tree_root x y hx hy = k (root x) (root y) (tree_parts x gs hx).root_is (tree_parts y gt hy).root_is

    pub tree_fail : r ≡ Err too_large → Merged tree_bytes merge_two w v (span s se) (span t te) (span d stop) (Err too_large)
    unfolding field_bytes
    tree_fail z x y hx hy =
        subst (λ l. Wrote w v d stop l (Err too_large)) (sym (tree_bytes_lem x y))
        (fail_back (wrote_fail (tree_root x y hx hy) (labels_bytes (merge_two_l (labels x) (labels y))) z) (head_bytes 2 (length (content x y))) refl refl)

    module _ {e : ℕ} (z : r ≡ Ok e) where
      pub ready_labels : length v ≡ length w → MergeReady labels_bytes v (span sl se) (span tl te) (span e stop)
      ready_labels l =
          let x = tree_parts h.first.value gs h.first.value_is in
          let y = tree_parts h.second.value gt h.second.value_is in
          let wr = tree_root h.first.value h.second.value h.first.value_is h.second.value_is in
          let kept = wrote_keep wr (omega (arith, h.area)) in
          let g = wr.fits e z in
          record {
            first = record { value = labels h.first.value; value_is = is_keep x.labels_is {d = d + 3} kept (omega (arith, h.first_below)) };
            second = record { value = labels h.second.value; value_is = is_keep y.labels_is {d = d + 3} kept (omega (arith, h.second_below)) };
            first_below = omega (arith, h.first_below, g.ends);
            second_below = omega (arith, h.second_below, g.ends);
            room = g.room;
            area = omega (arith, h.area);
            small = omega (arith, h.small);
          }

      module _ {u : List ℕ} {q : Out} (g : Merged labels_bytes merge_two_l v u (span sl se) (span tl te) (span e stop) q) where
        tree_content : (x y : Tree) → Is w s se (tree_bytes x) → Is w t te (tree_bytes y) → Wrote w u (d + 3) stop (content x y) q
        tree_content x y hx hy =
            let wr = tree_root x y hx hy in
            let kept = wrote_keep wr (omega (arith, h.area)) in
            wrote_seq wr (omega (arith, h.area)) z
            (g (labels x) (labels y)
            (is_keep (tree_parts x gs hx).labels_is {d = d + 3} kept (omega (arith, h.first_below)))
            (is_keep (tree_parts y gt hy).labels_is {d = d + 3} kept (omega (arith, h.second_below))))

        pub tree_finishable : length u ≡ length w → Finishable u d q
        tree_finishable l =
            finishable d (omega arith) (omega (arith, h.area))
            (tree_content h.first.value h.second.value h.first.value_is h.second.value_is)

        pub tree_done : {v4 : List ℕ} {o : Out} → Finished u v4 d 2 q o → Merged tree_bytes merge_two w v4 (span s se) (span t te) (span d stop) o
        tree_done {v4} {o} f x y hx hy =
            subst (λ l. Wrote w v4 d stop l o) (sym (tree_bytes_lem x y)) (f w stop (content x y) (omega (arith, h.area)) (tree_content x y hx hy))

-- ---- labels
module _ (w : List ℕ) (i ie j je : ℕ) where
  pub labels_first_none : i ≡ ie → (x y : Labels) → Is w i ie (labels_bytes x) → Is w j je (labels_bytes y) → merge_two_l x y ≡ y
  labels_first_none q x y hx hy = ap (λ z. merge_two_l z y) (labels_none x q hx) ∙ bare_two y

  pub labels_second_none : j ≡ je → (x y : Labels) → Is w i ie (labels_bytes x) → Is w j je (labels_bytes y) → merge_two_l x y ≡ x
  labels_second_none q x y hx hy = ap (merge_two_l x) (labels_none y q hy) ∙ two_bare x

labels_bytes_lem : (x y : Entry) (ls ms : Labels)
    → labels_bytes (merge_two_l (label x.0 x.1 ls) (label y.0 y.1 ms))
    ≡ entry_of (merge_first x y) ++ labels_bytes (merge_two_l (remain x y ls) (remain y x ms))
labels_bytes_lem x y ls ms =
    let z = merge_first x y in
    ap labels_bytes (two_step x y ls ms) ∙ labels_first z.0 z.1 (merge_two_l (remain x y ls) (remain y x ms))

-- where the labels that remain stand
is_remain : {w : List ℕ} {i m e : ℕ} (x y : Entry) (ls : Labels) → Is w i e (labels_bytes (label x.0 x.1 ls)) → Is w m e (labels_bytes ls)
    → Is w (cond (ltb y.0 x.0) i m) e (labels_bytes (remain x y ls))
is_remain {w} {i} {m} {e} x y ls h k = go (ltb y.0 x.0)
  where
    go : (t : Bool) → Is w (cond t i m) e (labels_bytes (cond t (label x.0 x.1 ls) ls))
    go true = h
    go false = k

module _ {w : List ℕ} {i m ie j n je d stop : ℕ} (gi : m ≡ field_end w i) (gj : n ≡ field_end w j) (ni : i ≡ ie → ⊥) (nj : j ≡ je → ⊥) where
  pub ready_first : MergeReady labels_bytes w (span i ie) (span j je) (span d stop) → MergeReady entry_of w (span i m) (span j n) (span d stop)
  ready_first h =
      let a = labels_parts h.first.value gi ni h.first.value_is in
      let b = labels_parts h.second.value gj nj h.second.value_is in
      record {
        first = record { value = (a.key, a.array); value_is = a.first_is };
        second = record { value = (b.key, b.array); value_is = b.first_is };
        first_below = omega (arith, a.within, h.first_below);
        second_below = omega (arith, b.within, h.second_below);
        room = h.room;
        area = h.area;
        small = h.small;
      }

  pub labels_turn : {v : List ℕ} {q : Out} {x y i' j' : ℕ} → x ≡ label_at w i → y ≡ label_at w j → i' ≡ cond (ltb y x) i m → j' ≡ cond (ltb x y) j n
      → Merged entry_of merge_first w v (span i m) (span j n) (span d stop) q → Turns labels_bytes merge_two_l w v i i' ie j j' je d stop q
  labels_turn {v} {q} {x} {y} {i'} {j'} ex ey ei ej one ls ms hx hy =
      let a = labels_parts ls gi ni hx in
      let b = labels_parts ms gj nj hy in
      let p : Entry = (a.key, a.array) in
      let r : Entry = (b.key, b.array) in
      let x_is : x ≡ a.key = ex ∙ a.entry.label_is in
      let y_is : y ≡ b.key = ey ∙ b.entry.label_is in
      let i_is : i' ≡ cond (ltb b.key a.key) i m = ei ∙ ap₂ (λ c e. cond (ltb c e) i m) y_is x_is in
      let j_is : j' ≡ cond (ltb a.key b.key) j n = ej ∙ ap₂ (λ c e. cond (ltb c e) j n) x_is y_is in
      let hx' : Is w i ie (labels_bytes (label a.key a.array a.others)) = subst (λ z. Is w i ie (labels_bytes z)) a.same hx in
      let hy' : Is w j je (labels_bytes (label b.key b.array b.others)) = subst (λ z. Is w j je (labels_bytes z)) b.same hy in
      record {
        bytes = entry_of (merge_first p r);
        wrote = one p r a.first_is b.first_is;
        left = remain p r a.others;
        right = remain r p b.others;
        left_is = subst (λ n. Is w n ie (labels_bytes (remain p r a.others))) (sym i_is) (is_remain p r a.others hx' a.others_is);
        right_is = subst (λ n. Is w n je (labels_bytes (remain r p b.others))) (sym j_is) (is_remain r p b.others hy' b.others_is);
        same = ap₂ (λ c e. labels_bytes (merge_two_l c e)) a.same b.same ∙ labels_bytes_lem p r a.others b.others;
      }

-- one of the two places moves on
pub places_move : (x y i m j n : ℕ) → i < m → j < n
    → (i ≤ cond (ltb y x) i m) × (cond (ltb y x) i m ≤ m) × (j ≤ cond (ltb x y) j n) × (cond (ltb x y) j n ≤ n) × (i + j < cond (ltb y x) i m + cond (ltb x y) j n)
places_move x y i m j n a b = go (ltb y x) (ltb x y) (not_both y x)
  where
    go : (p q : Bool) → (p ≡ true → q ≡ true → ⊥) → (i ≤ cond p i m) × (cond p i m ≤ m) × (j ≤ cond q j n) × (cond q j n ≤ n) × (i + j < cond p i m + cond q j n)
    go true true f = absurd (f refl refl)
    go true false f = (omega arith, omega arith, omega arith, omega arith, omega arith)
    go false true f = (omega arith, omega arith, omega arith, omega arith, omega arith)
    go false false f = (omega arith, omega arith, omega arith, omega arith, omega arith)

pub places_fall : (x y i m ie j n je : ℕ) {i' j' : ℕ} → i < m → j < n → m ≤ ie → n ≤ je → i' ≡ cond (ltb y x) i m → j' ≡ cond (ltb x y) j n
    → (ie - i') + (je - j') < (ie - i) + (je - j)
places_fall x y i m ie j n je a b c d p q = let f = places_move x y i m j n a b in omega arith

-- ---- a label with its array: two heads or more
pub entry_places : {w : List ℕ} {i ie : ℕ} → Holds entry_of w i ie → (i + 6 ≤ ie) × (ie ≤ length w)
entry_places h = (omega (arith, (entry_parts h.value.0 h.value.1 h.value_is).after, heads_least h.value.0), h.value_is.inside)

-- where its trees begin
pub entry_trees_at : {w : List ℕ} {i ie x : ℕ} → Holds entry_of w i ie → x ≡ trees_at w i → (i + 6 ≤ x) × (x ≤ ie)
entry_trees_at h z =
    let e = entry_parts h.value.0 h.value.1 h.value_is in
    (omega (arith, e.trees_at_lem, heads_least h.value.0), omega (arith, e.trees_at_lem, e.after))

pub entry_heads : {w : List ℕ} {i ie k n : ℕ} → Holds entry_of w i ie → k ≡ label_at w i → n ≡ label_heads k → i + n ≡ trees_at w i
entry_heads {i = i} h ek en =
    let e = entry_parts h.value.0 h.value.1 h.value_is in
    ap (λ m. i + m) (en ∙ ap label_heads (ek ∙ e.label_is)) ∙ sym e.trees_at_lem

module _ {w : List ℕ} {i ie j je x y : ℕ} (ex : x ≡ label_at w i) (ey : y ≡ label_at w j) (p q : Entry) (hp : Is w i ie (entry_of p)) (hq : Is w j je (entry_of q)) where
  x_key : x ≡ p.0
  x_key = ex ∙ (entry_parts p.0 p.1 hp).label_is

  y_key : y ≡ q.0
  y_key = ey ∙ (entry_parts q.0 q.1 hq).label_is

  pub first_less : x < y → merge_first p q ≡ p
  unfolding merge_first
  first_less l = rw (lt-ltb p.0 q.0 (omega (arith, x_key, y_key))) refl

  pub first_more : y < x → merge_first p q ≡ q
  unfolding merge_first
  first_more l = rw (le-ltb p.0 q.0 (omega (arith, x_key, y_key)), lt-ltb q.0 p.0 (omega (arith, x_key, y_key))) refl

  pub first_same : y ≤ x → x ≤ y → merge_first p q ≡ merge_entry p q
  unfolding merge_first
  first_same l k = rw (le-ltb p.0 q.0 (omega (arith, x_key, y_key)), le-ltb q.0 p.0 (omega (arith, x_key, y_key))) refl

pub entry_both : {w v : List ℕ} {i ie j je d stop x y : ℕ} {r : Out} → x ≡ label_at w i → y ≡ label_at w j → y ≤ x → x ≤ y
    → Merged entry_of merge_entry w v (span i ie) (span j je) (span d stop) r → Merged entry_of merge_first w v (span i ie) (span j je) (span d stop) r
entry_both {w} {v} {d = d} {stop = stop} {r = r} ex ey a b k p q hp hq =
    subst (λ z. Wrote w v d stop (entry_of z) r) (sym (first_same ex ey p q hp hq a b)) (k p q hp hq)

-- ---- a label in both: the label, then the arrays merged; before the trees of the first stand n bytes, as its tag says
heads_are : {w : List ℕ} {i ie x n : ℕ} → x ≡ trees_at w i → n ≡ x - i → (p : Entry) → Is w i ie (entry_of p) → (n ≡ label_heads p.0) × (x ≡ i + label_heads p.0)
heads_are ex en p hp = let e = entry_parts p.0 p.1 hp in (omega (arith, e.trees_at_lem), omega (arith, e.trees_at_lem))

pub entry_no_room : {w : List ℕ} {i x n : ℕ} (ie j je d stop : ℕ) → x ≡ trees_at w i → n ≡ x - i → stop < d + n → Merged entry_of merge_entry w w (span i ie) (span j je) (span d stop) (Err too_large)
unfolding merge_entry
entry_no_room {w} ie j je d stop ex en l p q hp hq =
    let ts = trees_bytes (merge_two_a p.1 q.1) in
    no_room w d stop (entry_of (merge_entry p q)) (omega (arith, heads_are ex en p hp, length_entry p.0 ts))

module _ {w : List ℕ} {i ie j je d stop x n y tag : ℕ} {w1 : List ℕ} {r1 : Out} (ex : x ≡ trees_at w i) (en : n ≡ x - i) (ey : y ≡ trees_at w j)
    (et : tag ≡ get_or w i 0) (h : MergeReady entry_of w (span i ie) (span j je) (span d stop)) (b : d + n ≤ stop)
    (c : Wrote w w1 (d + 3) stop (take (x - 3 - (i + 3)) (drop (i + 3) w)) r1) where
  least : 6 ≤ n
  least = omega (arith, heads_are ex en h.first.value h.first.value_is, heads_least h.first.value.0)

  -- the label was copied, and there was room for it
  label_copied : (p : Entry) → Is w i ie (entry_of p) → Wrote w w1 (d + 3) stop (label_of p.0) r1
  label_copied p hp =
      let z : i + label_heads p.0 - 3 ≡ x - 3 = omega (arith, heads_are ex en p hp) in
      is_copied (subst (λ m. Is w (i + 3) m (label_of p.0)) z (entry_parts p.0 p.1 hp).bytes_is) c

  label_fits : (p : Entry) → Is w i ie (entry_of p) → r1 ≡ Ok (d + n - 3)
  label_fits p hp =
      let k = label_copied p hp in
      let m = heads_are ex en p hp in
      told r1
      (λ e q. let g = k.fits e q in let z : e ≡ d + n - 3 = omega (arith, g.ends, length_label p.0, m) in q ∙ ap Ok z)
      (λ q. absurd (omega (arith, (k.large q).over, length_label p.0, m)))

  kept : take (d + 3) w1 ≡ take (d + 3) w
  kept = wrote_keep c (omega (arith, h.area, least))

  first_array : (p : Entry) → Is w i ie (entry_of p) → Is w1 x ie (trees_bytes p.1)
  first_array p hp =
      is_keep (subst (λ m. Is w m ie (trees_bytes p.1)) (sym ex) (entry_parts p.0 p.1 hp).array_is) {d = d + 3} kept (omega (arith, h.first_below))

  second_array : (p : Entry) → Is w j je (entry_of p) → Is w1 y je (trees_bytes p.1)
  second_array p hp =
      is_keep (subst (λ m. Is w m je (trees_bytes p.1)) (sym ey) (entry_parts p.0 p.1 hp).array_is) {d = d + 3} kept (omega (arith, h.second_below))

  pub ready_arrays : length w1 ≡ length w → MergeReady trees_bytes w1 (span x ie) (span y je) (span (d + n) stop)
  ready_arrays l = record {
    first = record { value = h.first.value.1; value_is = first_array h.first.value h.first.value_is };
    second = record { value = h.second.value.1; value_is = second_array h.second.value h.second.value_is };
    first_below = omega (arith, h.first_below);
    second_below = omega (arith, h.second_below);
    room = b;
    area = omega (arith, h.area);
    small = omega (arith, h.small);
  }

  module _ {w2 : List ℕ} {r2 : Out} (l : length w1 ≡ length w) (k : Merged trees_bytes merge_two_a w1 w2 (span x ie) (span y je) (span (d + n) stop) r2) where
    -- the trees, where the head of the array asks them to be
    entry_trees : (p q : Entry) → Is w i ie (entry_of p) → Is w j je (entry_of q)
        → Wrote w1 w2 (d + n - 3 + 3) stop (trees_bytes (merge_two_a p.1 q.1)) r2
    entry_trees p q hp hq =
        let z : d + n ≡ d + n - 3 + 3 = omega (arith, least) in
        subst (λ m. Wrote w1 w2 m stop (trees_bytes (merge_two_a p.1 q.1)) r2) z (k p.1 q.1 (first_array p hp) (second_array q hq))

    pub array_finishable : length w2 ≡ length w → Finishable w2 (d + n - 3) r2
    array_finishable l2 =
        finishable (d + n - 3) (omega arith) (omega (arith, h.area))
        (entry_trees h.first.value h.second.value h.first.value_is h.second.value_is)

    module _ {w3 : List ℕ} {r3 : Out} (f : Finished w2 w3 (d + n - 3) 1 r2 r3) where
      entry_content : (p q : Entry) → Is w i ie (entry_of p) → Is w j je (entry_of q)
          → Wrote w w3 (d + 3) stop (label_of p.0 ++ field_bytes (1, trees_bytes (merge_two_a p.1 q.1))) r3
      entry_content p q hp hq =
          wrote_seq (label_copied p hp) (omega (arith, h.area, least)) (label_fits p hp)
          (f w1 stop (trees_bytes (merge_two_a p.1 q.1)) (omega (arith, h.area, least)) (entry_trees p q hp hq))

      pub entry_finishable : length w3 ≡ length w → Finishable w3 d r3
      entry_finishable l3 =
          finishable d (omega arith) (omega (arith, h.area))
          (entry_content h.first.value h.second.value h.first.value_is h.second.value_is)

      pub entry_done : {w4 : List ℕ} {r4 : Out} → Finished w3 w4 d tag r3 r4 → Merged entry_of merge_entry w w4 (span i ie) (span j je) (span d stop) r4
      unfolding merge_entry
      entry_done {w4} {r4} g p q hp hq =
          let u = label_of p.0 ++ field_bytes (1, trees_bytes (merge_two_a p.1 q.1)) in
          subst (λ t. Wrote w w4 d stop (field_bytes (t, u)) r4) (et ∙ (entry_parts p.0 p.1 hp).tag_is)
          (g w stop u (omega (arith, h.area, least)) (entry_content p q hp hq))

-- ---- arrays
module _ (w : List ℕ) (i ie j je : ℕ) where
  pub trees_first_none : i ≡ ie → (x y : Trees) → Is w i ie (trees_bytes x) → Is w j je (trees_bytes y) → merge_two_a x y ≡ y
  trees_first_none q x y hx hy = ap (λ z. merge_two_a z y) (trees_none x q hx) ∙ none_two y

  pub trees_second_none : j ≡ je → (x y : Trees) → Is w i ie (trees_bytes x) → Is w j je (trees_bytes y) → merge_two_a x y ≡ x
  trees_second_none q x y hx hy = ap (merge_two_a x) (trees_none y q hy) ∙ two_none x

trees_bytes_lem : (s t : Tree) (ss ts : Trees) → trees_bytes (merge_two_a (s ▹ ss) (t ▹ ts)) ≡ tree_bytes (merge_two s t) ++ trees_bytes (merge_two_a ss ts)
unfolding tree_f bytes tree_bytes merge_two
trees_bytes_lem s t ss ts = refl

module _ {w : List ℕ} {i m ie j n je d stop : ℕ} (gi : m ≡ field_end w i) (gj : n ≡ field_end w j) (ni : i ≡ ie → ⊥) (nj : j ≡ je → ⊥) where
  pub ready_node : MergeReady trees_bytes w (span i ie) (span j je) (span d stop) → MergeReady tree_bytes w (span i m) (span j n) (span d stop)
  ready_node h =
      let a = trees_parts h.first.value gi ni h.first.value_is in
      let b = trees_parts h.second.value gj nj h.second.value_is in
      record {
        first = record { value = a.first; value_is = a.first_is };
        second = record { value = b.first; value_is = b.first_is };
        first_below = omega (arith, a.within, h.first_below);
        second_below = omega (arith, b.within, h.second_below);
        room = h.room;
        area = h.area;
        small = h.small;
      }

  pub trees_turn : {v : List ℕ} {q : Out} → Merged tree_bytes merge_two w v (span i m) (span j n) (span d stop) q → Turns trees_bytes merge_two_a w v i m ie j n je d stop q
  trees_turn one x y hx hy =
      let a = trees_parts x gi ni hx in
      let b = trees_parts y gj nj hy in
      record {
        bytes = tree_bytes (merge_two a.first b.first);
        wrote = one a.first b.first a.first_is b.first_is;
        left = a.rest;
        right = b.rest;
        left_is = a.rest_is;
        right_is = b.rest_is;
        same = ap₂ (λ c e. trees_bytes (merge_two_a c e)) a.same b.same ∙ trees_bytes_lem a.first b.first a.rest b.rest;
      }
