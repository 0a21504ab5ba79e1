-- Every array within the limits has exactly one byte form, which is accepted; all other bytes are refused.
use Rattle.std.proofs.Math.Path.{◌≡◌, refl, sym, ap}
use Rattle.std.proofs.Common.{ap₂, ◌∙◌, inl, inr, le_of_suc-le-suc, not-suc-le-zero, arith, ltb→lt, eqb→eq}
use mathlib.Core.List.{List, [], ◌∷◌}
use Rattle.std.specs.Prelude.{Bool, true, false, cond, ◌↔◌, ℕ, zero, suc, ◌+◌, ◌^◌, ◌≤◌, ◌<◌, T, eqb, leb, ltb}
use Rattle.std.proofs.Math.Option.{some}
use Rattle.std.proofs.Math.ListN.{length}
use Rattle.std.proofs.Math.Dec.{leb→le}
use Rattle.spec_trees.specs.Options.{◌>>=◌, only}
use Rattle.spec_trees.specs.Lists.{All, each}
use Rattle.spec_trees.specs.Limits.{array_max, tree_max, depth_max, text_max}
use Rattle.spec_trees.specs.Tree.{Root, void, boolean, integer, text, Tree, node, Trees, ε, ◌▹◌, Labels, bare, label, list, is_label}
use Rattle.spec_trees.specs.Size.{depth, depth_a, depth_l, size, size_a, size_l, array_size}
use Rattle.spec_trees.specs.Bytes.{label_f, label_tag, label_heads, label_of, Field, field_bytes, bytes, big, root_f, tree_f, tree_fs, label_fs, array_f, array_bytes}
use Rattle.spec_trees.specs.Readers.{Reader, fields, inside, one, chosen, among, tagged, emptied, big_value, accepted, malformed, overlong}
use Rattle.spec_trees.specs.Decode.{signed, bit, root_table, root_r, array_with, label_c, label_r, labels_with, tree_c, tree_r, array_r, decode_array, read_array}
use Rattle.spec_trees.specs.Within.{AllBytes, OkR, Ok, OkA, OkL, Allowed, AllowedA, Within}
use Rattle.spec_trees.specs.OptionLaws.{T_true, leb_yes, ltb_yes, only_some, map_some, bind_some}
use Rattle.spec_trees.proofs.FieldLaws.{bytes_one, fields_bytes, BytesF, parts}
use Rattle.spec_trees.proofs.ReaderLaws.{Law, field_eq, OneOf, among_some, tagged_some, emptied_some, one_back, one_form, all_back, all_form, tested_only, tested_overlong, malformed_form}
use Rattle.spec_trees.specs.NumberLaws.{length_big, big_back, big_form, big_lt, signed_back, signed_form, pattern_lt}
use Rattle.spec_trees.specs.SizeLaws.{trees_list, list_trees, length_tree_f, length_array, tree_fs_map}

-- ---- roots
root_back : (r : Root) → OkR r → root_r (root_f r) ≡ some r
unfolding root_r root_f chosen among emptied bit only
root_back void h = refl
root_back (boolean true) h = refl
root_back (boolean false) h = refl
root_back (integer z) h = rw (length_big, big_back 8 _ (pattern_lt z h), signed_back z h) refl
root_back (text s) h = rw (leb_yes (length s) text_max h.0) refl

bit_some : (c : List ℕ) (r : Root) → bit c ≡ some r → (b : Bool) × (boolean b ≡ r) × (c ≡ cond b 1 0 ∷ [])
unfolding bit
bit_some [] r e = let z : ◌≡◌ {A = ℕ} 0 1 = cc in absurd (omega arith)
bit_some (zero ∷ []) r e = (false, cc, refl)
bit_some (suc zero ∷ []) r e = (true, cc, refl)
bit_some (suc (suc n) ∷ []) r e = let z : ◌≡◌ {A = ℕ} 0 1 = cc in absurd (omega arith)
bit_some (x ∷ y ∷ c) r e = let z : ◌≡◌ {A = ℕ} 0 1 = cc in absurd (omega arith)

root_form : (f : Field) (r : Root) → AllBytes f.1 → root_r f ≡ some r → (root_f r ≡ f) × OkR r
unfolding root_r root_f
root_form f r h e = go (among_some root_table f r e)
  where
    go : OneOf root_table f r → (root_f r ≡ f) × OkR r
    go (inl p) = let q = emptied_some void f.1 r p.1 in rw (← q.0) (field_eq f 3 [] p.0 q.1, tt)
    go (inr (inl p)) = let q = bit_some f.1 r p.1 in rw (← q.1) (field_eq f 4 _ p.0 q.2, tt)
    go (inr (inr (inl p))) =
        let o = only_some (eqb (length f.1) 8) (some (integer (signed (big_value f.1)))) p.1 in
        let n : length f.1 ≡ 8 = eqb→eq _ _ o.0 in
        let b : big_value f.1 < 2 ^ 64 = rw n at (big_lt f.1 h) in
        let q = signed_form (big_value f.1) b in
        let g : big 8 (big_value f.1) ≡ f.1 = rw n at (big_form f.1 h) in
        let r' : r ≡ integer (signed (big_value f.1)) = cc o.1 in
        rw r' (rw q.0 (field_eq f 5 _ p.0 (sym g)), q.1)
    go (inr (inr (inr (inl p)))) =
        let o = only_some (leb (length f.1) text_max) (some (text f.1)) p.1 in
        let r' : r ≡ text f.1 = cc o.1 in
        rw r' (field_eq f 6 f.1 p.0 refl, (leb→le _ _ o.0, h))
    go (inr (inr (inr (inr p)))) = absurd p

root_law : Law root_r root_f OkR
root_law = record { back = root_back; form = root_form }

-- ---- arrays and labels over any reader of trees
entry_f : ℕ × List Tree → Field
unfolding label_f label_heads label_of array_f
entry_f l = label_f l.0 (array_f l.1).1

-- labels above k, whose trees P allows
abbrev Above : (Tree → Type 0) → ℕ → Labels → Type 0
Above P k bare = Unit {0}
Above P k (label j a ls) = (k < j) × T (is_label j) × All P (list a) × Above P j ls

module _ {P : Tree → Type 0} {r : Reader Tree} (L : Law r tree_f P) where
  array_law : Law (array_with r) array_f (All P)
  unfolding array_with array_f tagged only
  array_law = record {
    back = λ ts o. rw tree_fs_map (all_back L ts o);
    form = λ f ts h e.
        let u = tagged_some 1 (inside (each r)) f ts e in
        let w = all_form L f.1 ts h u.1 in
        (field_eq f 1 _ u.0 (sym (rw tree_fs_map w.1)), w.0);
  }

  label_back : (l : ℕ × List Tree) → T (is_label l.0) × All P l.1 → label_r r (entry_f l) ≡ some l
  unfolding entry_f label_f label_heads label_of label_r label_c tagged only
  label_back l o = rw (T_true (is_label l.0) o.0, ← bytes_one (array_f l.1)) (one_back array_law (λ a. (l.0, a)) l.1 o.1)

  content_form : (c : List ℕ) (l : ℕ × List Tree) → AllBytes c → label_c r c ≡ some l
      → (c ≡ l.0 ∷ field_bytes (array_f l.1)) × T (is_label l.0) × All P l.1
  unfolding label_c
  content_form [] l h e = let z : ◌≡◌ {A = ℕ} 0 1 = cc in absurd (omega arith)
  content_form (k ∷ b) l h e =
      let o = only_some (is_label k) _ e in
      let (a, q, p, w) = one_form array_law (λ a. (k, a)) b l h.1 o.1 in
      rw (← q) (ap (λ x. k ∷ x) (sym w ∙ bytes_one (array_f a)), o.0, p)

  label_form : (f : Field) (l : ℕ × List Tree) → AllBytes f.1 → label_r r f ≡ some l → (entry_f l ≡ f) × (T (is_label l.0) × All P l.1)
  unfolding entry_f label_f label_heads label_of label_r
  label_form f l h e =
      let u = tagged_some label_tag (label_c r) f l e in
      let w = content_form f.1 l h u.1 in
      (field_eq f label_tag _ u.0 w.0, (w.1, w.2))

  labels_back : (ls : Labels) (k : ℕ) → Above P k ls → labels_with r k (label_fs ls) ≡ some ls
  unfolding labels_with tree_f ◌>>=◌ only entry_f label_f label_heads label_of array_f
  labels_back bare k o = refl
  labels_back (label j a ls) k o =
      let e = label_back (j, list a) (o.1, o.2) in
      let e' : label_r r (label_tag, j ∷ field_bytes (1, bytes (tree_fs a))) ≡ some (j, list a) = rw trees_list at e in
      rw (e', ltb_yes k j o.0, labels_back ls j o.3, trees_list) refl

  labels_form : (fs : List Field) (k : ℕ) (ls : Labels) → BytesF fs → labels_with r k fs ≡ some ls → (label_fs ls ≡ fs) × Above P k ls
  unfolding labels_with tree_f entry_f label_f label_heads label_of array_f
  labels_form [] k ls h e = let q : bare ≡ ls = cc in rw (← q) (refl, tt)
  labels_form (f ∷ fs) k ls h e =
      let (l, e1, e2) = bind_some _ (label_r r f) e in
      let o = only_some (ltb k l.0) _ e2 in
      let (ms, e3, e4) = map_some _ (labels_with r l.0 fs) o.1 in
      let p = label_form f l h.0 e1 in
      let q = labels_form fs l.0 ms h.1 e3 in
      rw (← e4) (ap₂ ◌∷◌ p.0 q.0, (ltb→lt _ _ o.0, p.1.0, rw list_trees p.1.1, q.1))

-- ---- the trees under a tree's labels are allowed one level less deep
down : (d : ℕ) (a : Trees) → OkA a → size_a a ≤ tree_max → depth_a a ≤ d → All (Allowed d) (list a)
unfolding size depth
down d ε o s h = tt
down d (t ▹ ts) o s h = (record { ok = o.0; small = omega arith; shallow = omega arith }, down d ts o.1 (omega arith) (omega arith))

up : (d : ℕ) (a : Trees) → All (Allowed d) (list a) → OkA a × (depth_a a ≤ d)
unfolding depth
up d ε o = (tt, omega arith)
up d (t ▹ ts) o = let q = up d ts o.1 in ((o.0.ok, q.0), omega (arith, o.0.shallow, q.1))

down_l : (d k : ℕ) (ls : Labels) → OkL ls k → size_l ls ≤ tree_max → depth_l ls ≤ d → Above (Allowed d) k ls
unfolding size depth
down_l d k bare o s h = tt
down_l d k (label j a ls) o s h = (o.0, o.1, down d a o.2 (omega arith) (omega arith), down_l d j ls o.3 (omega arith) (omega arith))

up_l : (d k : ℕ) (ls : Labels) → Above (Allowed d) k ls → OkL ls k × (depth_l ls ≤ d)
unfolding depth
up_l d k bare o = (tt, omega arith)
up_l d k (label j a ls) o =
    let p = up d a o.2 in
    let q = up_l d j ls o.3 in
    ((o.0, o.1, p.0, q.0), omega (arith, p.1, q.1))

-- ---- trees
module _ (d : ℕ) (L : Law (tree_r d) tree_f (Allowed d)) where
  tree_back : (t : Tree) → Allowed (suc d) t → tree_r (suc d) (tree_f t) ≡ some t
  unfolding tree_r tree_c tree_f size depth tagged inside only ◌>>=◌
  tree_back (node r ls) o =
      let s = o.small in
      let q : 3 + length (bytes (root_f r ∷ label_fs ls)) ≤ tree_max = omega (arith, length_tree_f (node r ls)) in
      let a = down_l d 0 ls o.ok.1 (omega arith) (le_of_suc-le-suc o.shallow) in
      rw (leb_yes _ _ q, fields_bytes, root_law.back r o.ok.0, labels_back L ls 0 a) refl

  fields_form : (fs : List Field) (t : Tree) → BytesF fs → tree_c (tree_r d) fs ≡ some t
      → ((tree_f t).1 ≡ bytes fs) × ((tree_f t).0 ≡ 2) × Ok t × (depth t ≤ suc d)
  unfolding tree_c tree_f depth
  fields_form [] t h e = let z : ◌≡◌ {A = ℕ} 0 1 = cc in absurd (omega arith)
  fields_form (f ∷ fs) t h e =
      let (x, e1, e2) = bind_some _ (root_r f) e in
      let (ls, e3, e4) = map_some _ (labels_with (tree_r d) 0 fs) e2 in
      let p = root_law.form f x h.0 e1 in
      let q = labels_form L fs 0 ls h.1 e3 in
      let u = up_l d 0 ls q.1 in
      rw (← e4) (rw (p.0, q.0) refl, refl, (p.1, u.0), omega (arith, u.1))

  tree_form : (f : Field) (t : Tree) → AllBytes f.1 → tree_r (suc d) f ≡ some t → (tree_f t ≡ f) × Allowed (suc d) t
  unfolding tree_r inside
  tree_form f t h e =
      let u = tagged_some 2 _ f t e in
      let o = only_some (leb (3 + length f.1) tree_max) _ u.1 in
      let (fs, e1, e2) = bind_some _ (fields f.1) o.1 in
      let p = parts f.1 fs h e1 in
      let q = fields_form fs t p.contents e2 in
      let c : (tree_f t).1 ≡ f.1 = q.0 ∙ p.form in
      let s : size t ≤ tree_max = omega (arith, length_tree_f t, ap length c, leb→le (3 + length f.1) tree_max o.0) in
      (λ i. ((q.1 ∙ sym u.0) i, c i), record { ok = q.2; small = s; shallow = q.3 })

none_allowed : (t : Tree) → depth t ≤ 0 → ⊥
unfolding depth
none_allowed (node r ls) h = not-suc-le-zero h

pub tree_law : (d : ℕ) → Law (tree_r d) tree_f (Allowed d)
unfolding tree_r
tree_law zero = record {
  back = λ t o. absurd (none_allowed t o.shallow);
  form = λ f t h e. let z : ◌≡◌ {A = ℕ} 0 1 = cc in absurd (omega arith);
}
tree_law (suc d) = record { back = tree_back d (tree_law d); form = tree_form d (tree_law d) }

pub array_r_law : Law array_r array_f AllowedA
unfolding array_r
array_r_law = array_law (tree_law depth_max)

-- ---- arrays
pub array_back : (ts : List Tree) → Within ts → decode_array (array_bytes ts) ≡ some ts
unfolding decode_array array_bytes only
array_back ts w =
    let s : length (field_bytes (array_f ts)) ≤ array_max = unfold array_bytes in omega (arith, length_array ts, w.small) in
    rw (leb_yes _ _ s, ← bytes_one (array_f ts)) (one_back array_r_law (λ a. a) ts w.allowed)

pub array_only : (b : List ℕ) (ts : List Tree) → AllBytes b → decode_array b ≡ some ts → (array_bytes ts ≡ b) × Within ts
unfolding decode_array array_bytes
array_only b ts h e =
    let o = only_some (leb (length b) array_max) _ e in
    let (us, q, p, w) = one_form array_r_law (λ a. a) b ts h o.1 in
    let y : array_bytes ts ≡ b = sym (bytes_one (array_f ts)) ∙ (rw q at w) in
    let n : array_size ts ≤ array_max = omega (arith, length_array ts, ap length y, leb→le (length b) array_max o.0) in
    (y, record { allowed = rw q at p; small = n })

-- the theorem
pub array_form : (b : List ℕ) → AllBytes b → (ts : List Tree) → (decode_array b ≡ some ts) ↔ ((array_bytes ts ≡ b) × Within ts)
array_form b h ts = (array_only b ts h, λ p. sym (ap decode_array p.0) ∙ array_back ts p.1)

pub read_array_lem : (b : List ℕ) (ts : List Tree) → (read_array b ≡ accepted ts) ↔ (decode_array b ≡ some ts)
unfolding read_array decode_array
read_array_lem b ts = tested_only array_max b (inside (one (λ a. a) array_r) b) ts

-- ---- a lent array: over its limit, by its length alone
pub array_overlong : (b : List ℕ) → (read_array b ≡ overlong) ↔ (array_max < length b)
unfolding read_array
array_overlong b = tested_overlong array_max b (decode_array b)

-- malformed: short enough, and not the byte form of any array within the limits
pub array_malformed : (b : List ℕ) → AllBytes b → (read_array b ≡ malformed) ↔ ((length b ≤ array_max) × ((ts : List Tree) → Within ts → array_bytes ts ≡ b → ⊥))
unfolding read_array
array_malformed b h = malformed_form array_max b (decode_array b) array_bytes Within (array_form b h)
