-- Laws that take apart what stands in an area: a tree's root and labels, a first label and the others, a label's
-- array, a first tree and the rest.
use Rattle.std.specs.Prelude.{◌≡◌, refl, List, ◌∷◌, ◌++◌, ℕ, ◌+◌, ◌-◌, ◌≤◌, length, get_or}
use Rattle.std.proofs.Common.{sym, ap, subst, ◌∙◌, arith, length-append}
use Rattle.spec_trees.specs.Tree.{Tree, node, Trees, ε, ◌▹◌, Labels, bare, label, root, labels}
use Rattle.spec_trees.specs.Bytes.{Field, field_bytes, bytes, root_f, tree_f, tree_fs, label_f, label_fs, tree_bytes, label_tag, label_heads, label_of}
use Rattle.spec_trees.proofs.FieldLaws.{bytes_one}
use Rattle.areas.specs.Area.{Is, field_end}
use Rattle.areas.specs.AreaLaws.{is_left, is_right, is_head, is_tag, is_content, is_field_end, length_field}
use Rattle.format.specs.Labels.{label_at, trees_at}
use Rattle.format.specs.Stand.{root_bytes, labels_bytes, trees_bytes, entry_of, entry_bytes, Holds}

-- ---- a field, and the fields behind it
pub record FieldParts (s : List ℕ) (p m e : ℕ) (f : Field) (fs : List Field) : Type 0 where
  pub first_is : Is s p m (field_bytes f)
  pub rest_is : Is s m e (bytes fs)
  pub after : p + 3 ≤ m
  pub within : m ≤ e

pub field_parts : {s : List ℕ} {p m e : ℕ} (f : Field) (fs : List Field) → m ≡ field_end s p → Is s p e (bytes (f ∷ fs)) → FieldParts s p m e f fs
unfolding bytes
field_parts f fs g h =
    let q = g ∙ is_field_end f (bytes fs) h in
    let r = is_right (field_bytes f) (bytes fs) q h in
    record {
      first_is = is_left (field_bytes f) (bytes fs) q h;
      rest_is = r;
      after = omega (arith, length_field f);
      within = omega (arith, r.ends);
    }

-- ---- a tree: its root, and its labels
pub record TreeParts (s : List ℕ) (p l e : ℕ) (t : Tree) : Type 0 where
  pub root_is : Is s (p + 3) l (root_bytes (root t))
  pub labels_is : Is s l e (labels_bytes (labels t))
  pub after : p + 6 ≤ l
  pub within : l ≤ e

pub tree_parts : {s : List ℕ} {p l e : ℕ} (t : Tree) → l ≡ field_end s (p + 3) → Is s p e (tree_bytes t) → TreeParts s p l e t
unfolding tree_bytes tree_f
tree_parts {s} {p} {l} {e} (node r ls) g h =
    let a = field_parts (root_f r) (label_fs ls) g (is_content (2, bytes (root_f r ∷ label_fs ls)) h) in
    record { root_is = a.first_is; labels_is = a.rest_is; after = omega (arith, a.after); within = a.within }

-- ---- the bytes before a label's trees: all that is known of their number elsewhere
pub heads_least : (k : ℕ) → label_tag ≤ label_heads k
unfolding label_heads
heads_least k = omega arith

pub heads_most : (k : ℕ) → label_heads k ≤ 8
unfolding label_heads
heads_most k = omega arith

-- the label stands between two heads
pub length_label : (k : ℕ) → 6 + length (label_of k) ≡ label_heads k
unfolding label_heads label_of
length_label k = refl

pub length_entry : (k : ℕ) (c : List ℕ) → length (entry_of k c) ≡ label_heads k + length c
length_entry k c =
    let b = field_bytes (1, c) in
    omega (arith, length_field (label_heads k, label_of k ++ b), length-append (label_of k) b, length_field (1, c), length_label k)

-- ---- a label with its array
pub record EntryParts (s : List ℕ) (p e k : ℕ) (a : Trees) : Type 0 where
  pub tag_is : get_or s p 0 ≡ label_heads k
  pub label_is : label_at s p ≡ k
  pub bytes_is : Is s (p + 3) (p + label_heads k - 3) (label_of k)
  pub trees_at_lem : trees_at s p ≡ p + label_heads k
  pub array_is : Is s (trees_at s p) e (trees_bytes a)
  pub after : p + label_heads k ≤ e

pub entry_parts : {s : List ℕ} {p e : ℕ} (k : ℕ) (a : Trees) → Is s p e (entry_bytes k a) → EntryParts s p e k a
unfolding label_of trees_at
entry_parts {s} {p} {e} k a h =
    let b = field_bytes (1, trees_bytes a) in
    let g = is_tag (label_heads k, label_of k ++ b) h in
    let c : Is s (p + 3) e (label_of k ++ b) = is_content (label_heads k, label_of k ++ b) h in
    let m : p + label_heads k - 3 ≡ p + 3 + length (label_of k) = omega (arith, length_label k) in
    let d = is_content (1, trees_bytes a) (is_right (label_of k) b m c) in
    let t : p + get_or s p 0 ≡ p + label_heads k = ap (λ n. p + n) g in
    let q : p + label_heads k - 3 + 3 ≡ p + get_or s p 0 = omega (arith, heads_least k) in
    record {
      tag_is = g;
      label_is = is_head c;
      bytes_is = is_left (label_of k) b m c;
      trees_at_lem = t;
      array_is = subst (λ n. Is s n e (trees_bytes a)) q d;
      after = omega (arith, d.ends, heads_least k);
    }

-- ---- labels: the first, and the others
pub record LabelsParts (s : List ℕ) (p m e : ℕ) (ls : Labels) : Type 0 where
  pub key : ℕ
  pub array : Trees
  pub others : Labels
  pub same : ls ≡ label key array others
  pub first_is : Is s p m (entry_bytes key array)
  pub others_is : Is s m e (labels_bytes others)
  pub entry : EntryParts s p m key array
  pub within : m ≤ e

pub labels_first : (k : ℕ) (a : Trees) (ls : Labels) → labels_bytes (label k a ls) ≡ entry_bytes k a ++ labels_bytes ls
unfolding bytes tree_f label_f
labels_first k a ls = refl

pub labels_parts : {s : List ℕ} {p m e : ℕ} (ls : Labels) → m ≡ field_end s p → (p ≡ e → ⊥) → Is s p e (labels_bytes ls) → LabelsParts s p m e ls
unfolding bytes tree_f label_f
labels_parts bare g n h = absurd (n (omega (arith, h.ends)))
labels_parts (label k a ls) g n h =
    let b = field_parts (label_heads k, label_of k ++ field_bytes (1, trees_bytes a)) (label_fs ls) g h in
    record {
      key = k;
      array = a;
      others = ls;
      same = refl;
      first_is = b.first_is;
      others_is = b.rest_is;
      entry = entry_parts k a b.first_is;
      within = b.within;
    }

pub labels_none : {s : List ℕ} {p e : ℕ} (ls : Labels) → p ≡ e → Is s p e (labels_bytes ls) → ls ≡ bare
unfolding bytes tree_f
labels_none bare q h = refl
labels_none {s} {p} {e} (label k a ls) q h =
    let g = h.ends ∙ ap (λ l. p + length l) (labels_first k a ls) in
    absurd (omega (arith, g, length-append (entry_bytes k a) (labels_bytes ls), length_entry k (trees_bytes a), heads_least k))

-- ---- trees: the first, and the rest
pub record TreesParts (s : List ℕ) (p m e : ℕ) (ts : Trees) : Type 0 where
  pub first : Tree
  pub rest : Trees
  pub same : ts ≡ first ▹ rest
  pub first_is : Is s p m (tree_bytes first)
  pub rest_is : Is s m e (trees_bytes rest)
  pub after : p + 6 ≤ m
  pub within : m ≤ e

pub trees_parts : {s : List ℕ} {p m e : ℕ} (ts : Trees) → m ≡ field_end s p → (p ≡ e → ⊥) → Is s p e (trees_bytes ts) → TreesParts s p m e ts
unfolding bytes tree_f tree_bytes
trees_parts ε g n h = absurd (n (omega (arith, h.ends)))
trees_parts (t ▹ ts) g n h =
    let a = field_parts (tree_f t) (tree_fs ts) g h in
    let b = tree_parts t refl a.first_is in
    record { first = t; rest = ts; same = refl; first_is = a.first_is; rest_is = a.rest_is; after = omega (arith, b.after, b.within); within = a.within }

pub trees_none : {s : List ℕ} {p e : ℕ} (ts : Trees) → p ≡ e → Is s p e (trees_bytes ts) → ts ≡ ε
unfolding bytes tree_f
trees_none ε q h = refl
trees_none (t ▹ ts) q h = absurd (omega (arith, h.ends, length-append (field_bytes (tree_f t)) (trees_bytes ts), length_field (tree_f t)))

-- a tree alone
pub is_alone : {s : List ℕ} {p e : ℕ} (t : Tree) → Is s p e (tree_bytes t) → Is s p e (trees_bytes (t ▹ ε))
unfolding tree_f tree_bytes
is_alone {s} {p} {e} t h = subst (λ b. Is s p e b) (sym (bytes_one (tree_f t))) h

-- ---- the same of a reader that knows only that some value stands there

-- where the labels of a tree begin
module _ {s : List ℕ} {p e : ℕ} (h : Holds tree_bytes s p e) where
  pub tree_places : {l : ℕ} → l ≡ field_end s (p + 3) → (p + 6 ≤ l) × (l ≤ e) × (e ≤ length s)
  tree_places g = let a = tree_parts h.value g h.value_is in (a.after, a.within, h.value_is.inside)

  pub holds_labels : {l : ℕ} → l ≡ field_end s (p + 3) → Holds labels_bytes s l e
  holds_labels g = record { value = labels h.value; value_is = (tree_parts h.value g h.value_is).labels_is }

-- where the first label ends, its array, and the others
module _ {s : List ℕ} {p e : ℕ} (h : Holds labels_bytes s p e) (n : p ≡ e → ⊥) where
  pub labels_places : {m : ℕ} → m ≡ field_end s p → (p + label_tag ≤ m) × (m ≤ e) × (e ≤ length s)
  labels_places g =
      let a = labels_parts h.value g n h.value_is in
      (omega (arith, a.entry.after, heads_least a.key), a.within, h.value_is.inside)

  pub holds_array : {m f : ℕ} → m ≡ field_end s p → f ≡ trees_at s p → Holds trees_bytes s f m
  holds_array {m} g z =
      let a = labels_parts h.value g n h.value_is in
      record { value = a.array; value_is = subst (λ i. Is s i m (trees_bytes a.array)) (sym z) a.entry.array_is }

  pub holds_others : {m : ℕ} → m ≡ field_end s p → Holds labels_bytes s m e
  holds_others g = let a = labels_parts h.value g n h.value_is in record { value = a.others; value_is = a.others_is }

-- where the first tree ends, the tree, and the rest
module _ {s : List ℕ} {p e : ℕ} (h : Holds trees_bytes s p e) (n : p ≡ e → ⊥) where
  pub trees_places : {m : ℕ} → m ≡ field_end s p → (p + 6 ≤ m) × (m ≤ e) × (e ≤ length s)
  trees_places g = let a = trees_parts h.value g n h.value_is in (a.after, a.within, h.value_is.inside)

  pub holds_first : {m : ℕ} → m ≡ field_end s p → Holds tree_bytes s p m
  holds_first g = let a = trees_parts h.value g n h.value_is in record { value = a.first; value_is = a.first_is }

  pub holds_rest : {m : ℕ} → m ≡ field_end s p → Holds trees_bytes s m e
  holds_rest g = let a = trees_parts h.value g n h.value_is in record { value = a.rest; value_is = a.rest_is }
