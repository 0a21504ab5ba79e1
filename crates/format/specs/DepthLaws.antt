-- Depth measured where trees and labels stand: a first one, and the others.
use Rattle.std.specs.Prelude.{◌≡◌, List, Bool, true, false, ◌&&◌, ℕ, suc, ◌+◌, ◌*◌, ◌-◌, ◌/◌, ◌≤◌, ◌<◌, max, eqb}
use Rattle.std.proofs.Math.Path.{refl, sym, ap}
use Rattle.std.proofs.Common.{subst, ◌∙◌, arith}
use Rattle.std.proofs.Math.Dec.{leb}
use borrow.Author.Tests.{le-leb, lt-leb, leb-true, leb-false, eqb-true, eqb-false}
use Rattle.spec_trees.specs.Tree.{Root, void, boolean, integer, text, Tree, node, Trees, ε, ◌▹◌, Labels, bare, label, labels}
use Rattle.spec_trees.specs.Size.{root_size, size, size_a, size_l, depth, depth_a, depth_l}
use Rattle.spec_trees.specs.SizeLaws.{length_tree_fs}
use Rattle.spec_trees.specs.Bytes.{label_tag}
use Rattle.areas.specs.Area.{Is, field_end}
use Rattle.format.specs.Labels.{trees_at}
use Rattle.format.specs.Stand.{trees_bytes, labels_bytes, Says}
use Rattle.format.specs.StandLaws.{heads_least, tree_parts, labels_parts, labels_none, trees_parts, trees_none}

leb_max : (a b n : ℕ) → leb (max a b) n ≡ (leb a n && leb b n)
leb_max a b n = go (leb a n) (leb b n) refl refl
  where
    go : (x y : Bool) → leb a n ≡ x → leb b n ≡ y → leb (max a b) n ≡ (x && y)
    go true true p q = le-leb (max a b) n (omega (arith, leb-true a n p, leb-true b n q))
    go true false p q = lt-leb (max a b) n (omega (arith, leb-false b n q))
    go false y p q = lt-leb (max a b) n (omega (arith, leb-false a n p))

leb_suc : (a n : ℕ) → (n ≡ 0 → ⊥) → leb (suc a) n ≡ leb a (n - 1)
leb_suc a n z = go (leb a (n - 1)) refl
  where
    go : (x : Bool) → leb a (n - 1) ≡ x → leb (suc a) n ≡ x
    go true p = le-leb (suc a) n (omega (arith, leb-true a (n - 1) p))
    go false p = lt-leb (suc a) n (omega (arith, leb-false a (n - 1) p))

-- the levels of a tree are one more than those under its labels
tree_levels : (t : Tree) (left : ℕ) → (left ≡ 0 → ⊥) → leb (depth t) left ≡ leb (depth_l (labels t)) (left - 1)
unfolding depth
tree_levels (node r ls) left z = leb_suc (depth_l ls) left z

tree_level : (t : Tree) → 0 < depth t
unfolding depth
tree_level (node r ls) = omega arith

-- ---- the least bytes of a level: the heads of a tree and of its root, and a label; the last level has no label
abbrev pub level_min : ℕ
level_min = 6 + label_tag

root_bytes_lem : (r : Root) → 3 ≤ root_size r
unfolding root_size
root_bytes_lem void = omega arith
root_bytes_lem (boolean b) = omega arith
root_bytes_lem (integer z) = omega arith
root_bytes_lem (text s) = omega arith

mutual
  unfolding depth size

  tree_bytes_lem : (t : Tree) → level_min * depth t ≤ size t + label_tag
  tree_bytes_lem (node r ls) = omega (arith, root_bytes_lem r, labels_bytes_lem ls)

  trees_bytes_lem : (ts : Trees) → level_min * depth_a ts ≤ size_a ts + label_tag
  trees_bytes_lem ε = omega arith
  trees_bytes_lem (t ▹ ts) = omega (arith, tree_bytes_lem t, trees_bytes_lem ts)

  labels_bytes_lem : (ls : Labels) → level_min * depth_l ls ≤ size_l ls
  labels_bytes_lem bare = omega arith
  labels_bytes_lem (label k a ls) = omega (arith, heads_least k, trees_bytes_lem a, labels_bytes_lem ls)

-- ---- what a measure says of the trees, or of the labels, from p to e
abbrev TreesSay : (s : List ℕ) (left p e : ℕ) → Bool → Type 0
TreesSay s left p e r = Says trees_bytes (λ ts. leb (depth_a ts) left) s p e r

abbrev LabelsSay : (s : List ℕ) (left p e : ℕ) → Bool → Type 0
LabelsSay s left p e r = Says labels_bytes (λ ls. leb (depth_l ls) left) s p e r

module _ (s : List ℕ) (left p e : ℕ) where
  pub trees_end : p ≡ e → TreesSay s left p e true
  unfolding depth
  trees_end q ts h = sym (ap (λ x. leb (depth_a x) left) (trees_none ts q h) ∙ le-leb 0 left (omega arith))

  pub labels_end : p ≡ e → LabelsSay s left p e true
  unfolding depth
  labels_end q ls h = sym (ap (λ x. leb (depth_l x) left) (labels_none ls q h) ∙ le-leb 0 left (omega arith))

  -- too few bytes for more levels than are left
  pub trees_short : (e - p + label_tag) / level_min ≤ left → TreesSay s left p e true
  trees_short q ts h = sym (le-leb (depth_a ts) left (omega (arith, trees_bytes_lem ts, h.ends, length_tree_fs ts)))

  -- where no level is left there may be no tree
  trees_level : (p ≡ e → ⊥) → left ≡ 0 → TreesSay s left p e false
  unfolding depth
  trees_level n z ts h =
      let a = trees_parts {m = field_end s p} ts refl n h in
      let d = tree_level a.first in
      sym (ap (λ x. leb (depth_a x) left) a.same ∙ lt-leb (max (depth a.first) (depth_a a.rest)) left (omega arith))

  pub no_level : left ≡ 0 → TreesSay s left p e (eqb p e)
  no_level z = go (eqb p e) refl
    where
      go : (b : Bool) → eqb p e ≡ b → TreesSay s left p e b
      go true q = trees_end (eqb-true p e q)
      go false q = trees_level (eqb-false p e q) z

  module _ (m : ℕ) (n : p ≡ e → ⊥) (g : m ≡ field_end s p) where
    -- the first tree, measured by its labels, and the rest
    module _ (l : ℕ) (f : l ≡ field_end s (p + 3)) (z : left ≡ 0 → ⊥) (o : Bool) (k : LabelsSay s (left - 1) l m o) where
      trees_first : (ts : Trees) (h : Is s p e (trees_bytes ts)) → leb (depth_a ts) left ≡ (o && leb (depth_a (trees_parts ts g n h).rest) left)
      unfolding depth
      trees_first ts h =
          let a = trees_parts ts g n h in
          ap (λ x. leb (depth_a x) left) a.same ∙ leb_max (depth a.first) (depth_a a.rest) left
          ∙ ap (λ x. x && leb (depth_a a.rest) left)
          (tree_levels a.first left z ∙ sym (k (labels a.first) (tree_parts a.first f a.first_is).labels_is))

      pub trees_deep : o ≡ false → TreesSay s left p e false
      trees_deep q ts h = sym (trees_first ts h ∙ ap (λ x. x && leb (depth_a (trees_parts ts g n h).rest) left) q)

      pub trees_next : o ≡ true → (r : Bool) → TreesSay s left m e r → TreesSay s left p e r
      trees_next q r j ts h =
          let a = trees_parts ts g n h in
          j a.rest a.rest_is ∙ sym (trees_first ts h ∙ ap (λ x. x && leb (depth_a a.rest) left) q)

    -- the array of the first label, and the others
    module _ (f : ℕ) (y : f ≡ trees_at s p) (o : Bool) (k : TreesSay s left f m o) where
      labels_first : (ls : Labels) (h : Is s p e (labels_bytes ls)) → leb (depth_l ls) left ≡ (o && leb (depth_l (labels_parts ls g n h).others) left)
      unfolding depth
      labels_first ls h =
          let a = labels_parts ls g n h in
          ap (λ x. leb (depth_l x) left) a.same ∙ leb_max (depth_a a.array) (depth_l a.others) left
          ∙ ap (λ x. x && leb (depth_l a.others) left) (sym (k a.array (subst (λ i. Is s i m (trees_bytes a.array)) (sym y) a.entry.array_is)))

      pub labels_deep : o ≡ false → LabelsSay s left p e false
      labels_deep q ls h = sym (labels_first ls h ∙ ap (λ x. x && leb (depth_l (labels_parts ls g n h).others) left) q)

      pub labels_next : o ≡ true → (r : Bool) → LabelsSay s left m e r → LabelsSay s left p e r
      labels_next q r j ls h =
          let a = labels_parts ls g n h in
          j a.others a.others_is ∙ sym (labels_first ls h ∙ ap (λ x. x && leb (depth_l a.others) left) q)

-- ---- a tree alone
