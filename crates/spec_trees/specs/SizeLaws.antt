-- The byte form of a tree or an array is as long as its size; what holds of a tree's parts; and the least size.
use Rattle.std.specs.Prelude.{◌≡◌, refl, List, [], ◌∷◌, map, ◌+◌, ◌*◌, ◌≤◌, length}
use Rattle.std.proofs.Common.{ap, arith, length-append}
use Rattle.spec_trees.specs.Tree.{Root, void, boolean, integer, text, Tree, node, Trees, ε, ◌▹◌, Labels, bare, label, list, trees}
use Rattle.spec_trees.specs.Size.{root_size, size, size_a, size_l, array_size}
use Rattle.spec_trees.specs.Bytes.{label_f, label_heads, label_of, field_bytes, bytes, root_f, tree_f, tree_fs, label_fs, array_f, tree_bytes, array_bytes}
use Rattle.spec_trees.specs.NumberLaws.{length_big}

pub trees_list : (a : Trees) → trees (list a) ≡ a
trees_list ε = refl
trees_list (t ▹ ts) = ap (λ x. t ▹ x) (trees_list ts)

pub list_trees : (a : List Tree) → list (trees a) ≡ a
list_trees [] = refl
list_trees (t ∷ ts) = ap (λ x. t ∷ x) (list_trees ts)

length_root_f : (r : Root) → 3 + length (root_f r).1 ≡ root_size r
unfolding root_f root_size
length_root_f void = refl
length_root_f (boolean b) = refl
length_root_f (integer z) = rw length_big refl
length_root_f (text s) = refl

mutual
  unfolding bytes tree_f size label_f label_heads label_of

  pub length_tree_f : (t : Tree) → 3 + length (tree_f t).1 ≡ size t
  length_tree_f (node r ls) = let h = length_root_f r in let q = length_label_fs ls in simp length-append (omega arith)

  pub length_tree_fs : (ts : Trees) → length (bytes (tree_fs ts)) ≡ size_a ts
  length_tree_fs ε = refl
  length_tree_fs (t ▹ ts) = let h = length_tree_f t in let q = length_tree_fs ts in simp length-append (omega arith)

  pub length_label_fs : (ls : Labels) → length (bytes (label_fs ls)) ≡ size_l ls
  length_label_fs bare = refl
  length_label_fs (label k a ls) = let h = length_tree_fs a in let q = length_label_fs ls in simp length-append (omega arith)

pub length_tree : (t : Tree) → length (tree_bytes t) ≡ size t
unfolding tree_bytes field_bytes
length_tree t = let h = length_tree_f t in omega arith

pub length_array : (ts : List Tree) → length (array_bytes ts) ≡ array_size ts
unfolding array_bytes array_f array_size field_bytes
length_array ts = let h = length_tree_fs (trees ts) in omega arith

-- the fields of an array are those of its trees
pub tree_fs_map : (ts : List Tree) → tree_fs (trees ts) ≡ map tree_f ts
unfolding tree_f
tree_fs_map [] = refl
tree_fs_map (t ∷ ts) = ap (λ fs. tree_f t ∷ fs) (tree_fs_map ts)

-- ---- a tree has six bytes or more
root_three : (r : Root) → 3 ≤ root_size r
unfolding root_size
root_three void = omega arith
root_three (boolean b) = omega arith
root_three (integer z) = omega arith
root_three (text s) = omega arith

pub tree_six : (t : Tree) → 6 ≤ size t
unfolding size
tree_six (node r ls) = omega (arith, root_three r)

pub six_each : (ts : List Tree) → 6 * length ts ≤ size_a (trees ts)
unfolding size_a
six_each [] = omega arith
six_each (t ∷ ts) = omega (arith, tree_six t, six_each ts)
