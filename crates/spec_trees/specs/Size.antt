-- Depth and size of trees and arrays, and "too large". Sizes are counted as numbers, also where two length bytes
-- would not hold them.
use Rattle.std.specs.Prelude.{List, Bool, ◌&&◌, ℕ, suc, ◌+◌, max, length, leb}
use Rattle.spec_trees.specs.Limits.{tree_max, depth_max}
use Rattle.spec_trees.specs.Bytes.{label_heads}
use Rattle.spec_trees.specs.Tree.{Root, void, boolean, integer, text, Tree, node, Trees, ε, ◌▹◌, Labels, bare, label, trees}

-- a tree alone has depth 1, and those under a label are one deeper
unfoldable mutual
  pub depth : Tree → ℕ
  depth (node r ls) = suc (depth_l ls)

  pub depth_a : Trees → ℕ
  depth_a ε = 0
  depth_a (t ▹ ts) = max (depth t) (depth_a ts)

  pub depth_l : Labels → ℕ
  depth_l bare = 0
  depth_l (label k a ls) = max (depth_a a) (depth_l ls)

-- ---- sizes: the lengths of the byte forms, as `length_tree` and `length_array` of SizeLaws say
unfoldable pub root_size : Root → ℕ
root_size void = 3
root_size (boolean b) = 4
root_size (integer z) = 11
root_size (text s) = 3 + length s

unfoldable mutual
  pub size : Tree → ℕ
  size (node r ls) = 3 + (root_size r + size_l ls)

  -- the trees of an array, without the array's head
  pub size_a : Trees → ℕ
  size_a ε = 0
  size_a (t ▹ ts) = size t + size_a ts

  pub size_l : Labels → ℕ
  size_l bare = 0
  size_l (label k a ls) = label_heads k + size_a a + size_l ls

-- a list, as an array
unfoldable pub array_size : List Tree → ℕ
array_size ts = 3 + size_a (trees ts)

-- not "too large", which is document 01's term for a tree that passes 2,048 bytes or depth 16
unfoldable pub fits : Tree → Bool
fits t = leb (size t) tree_max && leb (depth t) depth_max
