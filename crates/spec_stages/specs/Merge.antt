-- Merge of s and t, and building a tree by merging parts, each tested.
use Rattle.std.specs.Prelude.{List, [], ◌∷◌, cond, ◌&&◌}
use Rattle.std.proofs.Math.Option.{Option, none, some}
use Rattle.spec_trees.specs.Options.{maybe}
use Rattle.spec_trees.specs.Tree.{Root, void, boolean, integer, text, Tree, node, Trees, ε, ◌▹◌, Labels, bare, label, root, labels, trees, find, put}
use Rattle.spec_trees.specs.Size.{fits}

-- the root of t unless void, then that of s
unfoldable pub merge_root : Root → Root → Root
merge_root r void = r
merge_root r (boolean b) = boolean b
merge_root r (integer z) = integer z
merge_root r (text s) = text s

unfoldable mutual
  pub merge : Tree → Tree → Tree
  merge (node r ls) t = node (merge_root r (root t)) (merge_l ls (labels t))

  -- position by position, the surplus of the longer kept
  pub merge_a : Trees → Trees → Trees
  merge_a ε ts = ts
  merge_a (s ▹ ss) ε = s ▹ ss
  merge_a (s ▹ ss) (t ▹ ts) = merge s t ▹ merge_a ss ts

  -- all labels of both; a label in both holds the arrays merged
  pub merge_l : Labels → Labels → Labels
  merge_l bare ms = ms
  merge_l (label k a ls) ms = put k (maybe a (λ b. merge_a a (trees b)) (find k ms)) (merge_l ls ms)

-- s merged with each part in turn; nothing, if a part on its own or the merge after it is too large
unfoldable pub build : Tree → List Tree → Option Tree
build s [] = some s
build s (t ∷ ts) = cond (fits t && fits (merge s t)) (build (merge s t) ts) none
