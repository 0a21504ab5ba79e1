-- The merge as the code makes it: two places that move over rising labels. Nobody has to believe it: for well formed
-- trees it is `merge` (MergeTwoLaws).
use Rattle.std.specs.Prelude.{cond, ℕ, ltb}
use Rattle.spec_trees.specs.Tree.{Tree, node, Trees, ε, ◌▹◌, Labels, bare, label, root, labels}
use Rattle.spec_stages.specs.Merge.{merge_root}

-- label k with the array a, and the labels ls behind it, merged with labels: f merges a with an array, g merges ls
-- with labels
unfoldable pub into : ℕ → Trees → Labels → (Trees → Trees) → (Labels → Labels) → Labels → Labels
into k a ls f g bare = label k a ls
into k a ls f g (label j b ms) =
    cond (ltb k j) (label k a (g (label j b ms)))
    (cond (ltb j k) (label j b (into k a ls f g ms)) (label k (f b) (g ms)))

unfoldable mutual
  pub merge_two : Tree → Tree → Tree
  merge_two (node r ls) t = node (merge_root r (root t)) (merge_two_l ls (labels t))

  pub merge_two_a : Trees → Trees → Trees
  merge_two_a ε ts = ts
  merge_two_a (s ▹ ss) ε = s ▹ ss
  merge_two_a (s ▹ ss) (t ▹ ts) = merge_two s t ▹ merge_two_a ss ts

  pub merge_two_l : Labels → Labels → Labels
  merge_two_l bare ms = ms
  merge_two_l (label k a ls) ms = into k a ls (λ b. merge_two_a a b) (λ x. merge_two_l ls x) ms

-- a label with its array
abbrev pub Entry : Type 0
Entry = ℕ × Trees

unfoldable pub merge_entry : Entry → Entry → Entry
merge_entry x y = (x.0, merge_two_a x.1 y.1)

-- the first entry of a merge: the one with the lesser label, or the two merged
unfoldable pub merge_first : Entry → Entry → Entry
merge_first x y = cond (ltb x.0 y.0) x (cond (ltb y.0 x.0) y (merge_entry x y))
