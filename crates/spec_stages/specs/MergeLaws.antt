-- A well formed tree merged with the bare void tree, on either side, is that tree.
use Rattle.std.specs.Prelude.{◌≡◌, refl, ℕ}
use Rattle.std.proofs.Common.{ap}
use Rattle.spec_trees.specs.Options.{maybe}
use Rattle.spec_trees.specs.Tree.{Tree, node, Trees, Labels, bare, label, bare_void, find, put}
use Rattle.spec_trees.specs.Within.{Ok, OkL}
use Rattle.spec_trees.specs.OptionLaws.{ltb_yes}
use Rattle.spec_stages.specs.Merge.{merge_root, merge, merge_l}

-- a label below all others is put before them
put_low : (k : ℕ) (a : Trees) (ls : Labels) → OkL ls k → put k a ls ≡ label k a ls
unfolding put
put_low k a bare o = refl
put_low k a (label j b ls) o = rw (ltb_yes k j o.0) refl

merge_l_bare : (ls : Labels) (m : ℕ) → OkL ls m → merge_l ls bare ≡ ls
unfolding merge find maybe
merge_l_bare bare m o = refl
merge_l_bare (label k a ls) m o = rw (merge_l_bare ls k o.3) (put_low k a ls o.3)

pub merge_bare : (t : Tree) → Ok t → merge t bare_void ≡ t
unfolding merge merge_root
merge_bare (node r ls) o = ap (node r) (merge_l_bare ls 0 o.1)
