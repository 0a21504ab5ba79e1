-- The proof of merge::merge::merge_tree, by answers to its goals: of well formed trees the merge by two places is the
-- merge.
use Rattle.std.proofs.Common.{subst}
use Rattle.spec_trees.specs.Bytes.{tree_bytes}
use Rattle.areas.specs.Area.{Wrote}
use Rattle.spec_stages.specs.MergeTwoLaws.{two_merge}
use Rattle.merge.proofs.merge.merge_tree.Goals as goal

pub returns : goal.returns
returns c =
    λ x y ox oy hx hy. subst (λ z. Wrote c.args.work.now c.merge_node.new.work c.args.room.from c.args.room.to
    (tree_bytes z) c.merge_node.result) (two_merge x y ox oy) (c.merge_node.ensures x y hx hy)
