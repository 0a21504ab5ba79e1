-- The proof of build::build::add_part, by answers to its goals: what each test says of the trees that stand there.
use Rattle.std.proofs.Common.{subst}
use Rattle.build.specs.Build.{DepthSaid}
use Rattle.build.specs.Behind.{GoesBehind}
use Rattle.build.specs.BuildLaws.{standing_one, part_deep}
use Rattle.build.proofs.build.add_part.Goals as goal

pub within_depth-requires : goal.within_depth-requires
within_depth-requires c = standing_one c.requires.part

pub returns-then-not-within_depth : goal.returns-then-not-within_depth
returns-then-not-within_depth c = part_deep c.requires c.within_depth.ensures (c.if-not-within_depth.true)

pub goes_behind-requires : goal.goes_behind-requires
goes_behind-requires c = (
  record { value = c.requires.whole.tree; value_is = c.requires.whole.tree_is },
  record {
    value =
        c.requires.part.tree;
    value_is = c.requires.part.tree_is;
  },
)

pub append_part-requires : goal.append_part-requires
append_part-requires c = (
  c.requires,
  (subst (DepthSaid c.args.work.now c.args.part) (c.if-not-within_depth.false) c.within_depth.ensures),
  subst (GoesBehind c.args.work.now c.args.built c.args.part) c.if-goes_behind.true c.goes_behind.ensures,
)

pub merge_part-requires : goal.merge_part-requires
merge_part-requires c =
    (c.requires, (subst (DepthSaid c.args.work.now c.args.part) (c.if-not-within_depth.false) c.within_depth.ensures))
