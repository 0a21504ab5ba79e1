-- The proof of merge::merge::merge_root, by answers to its goals.
use Rattle.std.proofs.Common.{arith}
use Rattle.merge.specs.MergeBytesLaws.{first_copied, second_copied, root_void, root_full, root_inside}
use Rattle.merge.proofs.merge.merge_root.Goals as goal

pub bounds-work-at : goal.bounds-work-at
bounds-work-at c = omega (arith, root_inside c.requires.second)

pub returns-then-work-at-eq3 : goal.returns-then-work-at-eq3
returns-then-work-at-eq3 c =
    first_copied (root_void c.args.work.now c.args.one.from c.args.one.to c.args.other.from c.args.other.to
    c.if-work-at-eq3.true) c.copy.ensures

pub returns-else-work-at-eq3 : goal.returns-else-work-at-eq3
returns-else-work-at-eq3 c =
    second_copied (root_full c.args.work.now c.args.one.from c.args.one.to c.args.other.from c.args.other.to
    c.if-work-at-eq3.false) c.copy-else-work-at-eq3.ensures
