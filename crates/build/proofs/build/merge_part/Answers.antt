-- The proof of build::build::merge_part, by answers to its goals: what each test says of the trees that stand there.
use Rattle.std.proofs.Common.{arith, refl}
use Rattle.build.specs.BuildLaws.{addable_ready, merge_large, merge_one, merge_ends, merge_deep, merge_moved}
use Rattle.build.proofs.build.merge_part.Goals as goal
use Rattle.areas.specs.AreaLaws.{handed_on}

pub overflow_add-stop : goal.overflow_add-stop
overflow_add-stop c = omega arith

pub merge_tree-requires : goal.merge_tree-requires
merge_tree-requires c = addable_ready c.requires.0

pub returns-in_err-e : goal.returns-in_err-e
returns-in_err-e c =
    rw (handed_on _ c.from_residual.result c.from_residual.ensures.1) (merge_large c.requires.0 c.requires.1 refl c.merge_tree.ensures c.in_err-e.was)

pub within_depth-requires : goal.within_depth-requires
within_depth-requires c = merge_one c.requires.0 c.requires.1 refl c.merge_tree.ensures c.in_ok-e.was

pub returns-then-not-within_depth : goal.returns-then-not-within_depth
returns-then-not-within_depth c =
    merge_deep c.requires.0 c.requires.1 refl c.merge_tree.ensures c.in_ok-e.was c.within_depth.ensures
    (c.if-not-within_depth.true)

pub move_down-requires : goal.move_down-requires
move_down-requires c =
    let n = merge_ends c.requires.0 c.requires.1 refl c.merge_tree.ensures c.in_ok-e.was in
    (n.0, n.1, omega (arith, c.merge_tree.auto.work))

pub overflow_sub-result : goal.overflow_sub-result
overflow_sub-result c =
    let n = merge_ends c.requires.0 c.requires.1 refl c.merge_tree.ensures c.in_ok-e.was in
    omega arith

pub returns : goal.returns
returns c =
    merge_moved c.requires.0 c.requires.1 refl c.merge_tree.ensures c.in_ok-e.was c.within_depth.ensures
    (c.if-not-within_depth.false) c.move_down.ensures
