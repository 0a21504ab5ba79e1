-- The proof of paths::equality::same_keys, by answers to its goals.
use Rattle.std.proofs.Common.{arith}
use Rattle.paths.specs.WalkLaws.{walk_room}
use Rattle.paths.proofs.equality.same_keys.Goals as goal

pub steps-requires : goal.steps-requires
steps-requires c = walk_room c.requires.1

pub steps-requires-then-steps-le1 : goal.steps-requires-then-steps-le1
steps-requires-then-steps-le1 c = walk_room c.requires.0

pub same_pieces-requires : goal.same_pieces-requires
same_pieces-requires c = (
  c.requires.0,
  omega (arith, c.steps-then-steps-le1.ensures, c.if-steps-le1-2.true),
  c.requires.1,
  omega (
    arith,
    c.steps.ensures,
    c.if-steps-le1.true,
  ),
)
