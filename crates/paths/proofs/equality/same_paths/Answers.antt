-- The proof of paths::equality::same_paths, by answers to its goals.
use Rattle.std.proofs.Common.{arith, ◌∙◌}
use Rattle.spec_stages.specs.Paths.{apply}
use Rattle.paths.specs.WalkLaws.{walk_room}
use Rattle.paths.specs.SameLaws.{same_turned}
use Rattle.paths.proofs.equality.same_paths.Goals as goal

pub steps-requires : goal.steps-requires
steps-requires c = walk_room c.requires.1

pub same_as_piece-requires : goal.same_as_piece-requires
same_as_piece-requires c = (c.requires.0, c.requires.1, omega (arith, c.steps.ensures, c.if-steps-le1.true))

pub steps-requires-2 : goal.steps-requires-2
steps-requires-2 c = walk_room c.requires.0

pub same_as_piece-requires-then-steps-le1-2 : goal.same_as_piece-requires-then-steps-le1-2
same_as_piece-requires-then-steps-le1-2 c =
    (c.requires.1, c.requires.0, omega (arith, c.steps-2.ensures, c.if-steps-le1-2.true))

pub returns-then-steps-le1-2 : goal.returns-then-steps-le1-2
returns-then-steps-le1-2 c =
    λ path path2 t u g g2 ot h ou h2. c.same_as_piece-then-steps-le1-2.ensures path2 path u t g2 g ou h2 ot h ∙
    same_turned (apply path2 u) (apply path t)
