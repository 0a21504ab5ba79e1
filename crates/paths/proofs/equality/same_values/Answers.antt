-- The proof of paths::equality::same_values, by answers to its goals.
use Rattle.std.proofs.Common.{arith}
use Rattle.paths.specs.WalkLaws.{walk_room}
use Rattle.paths.specs.SameLaws.{apply_allowed}
use Rattle.paths.specs.EqualLaws.{walk_found}
use Rattle.paths.proofs.equality.same_values.Goals as goal

pub steps-requires : goal.steps-requires
steps-requires c = walk_room c.requires.0

pub piece-first-requires : goal.piece-first-requires
piece-first-requires c = (c.requires.0, (omega (arith, c.steps.ensures, c.if-steps-le1.true)))

pub piece-second-requires : goal.piece-second-requires
piece-second-requires c = (c.requires.1, (omega (arith, c.steps.ensures, c.if-steps-le1.true)))

pub same_found-requires : goal.same_found-requires
same_found-requires c = (walk_found c.requires.0 c.piece-first.ensures, walk_found c.requires.1 c.piece-second.ensures)

pub returns-then-steps-le1 : goal.returns-then-steps-le1
returns-then-steps-le1 c =
    λ path path2 t u g g2 ot h ou h2. c.same_found.ensures _ _ _ _ (c.piece-first.ensures path t g h)
    (c.piece-second.ensures path2 u g2 h2) (apply_allowed path t ot) (apply_allowed path2 u ou)
