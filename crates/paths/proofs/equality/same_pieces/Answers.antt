-- The proof of paths::equality::same_pieces, by answers to its goals.
use Rattle.paths.specs.SameLaws.{apply_allowed}
use Rattle.paths.specs.EqualLaws.{walk_found}
use Rattle.paths.proofs.equality.same_pieces.Goals as goal

pub same_found-requires : goal.same_found-requires
same_found-requires c = (walk_found c.requires.0 c.piece-first.ensures, walk_found c.requires.2 c.piece-second.ensures)

pub returns : goal.returns
returns c =
    λ path path2 t u g g2 ot h ou h2. c.same_found.ensures _ _ _ _ (c.piece-first.ensures path t g h)
    (c.piece-second.ensures path2 u g2 h2) (apply_allowed path t ot) (apply_allowed path2 u ou)
