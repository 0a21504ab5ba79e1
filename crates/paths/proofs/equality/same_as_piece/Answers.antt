-- The proof of paths::equality::same_as_piece, by answers to its goals.
use Rattle.spec_stages.specs.Paths.{apply}
use Rattle.paths.specs.SameLaws.{apply_allowed}
use Rattle.paths.specs.EqualLaws.{piece_missing, piece_same}
use Rattle.paths.proofs.equality.same_as_piece.Goals as goal

pub returns-in_default : goal.returns-in_default
returns-in_default c =
    λ path path2 t u g g2 ot h ou h2. piece_missing (apply path t) (c.piece.ensures path2 u g2 h2) c.in_default.is
    (c.present.ensures path t g h)

pub operand-array-requires : goal.operand-array-requires
operand-array-requires c =
    record {
      value = ((c.piece.ensures c.requires.1.path.value c.requires.1.stands.value
          c.requires.1.path.value_is c.requires.1.stands.value_is).part _ c.in-Some.is).array;
      value_is =
          ((c.piece.ensures c.requires.1.path.value c.requires.1.stands.value c.requires.1.path.value_is
          c.requires.1.stands.value_is).part _ c.in-Some.is).array_is;
    }

pub returns : goal.returns
returns c =
    λ path path2 t u g g2 ot h ou h2. piece_same (apply path t) (c.piece.ensures path2 u g2 h2) c.in-Some.is
    c.operand-array.ensures (apply_allowed path t ot) (apply_allowed path2 u ou) (c.path_is.ensures path t g h)
