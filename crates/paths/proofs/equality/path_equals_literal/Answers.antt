-- The proof of paths::equality::path_equals_literal, by answers to its goals.
use Rattle.spec_trees.specs.Tree.{trees}
use Rattle.spec_stages.specs.Paths.{apply}
use Rattle.paths.specs.SameLaws.{apply_allowed}
use Rattle.paths.specs.EqualLaws.{is_array_lem}
use Rattle.paths.proofs.equality.path_equals_literal.Goals as goal

pub operand-array-requires : goal.operand-array-requires
operand-array-requires c = c.requires.1

pub returns : goal.returns
returns c =
    λ path array t g oa l ot h. is_array_lem (apply path t) array (apply_allowed path t ot) oa (c.operand-array.ensures
    (trees array) l) (c.path_is.ensures path t g h)
