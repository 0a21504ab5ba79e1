-- The proof of paths::path::under, by answers to its goals.
use Rattle.std.proofs.Common.{arith, refl}
use Rattle.format.specs.StandLaws.{tree_places, holds_labels}
use Rattle.paths.specs.WalkLaws.{under_found}
use Rattle.paths.proofs.path.under.Goals as goal

pub field_end-l-requires : goal.field_end-l-requires
field_end-l-requires c = omega (arith, tree_places c.requires.1 refl)

pub find-requires : goal.find-requires
find-requires c = holds_labels c.requires.1 c.field_end-l.ensures

pub returns : goal.returns
returns c =
    under_found c.args.query.now c.args.path c.args.i c.args.area.now c.args.tree.from c.args.tree.to c.find.result
    c.field_end-l.ensures c.step_at.ensures c.find.ensures
