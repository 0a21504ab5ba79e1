-- The proof of totals::over::sum_path, by answers to its goals.
use Rattle.std.proofs.Common.{arith}
use Rattle.paths.specs.WalkLaws.{walk_room}
use Rattle.totals.specs.SumLaws.{summed_same, summed_within, ready_within}
use Rattle.totals.specs.SumPathLaws.{found_missing, found_piece, found_places}
use Rattle.totals.proofs.over.sum_path.Goals as goal

pub steps-requires : goal.steps-requires
steps-requires c = walk_room c.requires.0

pub returns-in_default : goal.returns-in_default
returns-in_default c = (
  summed_same c.args.tree.from c.args.tree.to c.requires.1.sound (omega (arith, c.requires.0.stands.value_is.ends)),
  λ path t g h. found_missing c.args.total (c.piece.ensures path t g h) c.in_default.is,
)

pub sum_trees-requires : goal.sum_trees-requires
sum_trees-requires c = (
  record {
    value = ((c.piece.ensures c.requires.0.path.value c.requires.0.stands.value
        c.requires.0.path.value_is c.requires.0.stands.value_is).part _ c.in-Some.is).array;
    value_is =
        ((c.piece.ensures c.requires.0.path.value c.requires.0.stands.value c.requires.0.path.value_is
        c.requires.0.stands.value_is).part _ c.in-Some.is).array_is;
  },
  ready_within (found_places ((c.piece.ensures
      c.requires.0.path.value c.requires.0.stands.value c.requires.0.path.value_is c.requires.0.stands.value_is).part _
      c.in-Some.is)) c.requires.1,
)

pub returns-then-steps-le1 : goal.returns-then-steps-le1
returns-then-steps-le1 c = (
  summed_within (found_places ((c.piece.ensures c.requires.0.path.value c.requires.0.stands.value
      c.requires.0.path.value_is c.requires.0.stands.value_is).part _ c.in-Some.is)) c.sum_trees.ensures.0,
  λ path t g h.
      found_piece c.args.total (c.piece.ensures path t g h) c.in-Some.is c.sum_trees.ensures.1,
)
