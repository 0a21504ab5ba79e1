-- The proof of paths::path::piece, by answers to its goals.
use Rattle.std.proofs.Common.{sym, ◌∙◌}
use Rattle.paths.specs.WalkLaws.{step_left, walk_inside, walk_room}
use Rattle.paths.specs.OperandLaws.{piece_whole, piece_under}
use Rattle.paths.proofs.path.piece.Goals as goal

pub steps-requires : goal.steps-requires
steps-requires c = walk_room c.requires.0

pub returns-then-steps-eq0 : goal.returns-then-steps-eq0
returns-then-steps-eq0 c =
    piece_whole c.args.query.now c.args.path c.args.area.now c.args.tree.from c.args.tree.to (sym c.if-steps-eq0.true ∙
    c.steps.ensures)

pub under-requires : goal.under-requires
under-requires c = (
  walk_inside c.requires.0 (step_left c.requires.0 c.steps.ensures (λ z. c.if-steps-eq0.false (sym z))),
  c.requires.0.stands,
)

pub returns : goal.returns
returns c =
    piece_under c.args.query.now c.args.path c.args.area.now c.args.tree.from c.args.tree.to (step_left c.requires.0
    c.steps.ensures (λ z. c.if-steps-eq0.false (sym z))) c.requires.1 c.under.ensures
