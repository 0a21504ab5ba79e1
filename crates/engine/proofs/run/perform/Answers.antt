-- The proof of engine::run::perform, by answers to its goals.
use Rattle.std.proofs.Common.{◌∙◌}
use Rattle.engine.specs.PerformLaws.{runs_finish, runs_lines, runs_perform}
use Rattle.engine.proofs.run.perform.Goals as goal

pub finish-answer-requires : goal.finish-answer-requires
finish-answer-requires c = runs_finish c.all-ended.ensures c.requires.0

pub write_positions-requires : goal.write_positions-requires
write_positions-requires c =
    runs_lines c.all-ended.ensures c.args.res.now c.finish-answer.ensures c.requires.0 (c.all-ended.auto.work ∙
    c.requires.1) c.requires.2

pub returns : goal.returns
returns c =
    runs_perform c.all-ended.ensures c.args.res.now c.finish-answer.ensures c.args.positions.now
    c.write_positions.ensures
