-- The proof of tquery_cli::respond::respond_in, by answers to its goals.
use Rattle.std.proofs.Common.{sym, arith, length-take-le}
use Rattle.tquery_cli.specs.RespondLaws.{answer_ready, responds}
use Rattle.tquery_cli.proofs.respond.respond_in.Goals as goal

pub slice_bounds-run-end : goal.slice_bounds-run-end
slice_bounds-run-end c =
    sym (length-take-le c.piece_end-m.result c.args.input.now (omega (arith, c.piece_end-m.ensures)))

pub write_answer-requires : goal.write_answer-requires
write_answer-requires c = answer_ready c.requires c.run-answer.ensures

pub returns : goal.returns
returns c = responds c.requires c.piece_end-m.ensures c.piece_end-n.ensures c.run-answer.ensures c.write_answer.ensures
