-- The proof of tquery_cli::respond::write_answer, by answers to its goals.
use Rattle.std.proofs.Common.{sym}
use Rattle.tquery_cli.specs.RespondLaws.{show_length, show_room, show_result, show_refusal, refusal_small}
use Rattle.tquery_cli.proofs.respond.write_answer.Goals as goal

pub slice_bounds-write_hex-end : goal.slice_bounds-write_hex-end
slice_bounds-write_hex-end c = sym (show_length c.requires c.in-Ok.is)

pub write_hex-requires : goal.write_hex-requires
write_hex-requires c = show_room c.requires c.in-Ok.is

pub write_refused-requires : goal.write_refused-requires
write_refused-requires c = (c.requires.refusal, refusal_small c.in-Err.r c.refusal_number.ensures)

pub returns-in-Ok : goal.returns-in-Ok
returns-in-Ok c = show_result c.in-Ok.is c.write_hex.ensures

pub returns-in-Err : goal.returns-in-Err
returns-in-Err c = show_refusal c.in-Err.is c.refusal_number.ensures c.write_refused.ensures
