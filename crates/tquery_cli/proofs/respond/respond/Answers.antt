-- The proof of tquery_cli::respond::respond, by answers to its goals.
use Rattle.std.proofs.Common.{arith}
use Rattle.tquery_cli.specs.RespondLaws.{areas_ready, read_first}
use Rattle.tquery_cli.proofs.respond.respond.Goals as goal

pub respond_in-requires : goal.respond_in-requires
respond_in-requires c = areas_ready c.args.input.now c.read_part.ensures (omega (arith, c.well_formed))

pub returns : goal.returns
returns c = read_first c.args.input.now c.read_part.ensures c.respond_in.ensures
