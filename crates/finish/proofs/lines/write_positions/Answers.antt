-- The proof of finish::lines::write_positions, by answers to its goals.
use Rattle.std.proofs.Common.{arith}
use Rattle.finish.specs.LinesLaws.{entries_ready, entries_lines, refused_lines}
use Rattle.finish.proofs.lines.write_positions.Goals as goal

pub overflow_sub-n : goal.overflow_sub-n
overflow_sub-n c =
    let low = (entries_ready c.in-Ok.is c.requires).0 in
    omega (arith, low)

pub write_entries-requires : goal.write_entries-requires
write_entries-requires c =
    ((entries_ready c.in-Ok.is c.requires).1, (entries_ready c.in-Ok.is c.requires).2)

pub returns-in-Ok : goal.returns-in-Ok
returns-in-Ok c = entries_lines c.in-Ok.is c.write_entries.ensures

pub returns-in-Err : goal.returns-in-Err
returns-in-Err c = refused_lines c.args.positions.now c.in-Err.is c.clear_entries.ensures
