-- The proof of build::part::add_written, by answers to its goals.
use Rattle.build.specs.MadeLaws.{adding_ready, adds_part, adds_none}
use Rattle.build.proofs.part.add_written.Goals as goal
use Rattle.areas.specs.AreaLaws.{handed_on}

pub returns-in_err-e : goal.returns-in_err-e
returns-in_err-e c =
    rw (handed_on _ c.from_residual.result c.from_residual.ensures.1) (adds_none c.requires c.in_err-e.was)

pub add_part-requires : goal.add_part-requires
add_part-requires c = adding_ready c.requires c.in_ok-e.was

pub returns : goal.returns
returns c = adds_part c.requires c.in_ok-e.was c.add_part.ensures
