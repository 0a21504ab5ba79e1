-- The proof of stream::collector::append, by answers to its goals.
use Rattle.std.proofs.Common.{arith}
use Rattle.stream.specs.CollectorLaws as law
use Rattle.stream.proofs.collector.append.Goals as goal

pub overflow_add-room : goal.overflow_add-room
overflow_add-room c = omega (arith, (law.room_of c.requires))

pub copy-requires : goal.copy-requires
copy-requires c = (
  omega arith,
  omega (arith, c.requires.fits, c.requires.wide),
  omega (arith, (law.room_of c.requires)),
  omega
      (arith, c.requires.wide),
)

pub returns-in_default : goal.returns-in_default
returns-in_default c = law.overflowed c.requires c.copy.auto.work c.copy.ensures c.in_default.is

pub overflow_sub-result : goal.overflow_sub-result
overflow_sub-result c = law.appended_end c.requires c.copy.auto.work c.copy.ensures c.in-Ok.is

pub overflow_cast-result : goal.overflow_cast-result
overflow_cast-result c = omega (arith, law.appended_short c.requires c.copy.auto.work c.copy.ensures c.in-Ok.is)

pub returns : goal.returns
returns c = law.appended c.requires c.copy.auto.work c.copy.ensures c.in-Ok.is
