-- The proof of paths::path::stands_at, by answers to its goals.
use Rattle.std.proofs.Common.{arith}
use Rattle.paths.specs.ComparedLaws.{stands_short, stands_same, stands_other}
use Rattle.paths.proofs.path.stands_at.Goals as goal

pub returns-then-other-at : goal.returns-then-other-at
returns-then-other-at c =
    stands_short c.args.area.now c.args.part.from c.args.part.to c.args.other.now c.args.at c.requires.0 c.requires.1
    c.requires.2 c.if-other-at.true

pub returns-then-same_bytes : goal.returns-then-same_bytes
returns-then-same_bytes c =
    stands_same c.args.area.now c.args.part.from c.args.part.to c.args.other.now c.args.at c.requires.0 c.requires.1
    c.requires.2 (omega arith) c.same_bytes.ensures c.if-same_bytes.true

pub returns : goal.returns
returns c =
    stands_other c.args.area.now c.args.part.from c.args.part.to c.args.other.now c.args.at c.requires.0 c.requires.1
    c.requires.2 (omega arith) c.same_bytes.ensures c.if-same_bytes.false
