-- The proof of paths::hash::hash_tree, by answers to its goals: with the bytes from `at` on the number is that with all
-- the last bytes.
use Rattle.std.proofs.Common.{arith, refl, ◌∙◌}
use Rattle.paths.specs.HashLaws.{bytes_end, bytes_next, tree_last}
use Rattle.paths.specs.ComparedLaws.{holds_span}
use Rattle.paths.proofs.hash.hash_tree.Goals as goal

pub last_bytes-from-requires : goal.last_bytes-from-requires
last_bytes-from-requires c = (holds_span c.requires.0).0

pub loop-at-init : goal.loop-at-init
loop-at-init c = (omega (arith, (holds_span c.requires.0), c.last_bytes-from.ensures), c.requires.1, refl)

pub bounds-area-at : goal.bounds-area-at
bounds-area-at c = omega (arith, (holds_span c.requires.0), c.loop-at-test.true)

pub hash_byte-h-requires : goal.hash_byte-h-requires
hash_byte-h-requires c = c.loop-at.invariant.1

pub loop-at-preserved : goal.loop-at-preserved
loop-at-preserved c = (
  omega arith,
  c.hash_byte-h.ensures.0,
  bytes_next c.args.area.now c.loop-at.at c.args.tree.to c.loop-at.h
      c.loop-at-test.true (holds_span c.requires.0).1 c.hash_byte-h.ensures.1 ∙ c.loop-at.invariant.2,
)

pub returns : goal.returns
returns c = (
  c.loop-at.invariant.1,
  tree_last c.args.number c.last_bytes-from.ensures (bytes_end c.args.area.now c.loop-at.at
      c.args.tree.to c.loop-at.h (omega arith) c.loop-at.invariant.0 ∙ c.loop-at.invariant.2),
)
