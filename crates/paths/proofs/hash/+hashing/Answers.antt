-- The proof of the cycle of paths::hash that folds what a path gives, by answers to its goals: what is right for the
-- trees from `at` on, with the number so far, is right for all.
use Rattle.std.proofs.Common.{arith, ◌≡◌, refl, ◌∙◌}
use Rattle.queries.specs.StepLaws.{steps_fewer}
use Rattle.paths.specs.Walk.{given}
use Rattle.paths.specs.WalkLaws.{tells_end, tells_missing, tells_part, over_given, walk_inside, walk_room, walk_part, walk_first, walk_rest, walk_places, step_left}
use Rattle.paths.specs.Hash.{trees_hash}
use Rattle.paths.specs.HashLaws.{hash_one, hash_none, hash_end, hash_next}
use Rattle.paths.proofs.hash.+hashing.Goals as goal

pub hash_over-loop-at-init : goal.hash_over-loop-at-init
hash_over-loop-at-init t c = (c.requires.0, c.requires.1, λ k f. f)

pub hash_over-field_end-m-requires : goal.hash_over-field_end-m-requires
hash_over-field_end-m-requires t c = omega (arith, walk_places c.loop-at.invariant.0 c.loop-at-test.true refl)

pub hash_over-hash_walk-h-requires : goal.hash_over-hash_walk-h-requires
hash_over-hash_walk-h-requires t c = (
  omega (arith, c.decreases),
  (
    walk_first c.loop-at.invariant.0 c.loop-at-test.true c.field_end-m.ensures,
    omega
        (arith, c.loop-at.invariant.1, c.requires.1),
  ),
)

pub hash_over-loop-at-smaller : goal.hash_over-loop-at-smaller
hash_over-loop-at-smaller t c =
    omega (arith, walk_places c.loop-at.invariant.0 c.loop-at-test.true c.field_end-m.ensures)

pub hash_over-loop-at-preserved : goal.hash_over-loop-at-preserved
hash_over-loop-at-preserved t c = (
  walk_rest c.loop-at.invariant.0 c.loop-at-test.true c.field_end-m.ensures,
  c.hash_walk-h.ensures.0,
  λ k f.
      c.loop-at.invariant.2 k (hash_next c.args.query.now c.args.path c.args.i c.args.area.now c.loop-at.at
      c.args.trees.to c.loop-at.h c.loop-at-test.true c.field_end-m.ensures c.hash_walk-h.ensures.1 k f),
)

pub hash_over-returns : goal.hash_over-returns
hash_over-returns t c = (
  c.loop-at.invariant.1,
  over_given c.args.query.now c.args.path c.args.i c.args.area.now c.args.trees.from
      c.args.trees.to (λ l. c.loop-at.h ≡ trees_hash c.args.number l) (c.loop-at.invariant.2 c.loop-at.h (hash_end
      c.args.query.now c.args.path c.args.i c.args.area.now c.loop-at.at c.args.trees.to c.loop-at.h
      c.loop-at-test.false)),
)

pub hash_walk-steps-requires : goal.hash_walk-steps-requires
hash_walk-steps-requires t c = walk_room c.requires.0

pub hash_walk-hash_tree-requires : goal.hash_walk-hash_tree-requires
hash_walk-hash_tree-requires t c = (c.requires.0.stands, c.requires.1)

pub hash_walk-returns-then-i-steps : goal.hash_walk-returns-then-i-steps
hash_walk-returns-then-i-steps t c = (
  c.hash_tree.ensures.0,
  tells_end c.args.query.now c.args.path c.args.i c.args.area.now c.args.tree.from
      c.args.tree.to (λ x. c.hash_tree.result ≡ trees_hash c.args.number (given x)) (c.if-i-steps.true ∙ c.steps.ensures)
      (hash_one c.args.number c.hash_tree.ensures.1),
)

pub hash_walk-under-requires : goal.hash_walk-under-requires
hash_walk-under-requires t c =
    (walk_inside c.requires.0 (step_left c.requires.0 c.steps.ensures c.if-i-steps.false), c.requires.0.stands)

pub hash_walk-returns-in_default : goal.hash_walk-returns-in_default
hash_walk-returns-in_default t c = (
  c.requires.1,
  tells_missing c.args.query.now c.args.path c.args.i c.args.area.now c.args.tree.from c.args.tree.to
      (λ x. c.args.number ≡ trees_hash c.args.number (given x)) (step_left c.requires.0 c.steps.ensures
      c.if-i-steps.false) c.under.ensures c.in_default.is (hash_none c.args.number),
)

pub hash_walk-overflow_add-i : goal.hash_walk-overflow_add-i
hash_walk-overflow_add-i t c =
    omega (
      arith,
      (step_left c.requires.0 c.steps.ensures c.if-i-steps.false),
      (steps_fewer c.args.query.now
          c.args.path),
    )

pub hash_walk-hash_over-requires : goal.hash_walk-hash_over-requires
hash_walk-hash_over-requires t c = (
  omega (
    arith,
    c.decreases,
    (step_left c.requires.0 c.steps.ensures c.if-i-steps.false),
    (steps_fewer
        c.args.query.now c.args.path),
  ),
  (
    walk_part c.requires.0 (step_left c.requires.0 c.steps.ensures c.if-i-steps.false)
        c.under.ensures c.in-Some.is,
    c.requires.1,
  ),
)

pub hash_walk-returns : goal.hash_walk-returns
hash_walk-returns t c = (
  c.hash_over.ensures.0,
  tells_part c.args.query.now c.args.path c.args.i c.args.area.now c.args.tree.from
      c.args.tree.to (λ x. c.hash_over.result ≡ trees_hash c.args.number (given x)) (step_left c.requires.0
      c.steps.ensures c.if-i-steps.false) c.under.ensures c.in-Some.is c.hash_over.ensures.1,
)
