-- The proof of the cycle of criteria::criteria, by answers to its goals: by the reader's answer, what the parts say;
-- what is left of the nesting falls by one where parts are entered.
use Rattle.std.proofs.Common.{arith}
use Rattle.queries.specs.PartLaws.{holds_of}
use Rattle.criteria.specs.MeetsLaws.{left_positive, exists_walk, equal_walk, same_walk, negated_evaluable, both_evaluable, either_evaluable, always_meets, exists_meets, equal_meets, same_meets, negated_meets, both_meets, either_meets, both_first, both_second, either_first, either_second}
use Rattle.criteria.proofs.criteria.+judging.Goals as goal

pub holds-criterion_at-read-requires : goal.holds-criterion_at-read-requires
holds-criterion_at-read-requires t c = holds_of c.requires.criterion

pub holds-returns-in-Always : goal.holds-returns-in-Always
holds-returns-in-Always t c =
    always_meets c.args.query.now c.args.criterion c.args.area.now c.args.tree c.args.left c.criterion_at-read.ensures
    c.in-Always.is

pub holds-present-requires : goal.holds-present-requires
holds-present-requires t c =
    exists_walk c.args.query.now c.args.criterion c.args.area.now c.args.tree c.args.left c.criterion_at-read.ensures
    c.requires c.in-Exists.is

pub holds-returns-in-Exists : goal.holds-returns-in-Exists
holds-returns-in-Exists t c =
    exists_meets c.args.query.now c.args.criterion c.args.area.now c.args.tree c.args.left c.criterion_at-read.ensures
    c.in-Exists.is c.present.ensures

pub holds-path_equals_literal-requires : goal.holds-path_equals_literal-requires
holds-path_equals_literal-requires t c =
    equal_walk c.args.query.now c.args.criterion c.args.area.now c.args.tree c.args.left c.criterion_at-read.ensures
    c.requires c.in-Equal.is

pub holds-returns-in-Equal : goal.holds-returns-in-Equal
holds-returns-in-Equal t c =
    equal_meets c.args.query.now c.args.criterion c.args.area.now c.args.tree c.args.left c.criterion_at-read.ensures
    c.in-Equal.is c.path_equals_literal.ensures

pub holds-same_paths-requires : goal.holds-same_paths-requires
holds-same_paths-requires t c =
    same_walk c.args.query.now c.args.criterion c.args.area.now c.args.tree c.args.left c.criterion_at-read.ensures
    c.requires c.in-Same.is

pub holds-returns-in-Same : goal.holds-returns-in-Same
holds-returns-in-Same t c =
    same_meets c.args.query.now c.args.criterion c.args.area.now c.args.tree c.args.left c.criterion_at-read.ensures
    c.in-Same.is c.same_paths.ensures

pub holds-overflow_sub-left : goal.holds-overflow_sub-left
holds-overflow_sub-left t c = omega (arith, (left_positive c.requires))

pub holds-holds-requires : goal.holds-holds-requires
holds-holds-requires t c = (
  (omega (arith, c.decreases, (left_positive c.requires))),
  negated_evaluable c.args.query.now c.args.criterion
      c.args.area.now c.args.tree c.args.left c.criterion_at-read.ensures c.requires c.in-Negated.is,
)

pub holds-returns-in-Negated : goal.holds-returns-in-Negated
holds-returns-in-Negated t c =
    negated_meets c.args.query.now c.args.criterion c.args.area.now c.args.tree c.args.left c.criterion_at-read.ensures
    c.in-Negated.is c.holds.ensures

pub holds-overflow_sub-left-in-Both : goal.holds-overflow_sub-left-in-Both
holds-overflow_sub-left-in-Both t c = omega (arith, (left_positive c.requires))

pub holds-holds_both-requires : goal.holds-holds_both-requires
holds-holds_both-requires t c = (
  (omega (arith, c.decreases, (left_positive c.requires))),
  both_evaluable c.args.query.now c.args.criterion
      c.args.area.now c.args.tree c.args.left c.criterion_at-read.ensures c.requires c.in-Both.is,
)

pub holds-returns-in-Both : goal.holds-returns-in-Both
holds-returns-in-Both t c =
    both_meets c.args.query.now c.args.criterion c.args.area.now c.args.tree c.args.left c.criterion_at-read.ensures
    c.in-Both.is c.holds_both.ensures

pub holds-overflow_sub-left-in-Either : goal.holds-overflow_sub-left-in-Either
holds-overflow_sub-left-in-Either t c = omega (arith, (left_positive c.requires))

pub holds-holds_either-requires : goal.holds-holds_either-requires
holds-holds_either-requires t c = (
  (omega (arith, c.decreases, (left_positive c.requires))),
  either_evaluable c.args.query.now c.args.criterion
      c.args.area.now c.args.tree c.args.left c.criterion_at-read.ensures c.requires c.in-Either.is,
)

pub holds-returns-in-Either : goal.holds-returns-in-Either
holds-returns-in-Either t c =
    either_meets c.args.query.now c.args.criterion c.args.area.now c.args.tree c.args.left c.criterion_at-read.ensures
    c.in-Either.is c.holds_either.ensures

pub holds_both-holds-requires : goal.holds_both-holds-requires
holds_both-holds-requires t c = (omega (arith, c.decreases), c.requires.first)

pub holds_both-holds-requires-then-holds : goal.holds_both-holds-requires-then-holds
holds_both-holds-requires-then-holds t c = (omega (arith, c.decreases), c.requires.second)

pub holds_both-returns-then-holds : goal.holds_both-returns-then-holds
holds_both-returns-then-holds t c =
    both_second c.args.query.now c.args.one c.args.two c.args.area.now c.args.tree c.args.left c.holds.ensures
    c.if-holds.true c.holds-then-holds.ensures

pub holds_both-returns-else-holds : goal.holds_both-returns-else-holds
holds_both-returns-else-holds t c =
    both_first c.args.query.now c.args.one c.args.two c.args.area.now c.args.tree c.args.left c.holds.ensures
    c.if-holds.false

pub holds_either-holds-requires : goal.holds_either-holds-requires
holds_either-holds-requires t c = (omega (arith, c.decreases), c.requires.first)

pub holds_either-holds-requires-else-holds : goal.holds_either-holds-requires-else-holds
holds_either-holds-requires-else-holds t c = (omega (arith, c.decreases), c.requires.second)

pub holds_either-returns-then-holds : goal.holds_either-returns-then-holds
holds_either-returns-then-holds t c =
    either_first c.args.query.now c.args.one c.args.two c.args.area.now c.args.tree c.args.left c.holds.ensures
    c.if-holds.true

pub holds_either-returns-else-holds : goal.holds_either-returns-else-holds
holds_either-returns-else-holds t c =
    either_second c.args.query.now c.args.one c.args.two c.args.area.now c.args.tree c.args.left c.holds.ensures
    c.if-holds.false c.holds-else-holds.ensures
