-- The proof of paths::equality::same_found, by answers to its goals.
use Rattle.std.proofs.Common.{arith, rules}
use Rattle.paths.specs.EqualLaws.{pieces_missing, pieces_other, pieces_same}
use Rattle.paths.proofs.equality.same_found.Goals as goal

pub returns-in_default : goal.returns-in_default
returns-in_default c = λ x y at at2 h k ox oy. pieces_missing h k c.in_default.is (search rules)

pub returns-in_default-first : goal.returns-in_default-first
returns-in_default-first c = λ x y at at2 h k ox oy. pieces_other h k c.in-Some.is ox oy c.in_default-first.is

pub slice_bounds-same_bytes-count : goal.slice_bounds-same_bytes-count
slice_bounds-same_bytes-count c = omega (arith, (c.requires.0 _ c.in-Some-first.is))

pub slice_bounds-same_bytes-start : goal.slice_bounds-same_bytes-start
slice_bounds-same_bytes-start c = omega (arith, (c.requires.0 _ c.in-Some-first.is))

pub slice_bounds-same_bytes-end : goal.slice_bounds-same_bytes-end
slice_bounds-same_bytes-end c = omega (arith, (c.requires.0 _ c.in-Some-first.is))

pub slice_bounds-same_bytes-count-2 : goal.slice_bounds-same_bytes-count-2
slice_bounds-same_bytes-count-2 c = omega (arith, (c.requires.1 _ c.in-Some.is))

pub slice_bounds-same_bytes-start-2 : goal.slice_bounds-same_bytes-start-2
slice_bounds-same_bytes-start-2 c = omega (arith, (c.requires.1 _ c.in-Some.is))

pub slice_bounds-same_bytes-end-2 : goal.slice_bounds-same_bytes-end-2
slice_bounds-same_bytes-end-2 c = omega (arith, (c.requires.1 _ c.in-Some.is))

pub returns : goal.returns
returns c = λ x y at at2 h k ox oy. pieces_same h k c.in-Some.is ox oy c.in-Some-first.is c.same_bytes.ensures
