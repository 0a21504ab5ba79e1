-- The proof of paths::equality::same_nth, by answers to its goals.
use Rattle.std.proofs.Common.{arith}
use Rattle.paths.specs.ElementLaws.{element_span}
use Rattle.paths.specs.EqualLaws.{nth_same, nth_fewer}
use Rattle.paths.proofs.equality.same_nth.Goals as goal

pub returns-in_default : goal.returns-in_default
returns-in_default c =
    λ path t g h path2 u g2 h2 l l2. absurd (nth_fewer (c.nth.ensures path t g h) c.in_default.is l)

pub returns-in_default-nth : goal.returns-in_default-nth
returns-in_default-nth c =
    λ path t g h path2 u g2 h2 l l2. absurd (nth_fewer (c.nth-2.ensures path2 u g2 h2) c.in_default-nth.is l2)

pub slice_bounds-same_bytes-count : goal.slice_bounds-same_bytes-count
slice_bounds-same_bytes-count c = omega (arith, (element_span c.requires.0 c.nth.ensures c.in-Ok.is))

pub slice_bounds-same_bytes-start : goal.slice_bounds-same_bytes-start
slice_bounds-same_bytes-start c = omega (arith, (element_span c.requires.0 c.nth.ensures c.in-Ok.is))

pub slice_bounds-same_bytes-end : goal.slice_bounds-same_bytes-end
slice_bounds-same_bytes-end c = omega (arith, (element_span c.requires.0 c.nth.ensures c.in-Ok.is))

pub slice_bounds-same_bytes-count-2 : goal.slice_bounds-same_bytes-count-2
slice_bounds-same_bytes-count-2 c = omega (arith, (element_span c.requires.1 c.nth-2.ensures c.in-Ok-nth.is))

pub slice_bounds-same_bytes-start-2 : goal.slice_bounds-same_bytes-start-2
slice_bounds-same_bytes-start-2 c = omega (arith, (element_span c.requires.1 c.nth-2.ensures c.in-Ok-nth.is))

pub slice_bounds-same_bytes-end-2 : goal.slice_bounds-same_bytes-end-2
slice_bounds-same_bytes-end-2 c = omega (arith, (element_span c.requires.1 c.nth-2.ensures c.in-Ok-nth.is))

pub returns : goal.returns
returns c =
    λ path t g h path2 u g2 h2 l l2. nth_same (c.nth.ensures path t g h) (c.nth-2.ensures path2 u g2 h2)
    c.in-Ok.is c.in-Ok-nth.is c.same_bytes.ensures
