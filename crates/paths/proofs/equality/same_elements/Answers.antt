-- The proof of paths::equality::same_elements, by answers to its goals: the trees before j are the same.
use Rattle.std.proofs.Common.{arith, sym, ◌∙◌}
use Rattle.spec_stages.specs.Paths.{apply}
use Rattle.paths.specs.Walk.{given}
use Rattle.paths.specs.EqualLaws.{elements_count, elements_other, elements_more, elements_all}
use Rattle.paths.proofs.equality.same_elements.Goals as goal

pub count-n-requires : goal.count-n-requires
count-n-requires c = c.requires.0

pub count-requires : goal.count-requires
count-requires c = c.requires.1

pub returns-then-count-n : goal.returns-then-count-n
returns-then-count-n c =
    λ path t g h path2 u g2 h2. elements_count (given (apply path t)) (given (apply path2 u)) (λ z. c.if-count-n.true
    (c.count.ensures.1 path2 u g2 h2 ∙ z ∙ sym (c.count-n.ensures.1 path t g h)))

pub loop-j-init : goal.loop-j-init
loop-j-init c = (omega arith, λ path t g h path2 u g2 h2 k l. absurd (omega arith))

pub same_nth-requires : goal.same_nth-requires
same_nth-requires c = c.requires

pub returns-then-not-same_nth : goal.returns-then-not-same_nth
returns-then-not-same_nth c =
    λ path t g h path2 u g2 h2. let m = c.count-n.ensures.1 path t g h in
    let n = c.count.ensures.1 path2 u g2 h2 in
    elements_other (given (apply path t)) (given (apply path2 u)) c.loop-j.j (sym (c.if-not-same_nth.true) ∙
    c.same_nth.ensures path t g h path2 u g2 h2 (omega arith) (omega arith))

pub loop-j-preserved : goal.loop-j-preserved
loop-j-preserved c = (
  omega arith,
  λ path t g h path2 u g2 h2. let m = c.count-n.ensures.1 path t g h in let n = c.count.ensures.1 path2
      u g2 h2 in elements_more (given (apply path t)) (given (apply path2 u)) c.loop-j.j (c.loop-j.invariant.1 path t g h
      path2 u g2 h2) (sym (c.if-not-same_nth.false) ∙ c.same_nth.ensures path t g h path2 u g2 h2 (omega arith) (omega
      arith)),
)

pub returns : goal.returns
returns c =
    λ path t g h path2 u g2 h2. let m = c.count-n.ensures.1 path t g h in
    let n = c.count.ensures.1 path2 u g2 h2 in
    elements_all (given (apply path t)) (given (apply path2 u)) c.loop-j.j (omega arith) (omega arith)
    (c.loop-j.invariant.1 path t g h path2 u g2 h2)
