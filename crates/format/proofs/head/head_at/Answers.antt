-- `head::head_at`: each return is a case of `head_at`.
use Rattle.std.proofs.Common.{arith, ◌+◌, ◌≤◌, ◌<◌, sym}
use Rattle.format.specs.HeadLaws.{head_short, head_over, head_field}
use Rattle.format.proofs.head.head_at.Goals as goal

pub returns-then-end-at-lt3 : goal.returns-then-end-at-lt3
returns-then-end-at-lt3 c = sym (head_short c.args.area.now c.args.at c.args.end c.requires.1 c.if-end-at-lt3.true)

pub returns-then-end-to : goal.returns-then-end-to
returns-then-end-to c =
    let q : c.args.end < c.args.at + 3 + c.len_at.result = c.if-end-to.true in
    sym (head_over c.args.area.now c.args.at c.args.end c.requires.1 c.len_at.result (omega arith) c.len_at.ensures.0
    (omega (arith, q)))

pub returns : goal.returns
returns c =
    let q : c.args.at + 3 + c.len_at.result ≤ c.args.end = c.if-end-to.false in
    sym (head_field c.args.area.now c.args.at c.args.end c.requires.1 c.len_at.result (omega arith) c.len_at.ensures.0
    (omega (arith, q)))
