-- The proof of tracer_lines::bytes::stands, by answers to its goals.
use Rattle.std.proofs.Common.{arith, ◌∙◌}
use Rattle.tracer_lines.specs.PieceLaws.{stands_got}
use Rattle.tracer_lines.proofs.bytes.stands.Goals as goal

pub returns : goal.returns
returns c = c.eq.ensures ∙ stands_got c.args.bytes.now c.args.at (λ b. b.now) c.get.result _ c.get.ensures.lookup.0 (c.get.ensures.lookup.4 (omega arith) 0)
