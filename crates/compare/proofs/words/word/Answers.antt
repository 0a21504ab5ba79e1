-- The proof of compare::words::word, by answers to its goals: two halves.
use Rattle.std.proofs.Common.{ap₂, ◌∙◌, ◌+◌, ◌*◌}
use Rattle.compare.specs.WordLaws.{low_eight}
use Rattle.compare.proofs.words.word.Goals as goal

pub returns : goal.returns
returns c =
    ap₂ (λ x y. x + 4294967296 * y) c.half.ensures.0 c.half-2.ensures.0 ∙ low_eight c.args.area.now c.args.at c.requires
