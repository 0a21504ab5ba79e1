-- Whether a tree meets a criterion.
use Rattle.std.specs.Prelude.{Bool, true, not, ◌&&◌, ◌||◌}
use Rattle.std.proofs.Math.Option.{some}
use Rattle.spec_trees.specs.Tree.{Tree}
use Rattle.spec_queries.specs.Query.{Criterion, always, exists, equal, same, negated, both, either}
use Rattle.spec_stages.specs.Paths.{present, apply}
use Rattle.spec_stages.specs.Equality.{same_given}

unfoldable pub holds : Criterion → Tree → Bool
holds always t = true
holds (exists p) t = present (apply p t)
holds (equal p a) t = same_given (apply p t) (some a)
holds (same p q) t = same_given (apply p t) (apply q t)
holds (negated c) t = not (holds c t)
holds (both c d) t = holds c t && holds d t
holds (either c d) t = holds c t || holds d t
