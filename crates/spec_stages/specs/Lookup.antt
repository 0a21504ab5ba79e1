-- What a lookup makes of a tree.
use Rattle.std.specs.Prelude.{List, [], ◌∷◌, Bool}
use Rattle.std.proofs.Math.Option.{Option}
use Rattle.spec_trees.specs.Lists.{filter}
use Rattle.spec_trees.specs.Tree.{Tree}
use Rattle.spec_queries.specs.Query.{Path, Route}
use Rattle.spec_stages.specs.Paths.{apply}
use Rattle.spec_stages.specs.Equality.{same_given}
use Rattle.spec_stages.specs.Merge.{build}
use Rattle.spec_stages.specs.Project.{place_at}

-- whether the joined tree u matches t: its r equals t's q. Absent equals absent
unfoldable pub matches : Route → Route → Tree → Tree → Bool
matches q r t u = same_given (apply r u) (apply q t)

-- the joined trees that match, in order
unfoldable pub partners : Route → Route → List Tree → Tree → List Tree
partners q r joined t = filter (matches q r t) joined

-- no match places an empty array
unfoldable pub looked : Route → Route → Path → List Tree → Tree → Option Tree
looked q r p joined t = build t (place_at p (partners q r joined t) ∷ [])
