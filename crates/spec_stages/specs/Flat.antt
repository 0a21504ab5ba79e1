-- The members of classes, class behind class.
use Rattle.std.specs.Prelude.{List, ◌∷◌}
use Rattle.spec_trees.specs.Lists.{gather}
use Rattle.spec_trees.specs.Tree.{Tree}
use Rattle.spec_stages.specs.Group.{Class}

abbrev pub members : Class → List Tree
members c = c.0 ∷ c.1

unfoldable pub flat : List Class → List Tree
flat cs = gather members cs
