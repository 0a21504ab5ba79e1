-- The classes of a group as they are found: for each subset of pairs, one tree of the array after another, each asked
-- whether it begins a class.
use Rattle.std.specs.Prelude.{List, [], ◌∷◌, ◌++◌, Bool, cond, not, ◌&&◌, ℕ, eqb}
use Rattle.spec_trees.specs.Lists.{filter, all}
use Rattle.spec_trees.specs.Tree.{Tree}
use Rattle.spec_queries.specs.Query.{Pair}
use Rattle.spec_stages.specs.Group.{key, alike, sum, Class}

-- no tree of those seen has the key of t
unfoldable pub unlike : List Pair → List Tree → Tree → Bool
unlike gs seen t = all (λ u. not (alike gs u t)) seen

-- t has exactly the sources present whose sum is m, and is the first tree with its key
unfoldable pub begins : List Pair → ℕ → List Tree → Tree → Bool
begins gs m seen t = eqb (sum (key gs t)) m && all (λ u. not (alike gs u t)) seen

-- the classes of the subset m, of the trees behind those seen
unfoldable pub scan : List Pair → ℕ → List Tree → List Tree → List Class
scan gs m seen [] = []
scan gs m seen (t ∷ ts) =
    let rest = scan gs m (seen ++ (t ∷ [])) ts in
    cond (begins gs m seen t) ((t, filter (alike gs t) ts) ∷ rest) rest
