-- Where a tree came from: through the stages every tree bears the position of the input tree that it stems from.
use Rattle.std.specs.Prelude.{List, [], ◌∷◌, map, Bool, cond, not, ℕ, suc, ◌^◌, length, eqb}
use Rattle.std.proofs.Math.Option.{Option}
use Rattle.spec_trees.specs.Options.{maybe}
use Rattle.spec_trees.specs.Lists.{filter, all, gather}
use Rattle.spec_trees.specs.Tree.{Tree}
use Rattle.spec_queries.specs.Query.{Pair, Stage, match, unwind, project, group, lookup}
use Rattle.spec_stages.specs.Criteria.{holds}
use Rattle.spec_stages.specs.Unwind.{unwound}
use Rattle.spec_stages.specs.Project.{projected}
use Rattle.spec_stages.specs.Group.{key, alike, sum, Class, upto, class_tree}
use Rattle.spec_stages.specs.Lookup.{looked}

-- a tree, and the position that it bears
pub record Borne : Type 0 where
  pub position : ℕ
  pub tree : Tree

abbrev pub positions : List Borne → List ℕ
positions bs = map (λ b. b.position) bs

-- the trees, their positions forgotten
abbrev pub unmarked : List Borne → List Tree
unmarked bs = map (λ b. b.tree) bs

-- trees that all bear n
unfoldable pub marked : ℕ → List Tree → List Borne
marked n ts = map (λ t. record { position = n; tree = t }) ts

-- trees that bear n, n + 1 and so on: an input's bear their positions, from 1
unfoldable pub numbered : ℕ → List Tree → List Borne
numbered n [] = []
numbered n (t ∷ ts) = record { position = n; tree = t } ∷ numbered (suc n) ts

-- ---- the classes of a group as in Group, of trees that bear positions: the first member, and the others
abbrev pub BorneClass : Type 0
BorneClass = Borne × List Borne

abbrev pub unmarked_class : BorneClass → Class
unmarked_class c = (c.0.tree, unmarked c.1)

unfoldable pub borne_having : List Pair → ℕ → List Borne → List Borne
borne_having gs m = filter (λ b. eqb (sum (key gs b.tree)) m)

unfoldable pub borne_classes : (Tree → Tree → Bool) → List Borne → List Borne → List BorneClass
borne_classes e seen [] = []
borne_classes e seen (b ∷ bs) =
    cond (all (λ u. not (e u.tree b.tree)) seen)
    ((b, filter (λ u. e b.tree u.tree) bs) ∷ borne_classes e (b ∷ seen) bs)
    (borne_classes e (b ∷ seen) bs)

unfoldable pub borne_grouped : List Pair → List Borne → List BorneClass
borne_grouped gs bs = gather (λ m. borne_classes (alike gs) [] (borne_having gs m bs)) (upto (2 ^ length gs))

-- ---- the stages
-- the tree that is there; where none is, a tree was too large and the run stops
unfoldable pub sole : Option Tree → List Tree
sole = maybe [] (λ t. t ∷ [])

-- what f makes of each tree bears that tree's position
abbrev pub onward : (Tree → List Tree) → List Borne → List Borne
onward f bs = gather (λ b. marked b.position (f b.tree)) bs

-- clause by clause as `performed`; a group's tree bears the position of its first member
unfoldable pub carry : List Tree → Stage → List Borne → List Borne
carry joined (match c) bs = filter (λ b. holds c b.tree) bs
carry joined (unwind p) bs = onward (unwound p) bs
carry joined (project is) bs = onward (λ t. sole (projected is t)) bs
carry joined (group ag gs) bs = gather (λ c. marked c.0.position (sole (class_tree ag gs (unmarked_class c)))) (borne_grouped gs bs)
carry joined (lookup q r p) bs = onward (λ t. sole (looked q r p joined t)) bs

unfoldable pub carried : List Tree → List Stage → List Borne → List Borne
carried joined [] bs = bs
carried joined (s ∷ ss) bs = carried joined ss (carry joined s bs)

-- the positions that the result trees bear, if ts is the input
unfoldable pub result_positions : List Tree → List Stage → List Tree → List ℕ
result_positions joined ss ts = positions (carried joined ss (numbered 1 ts))

-- ---- a class's position found by search, as the streamed run finds it: equal by `carry_group`
-- the position of the first tree that has the key of t
unfoldable pub origin : List Pair → Tree → List Borne → ℕ
origin gs t [] = 0
origin gs t (b ∷ bs) = cond (alike gs b.tree t) b.position (origin gs t bs)

-- ---- what is printed: beside each result tree its position
unfoldable pub lines : List ℕ → List Tree → List Borne
lines [] ts = []
lines (n ∷ ns) [] = []
lines (n ∷ ns) (t ∷ ts) = record { position = n; tree = t } ∷ lines ns ts

-- those that bear i, in order
unfoldable pub bearing : ℕ → List Borne → List Borne
bearing i = filter (λ b. eqb b.position i)
