-- What each stage makes of a list of trees, and a list of stages one after another.
use Rattle.std.specs.Prelude.{List, [], ◌∷◌, Bool, true, false, cond, leb}
use Rattle.std.proofs.Math.Option.{Option, none, some}
use Rattle.spec_trees.specs.Options.{maybe}
use Rattle.spec_trees.specs.Lists.{filter, all, gather, each}
use Rattle.spec_trees.specs.Limits.{array_max}
use Rattle.spec_trees.specs.Tree.{Tree}
use Rattle.spec_trees.specs.Size.{array_size, fits}
use Rattle.spec_queries.specs.Query.{Stage, match, unwind, project, group, lookup}
use Rattle.spec_stages.specs.Criteria.{holds}
use Rattle.spec_stages.specs.Unwind.{unwound}
use Rattle.spec_stages.specs.Project.{projected}
use Rattle.spec_stages.specs.Group.{class_tree, grouped, totals_fit}
use Rattle.spec_stages.specs.Lookup.{looked}

-- nothing, if a tree tested inside the stage is too large
unfoldable pub performed : List Tree → Stage → List Tree → Option (List Tree)
performed joined (match c) ts = some (filter (holds c) ts)
performed joined (unwind p) ts = some (gather (unwound p) ts)
performed joined (project is) ts = each (projected is) ts
performed joined (group ag gs) ts = each (class_tree ag gs) (grouped gs ts)
performed joined (lookup q r p) ts = each (looked q r p joined) ts

-- every tree is tested leaving the stage
unfoldable pub leaving : Option (List Tree) → Option (List Tree)
leaving none = none
leaving (some ts) = cond (all fits ts) (some ts) none

unfoldable pub is_group : Stage → Bool
is_group (match c) = false
is_group (unwind p) = false
is_group (project is) = false
is_group (group ag gs) = true
is_group (lookup q r p) = false

-- why a run stops where an array enters a group, before any tree of the group is tested
pub data Halt : Type 0 where
  -- the array is too long (9)
  too_long : Halt
  -- the total of a class does not fit (12)
  overflow : Halt

-- the list, of any length; or why the run stopped: a tree too large (8), or at a group
pub data State : Type 0 where
  going : List Tree → State
  large : State
  halted : Halt → State

-- an array has a limit only where it enters a group; then the totals of its classes are tested
unfoldable pub entering : Stage → List Tree → Option Halt
entering (match c) ts = none
entering (unwind p) ts = none
entering (project is) ts = none
entering (group ag gs) ts =
    cond (leb (array_size ts) array_max) (cond (totals_fit ag (grouped gs ts)) none (some overflow)) (some too_long)
entering (lookup q r p) ts = none

unfoldable pub after : Option (List Tree) → State
after none = large
after (some ts) = going ts

unfoldable pub step : List Tree → Stage → State → State
step joined s large = large
step joined s (halted h) = halted h
step joined s (going ts) = maybe (after (leaving (performed joined s ts))) halted (entering s ts)

unfoldable pub stages : List Tree → List Stage → State → State
stages joined [] x = x
stages joined (s ∷ ss) x = stages joined ss (step joined s x)
