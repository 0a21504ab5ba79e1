-- Trays: the arrays of a day, each with the result of its run. Joined they are lists, of any length.
use Rattle.std.specs.Prelude.{◌≡◌, List, [], ◌∷◌, ◌++◌}
use Rattle.std.proofs.Math.Option.{some}
use Rattle.spec_trees.specs.Lists.{gather}
use Rattle.spec_trees.specs.Tree.{Tree}
use Rattle.spec_queries.specs.Query.{Pair, Stage, group}
use Rattle.spec_stages.specs.Stages.{performed, going, stages}

pub record Tray : Type 0 where
  pub input : List Tree
  pub result : List Tree

abbrev pub tray_of : List Tree → List Tree → Tray
tray_of ts rs = record { input = ts; result = rs }

-- the trays' inputs joined, and their results
abbrev pub inputs : List Tray → List Tree
inputs ks = gather (λ k. k.input) ks

abbrev pub results : List Tray → List Tree
results ks = gather (λ k. k.result) ks

-- the run over the input is accepted, and gives the result
abbrev pub TrayRun : List Tree → List Stage → Tray → Type 0
TrayRun us ss k = stages us ss (going k.input) ≡ going k.result

-- the result is what the group gives of the input
abbrev pub GroupGives : List Tree → List Pair → List Pair → Tray → Type 0
GroupGives us ag gs k = performed us (group ag gs) k.input ≡ some k.result

-- the result is what the group gives of what the stages before it give of the input, however long that is
pub record Grouped (us : List Tree) (ss : List Stage) (ag gs : List Pair) (k : Tray) : Type 0 where
  pub entering : List Tree
  pub entering_is : stages us ss (going k.input) ≡ going entering
  pub result_is : performed us (group ag gs) entering ≡ some k.result

-- The results of trays in order, folded two by two in any bracketing: of no tray the empty list; that of one tray alone;
-- or two folded results joined and grouped again by s, in an accepted run
pub data Folded (ws : List Tree) (s : Stage) : List Tray → List Tree → Type 0 where
  nothing : Folded ws s [] []
  alone : {k : Tray} → Folded ws s (k ∷ []) k.result
  paired : {js ks : List Tray} {ps qs rs : List Tree} → Folded ws s js ps → Folded ws s ks qs → TrayRun ws (s ∷ []) (tray_of (ps ++ qs) rs) → Folded ws s (js ++ ks) rs
