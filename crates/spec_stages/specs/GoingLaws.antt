-- A run that goes on went on through every stage, and took what the stage gave.
use Rattle.std.specs.Prelude.{◌≡◌, refl, List, [], ◌∷◌, Bool, true, false, cond, ℕ}
use Rattle.std.proofs.Math.Option.{Option, none, some}
use Rattle.std.proofs.Common.{arith}
use Rattle.spec_trees.specs.Options.{maybe}
use Rattle.spec_trees.specs.Lists.{all}
use Rattle.spec_trees.specs.Tree.{Tree}
use Rattle.spec_trees.specs.Size.{fits}
use Rattle.spec_queries.specs.Query.{Stage}
use Rattle.spec_stages.specs.Stages.{performed, leaving, State, going, large, halted, entering, Halt, after, step, stages}

pub step_accepted : (us : List Tree) (s : Stage) (ts : List Tree) {fs : List Tree} → step us s (going ts) ≡ going fs → performed us s ts ≡ some fs
unfolding step maybe after leaving
step_accepted us s ts {fs} e = go (entering s ts) (performed us s ts) e
  where
    left : (ts : List Tree) (b : Bool) → after (cond b (some ts) none) ≡ going fs → some ts ≡ some fs
    left ts true e = cc
    left ts false e = let z : ◌≡◌ {A = ℕ} 0 1 = cc in absurd (omega arith)

    go : (h : Option Halt) (x : Option (List Tree)) → maybe (after (leaving x)) halted h ≡ going fs → x ≡ some fs
    go (some h) x e = let z : ◌≡◌ {A = ℕ} 0 1 = cc in absurd (omega arith)
    go none none e = let z : ◌≡◌ {A = ℕ} 0 1 = cc in absurd (omega arith)
    go none (some ts) e = left ts (all fits ts) e

pub stages_going : (us : List Tree) (ss : List Stage) (x : State) {fs : List Tree} → stages us ss x ≡ going fs → (ts : List Tree) × (x ≡ going ts)
unfolding stages step
stages_going us [] x {fs} e = (fs, e)
stages_going us (s ∷ ss) (going ts) e = (ts, refl)
stages_going us (s ∷ ss) large e = let a = stages_going us ss large e in let z : ◌≡◌ {A = ℕ} 0 1 = cc a.1 in absurd (omega arith)
stages_going us (s ∷ ss) (halted h) e = let a = stages_going us ss (halted h) e in let z : ◌≡◌ {A = ℕ} 0 1 = cc a.1 in absurd (omega arith)
