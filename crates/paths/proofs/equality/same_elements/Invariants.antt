use Rattle.std.proofs.Common.{◌≡◌, ℕ, ◌≤◌, ◌<◌, get_or}
use Rattle.spec_trees.specs.Tree.{bare_void}
use Rattle.spec_trees.specs.Bytes.{tree_bytes}
use Rattle.paths.specs.Walk.{given, TellsBoth}
use Rattle.paths.proofs.equality.same_elements.Given as goal

abbrev pub invariant-loop-j : goal.invariant-loop-j
invariant-loop-j l =
    (l.j ≤ l.n) × TellsBoth l.query l.area l.one l.area2 l.other (λ x y. (k : ℕ) → k < l.j → tree_bytes (get_or (given
    x) k bare_void) ≡ tree_bytes (get_or (given y) k bare_void))
