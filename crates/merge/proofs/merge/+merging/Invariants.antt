use Rattle.std.proofs.Common.{◌≡◌, List, ℕ, ◌+◌, ◌*◌, ◌-◌, ◌≤◌, length}
use Rattle.areas.specs.Area.{span, Out}
use Rattle.format.specs.Stand.{labels_bytes, trees_bytes}
use Rattle.spec_stages.specs.MergeTwo.{merge_two_l, merge_two_a}
use Rattle.merge.specs.MergeBytes.{MergeReady, Merged}
use Rattle.merge.proofs.merge.+merging.Given as goal

abbrev pub decreases-merge_entry : goal.decreases-merge_entry
decreases-merge_entry l = 3 * ((l.one.to - l.one.from) + (l.other.to - l.other.from))

abbrev pub decreases-merge_first : goal.decreases-merge_first
decreases-merge_first l = 3 * ((l.one.to - l.one.from) + (l.other.to - l.other.from)) + 1

abbrev pub decreases-merge_labels : goal.decreases-merge_labels
decreases-merge_labels l = 3 * ((l.one.to - l.one.from) + (l.other.to - l.other.from)) + 2

abbrev pub decreases-merge_node : goal.decreases-merge_node
decreases-merge_node l = 3 * ((l.one.to - l.one.from) + (l.other.to - l.other.from))

abbrev pub decreases-merge_trees : goal.decreases-merge_trees
decreases-merge_trees l = 3 * ((l.one.to - l.one.from) + (l.other.to - l.other.from)) + 1

abbrev pub invariant-merge_labels-loop-p : goal.invariant-merge_labels-loop-p
invariant-merge_labels-loop-p l =
    (l.initial.p ≤ l.p) × (l.initial.q ≤ l.q) × (length l.work ≡ length l.initial.work) × MergeReady labels_bytes l.work
    (span l.p l.end) (span l.q l.end2) (span l.at l.stop) × ((u : List ℕ) (r : Out) → Merged labels_bytes merge_two_l
    l.work u (span l.p l.end) (span l.q l.end2) (span l.at l.stop) r → Merged labels_bytes merge_two_l l.initial.work u
    (span l.initial.p l.end) (span l.initial.q l.end2) (span l.initial.at l.stop) r)

abbrev pub decreases-merge_labels-loop-p : goal.decreases-merge_labels-loop-p
decreases-merge_labels-loop-p l = (l.end - l.p) + (l.end2 - l.q)

abbrev pub invariant-merge_trees-loop-a : goal.invariant-merge_trees-loop-a
invariant-merge_trees-loop-a l =
    (l.initial.a ≤ l.a) × (l.initial.b ≤ l.b) × (length l.work ≡ length l.initial.work) × MergeReady trees_bytes l.work
    (span l.a l.end) (span l.b l.end2) (span l.at l.stop) × ((u : List ℕ) (r : Out) → Merged trees_bytes merge_two_a
    l.work u (span l.a l.end) (span l.b l.end2) (span l.at l.stop) r → Merged trees_bytes merge_two_a l.initial.work u
    (span l.initial.a l.end) (span l.initial.b l.end2) (span l.initial.at l.stop) r)

abbrev pub decreases-merge_trees-loop-a : goal.decreases-merge_trees-loop-a
decreases-merge_trees-loop-a l = l.end - l.a
