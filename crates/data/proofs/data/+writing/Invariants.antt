use Rattle.std.proofs.Common.{◌≡◌, List, false, ℕ, ◌+◌, ◌*◌, ◌-◌, length}
use Rattle.areas.specs.Area.{span}
use Rattle.queries.specs.Places.{datas_bytes}
use Rattle.data.specs.Value.{Value}
use Rattle.data.specs.Write.{DataReady, Gives, NestedDs, listed_from}
use Rattle.data.proofs.data.+writing.Given as goal

abbrev pub decreases-write_data : goal.decreases-write_data
decreases-write_data l = 2 * l.left

abbrev pub decreases-write_list : goal.decreases-write_list
decreases-write_list l = 2 * l.left + 1

abbrev pub invariant-write_list-loop-at : goal.invariant-write_list-loop-at
invariant-write_list-loop-at l =
    DataReady (NestedDs l.left) datas_bytes l.query (span l.at l.end) l.work l.tree (span l.to l.stop) × (length l.work
    ≡ length l.initial.work) × ((u : List ℕ) (r : Value) → Gives (NestedDs l.left) datas_bytes (listed_from l.any)
    l.query (span l.at l.end) l.work u l.tree (span l.to l.stop) r → Gives (NestedDs l.left) datas_bytes (listed_from
    false) l.query (span l.initial.at l.end) l.initial.work u l.tree (span l.initial.to l.stop) r)

abbrev pub decreases-write_list-loop-at : goal.decreases-write_list-loop-at
decreases-write_list-loop-at l = l.end - l.at
