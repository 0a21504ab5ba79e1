use Rattle.std.proofs.Common.{◌-◌}
use Rattle.key_index.specs.declared.front.Reached.{Reached}
use Rattle.classes.specs.Read.{reached, EndReady, EndIs}
use Rattle.classes.proofs.read.class_end.Given as goal

abbrev pub invariant-loop-to : goal.invariant-loop-to
invariant-loop-to l =
    EndReady l.work (reached l.to l.count) l.len × ((r : Reached) → EndIs l.work (reached l.to l.count) l.len r → EndIs
    l.work (reached l.initial.to l.initial.count) l.len r)

abbrev pub decreases-loop-to : goal.decreases-loop-to
decreases-loop-to l = l.len - l.to
