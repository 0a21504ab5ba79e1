-- What a writer of values did.
use Rattle.std.specs.Prelude.{◌≡◌, List, map, ℕ, drop}
use Rattle.std.proofs.Math.Option.{some}
use Rattle.spec_trees.specs.Tree.{trees}
use Rattle.areas.specs.declared.span.Span.{Span}
use Rattle.areas.specs.Area.{Wrote, Out}
use Rattle.format.specs.Stand.{trees_bytes}
use Rattle.spec_tracer.specs.Reading.{values}
use Rattle.spec_tracer.specs.Values.{value_tree}

-- the bytes of the trees of a line's values, under the label k
abbrev pub values_trees : ℕ → List (List ℕ) → List ℕ
values_trees k vs = trees_bytes (trees (map (value_tree k) vs))

-- whatever values are read from a place on, their trees were written
abbrev pub WroteValues : (m : List ℕ) (from k : ℕ) (w v : List ℕ) → Span → Out → Type 0
WroteValues m from k w v room r = (vs : List (List ℕ)) (rest : List ℕ) → values (drop from m) ≡ some (vs, rest)
    → Wrote w v room.from room.to (values_trees k vs) r
