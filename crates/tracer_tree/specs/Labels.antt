-- What the writers of labels ask and did.
use Rattle.std.specs.Prelude.{◌≡◌, List, ℕ, ◌-◌, ◌≤◌, length}
use Rattle.spec_trees.specs.Limits.{label_max, work_min}
use Rattle.spec_trees.specs.Tree.{bare}
use Rattle.areas.specs.declared.span.Span.{Span}
use Rattle.areas.specs.Area.{Wrote, Out}
use Rattle.format.specs.Stand.{labels_bytes}
use Rattle.spec_tracer.specs.Message.{Line}
use Rattle.spec_tracer.specs.Traced.{lines_for, labelled, labels_from}
use Rattle.tracer_lines.specs.Places.{Place, PlaceIs, PlacesAre}

-- a room in an area that a writer may be lent
pub record RoomIn (w : List ℕ) (room : Span) : Type 0 where
  pub above : room.from ≤ room.to
  pub inside : room.to ≤ length w
  pub lent : length w ≤ work_min

pub record LabelReady (m : List ℕ) (from : Place) (k : ℕ) (w : List ℕ) (room : Span) : Type 0 where
  pub lines : List Line
  pub place : PlaceIs m lines k from
  pub small : k ≤ label_max
  pub room_in : RoomIn w room

-- whatever lines the entry speaks of, the label was written if it has one
abbrev pub WroteLabel : (m : List ℕ) (from : Place) (k : ℕ) (w v : List ℕ) → Span → Out → Type 0
WroteLabel m from k w v room r = (ls : List Line) → PlaceIs m ls k from
    → Wrote w v room.from room.to (labels_bytes (labelled k (lines_for k ls) bare)) r

pub record LabelsReady (m : List ℕ) (ps : List Place) (w : List ℕ) (room : Span) : Type 0 where
  pub lines : List Line
  pub places : PlacesAre m lines ps
  pub room_in : RoomIn w room

-- whatever lines the entries speak of, their labels were written
abbrev pub WroteLabels : (m : List ℕ) (ps : List Place) (w v : List ℕ) → Span → Out → Type 0
WroteLabels m ps w v room r = (ls : List Line) → PlacesAre m ls ps → Wrote w v room.from room.to (labels_bytes (labels_from 1 7 ls)) r

-- w became v: the labels below k were written, up to `at`; whatever is right for the rest is right for all
pub record Writing (m : List ℕ) (ps : List Place) (w v : List ℕ) (room : Span) (k at : ℕ) : Type 0 where
  pub least : 1 ≤ k
  pub most : k ≤ 8
  pub below : at ≤ room.to
  pub same : length v ≡ length w
  pub whole : (ls : List Line) → PlacesAre m ls ps → (u : List ℕ) (r : Out)
      → Wrote v u at room.to (labels_bytes (labels_from k (8 - k) ls)) r → Wrote w u room.from room.to (labels_bytes (labels_from 1 7 ls)) r
