-- Laws of writing the array.
use Rattle.std.specs.Prelude.{◌≡◌, refl, List, [], ◌∷◌, ◌++◌, ℕ, ◌≤◌, ◌<◌, length, Ok, Err}
use Rattle.std.proofs.Common.{sym, ap, subst, arith}
use Rattle.spec_trees.specs.Bytes.{field_bytes, bytes, root_f, tree_f, array_f, array_bytes}
use Rattle.spec_trees.proofs.FieldLaws.{bytes_one}
use Rattle.areas.specs.Area.{Wrote, Finishable, Finished, head_bytes, span, Out, too_large}
use Rattle.areas.specs.AreaLaws.{no_room, length_field, wrote_wider, wrote_seq, finishable}
use Rattle.format.specs.Stand.{labels_bytes}
use Rattle.spec_tracer.specs.Message.{Line}
use Rattle.spec_tracer.specs.Traced.{labels_from, message_tree}
use Rattle.tracer_lines.specs.Places.{Place, PlacesAre}
use Rattle.tracer_tree.specs.Labels.{LabelsReady, WroteLabels}
use Rattle.tracer_tree.specs.Array.{ArrayReady, WroteArray}

-- the content of the tree: a void root, and the labels
abbrev content : List Line → List ℕ
content ls = head_bytes 3 0 ++ labels_bytes (labels_from 1 7 ls)

array_so : (ls : List Line) → field_bytes (1, field_bytes (2, content ls)) ≡ array_bytes (message_tree ls ∷ [])
unfolding array_bytes array_f tree_f message_tree bytes root_f field_bytes
array_so ls = ap (λ b. field_bytes (1, b)) (sym (bytes_one (tree_f (message_tree ls))))

array_length : (ls : List Line) → 9 ≤ length (array_bytes (message_tree ls ∷ []))
array_length ls =
    let a = length_field (1, field_bytes (2, content ls)) in
    let b = length_field (2, content ls) in
    omega (arith, sym (ap length (array_so ls)), a, b)

pub array_large : (m : List ℕ) (ps : List Place) (w : List ℕ) → length w < 9 → WroteArray m ps w w (Err too_large)
array_large m ps w h ls p = no_room w 0 (length w) (array_bytes (message_tree ls ∷ [])) (omega (arith, array_length ls, h))

module _ (m : List ℕ) (ps : List Place) (w : List ℕ) {v : List ℕ} (b : 9 ≤ length w) (l : length v ≡ length w) (h : Wrote w v 6 9 (head_bytes 3 0) (Ok 9)) where
  pub labels_ready : ArrayReady m ps w → LabelsReady m ps v (span 9 (length w))
  labels_ready a = record {
    lines = a.lines;
    places = a.places;
    room_in = record { above = b; inside = omega (arith, l); lent = omega (arith, l, a.lent) };
  }

  module _ {u : List ℕ} {r : Out} (g : WroteLabels m ps v u (span 9 (length w)) r) where
    tree_content : (ls : List Line) → PlacesAre m ls ps → Wrote w u 6 (length w) (content ls) r
    tree_content ls p = wrote_seq (wrote_wider (length w) b h) (omega (arith, b)) refl (g ls p)

    pub tree_finishable : ArrayReady m ps w → length u ≡ length w → Finishable u 3 r
    tree_finishable a n = finishable 3 (omega arith) (omega (arith, n)) (tree_content a.lines a.places)

    module _ {x : List ℕ} {o : Out} (f : Finished u x 3 2 r o) where
      tree_so : (ls : List Line) → PlacesAre m ls ps → Wrote w x 3 (length w) (field_bytes (2, content ls)) o
      tree_so ls p = f w (length w) (content ls) (omega (arith, b)) (tree_content ls p)

      pub array_finishable : ArrayReady m ps w → length x ≡ length w → Finishable x 0 o
      array_finishable a n = finishable 0 (omega arith) (omega (arith, n)) (tree_so a.lines a.places)

      pub array_wrote : {y : List ℕ} {q : Out} → Finished x y 0 1 o q → WroteArray m ps w y q
      array_wrote {y} {q} k ls p = subst (λ i. Wrote w y 0 (length w) i q) (array_so ls) (k w (length w) (field_bytes (2, content ls)) (omega (arith, b)) (tree_so ls p))
