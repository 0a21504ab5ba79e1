-- Laws of writing labels.
use Rattle.std.specs.Prelude.{◌≡◌, refl, List, [], ◌∷◌, ◌++◌, map, ℕ, suc, ◌+◌, ◌-◌, ◌≤◌, ◌<◌, length, get_or, Some, None, Ok, Err}
use Rattle.std.proofs.Common.{sym, ap, subst, ◌∙◌, append-nil, add-one, arith}
use Rattle.spec_trees.specs.Tree.{Trees, Labels, bare, label, trees}
use Rattle.spec_trees.specs.Bytes.{bytes, label_fs, label_heads}
use Rattle.areas.specs.Area.{Wrote, span, Out, too_large}
use Rattle.areas.specs.AreaLaws.{no_room, wrote_none, wrote_seq, wrote_fail}
use Rattle.format.specs.Stand.{labels_bytes, entry_of, entry_bytes, Behind, Headed}
use Rattle.format.specs.StandLaws.{labels_first, length_entry}
use Rattle.spec_tracer.specs.Message.{Line}
use Rattle.spec_tracer.specs.Values.{value_tree}
use Rattle.spec_tracer.specs.Traced.{lines_for, labelled, labels_from}
use Rattle.tracer_lines.specs.Places.{Place, PlaceIs, PlacesAre}
use Rattle.tracer_tree.specs.Values.{values_trees, WroteValues}
use Rattle.tracer_tree.specs.Labels.{WroteLabel, WroteLabels, Writing}

-- ---- the bytes of labels
bare_none : labels_bytes bare ≡ []
unfolding label_fs bytes
bare_none = refl

alone : (k : ℕ) (a : Trees) → labels_bytes (label k a bare) ≡ entry_bytes k a
alone k a = labels_first k a bare ∙ ap (λ x. entry_bytes k a ++ x) bare_none ∙ append-nil (entry_bytes k a)

labelled_bytes : (k : ℕ) (xs : List Line) (rest : Labels) → labels_bytes (labelled k xs rest) ≡ labels_bytes (labelled k xs bare) ++ labels_bytes rest
unfolding labelled
labelled_bytes k [] rest = ap (λ x. x ++ labels_bytes rest) (sym bare_none)
labelled_bytes k (x ∷ xs) rest =
    let a = trees (map (value_tree k) x.1) in
    labels_first k a rest ∙ ap (λ i. i ++ labels_bytes rest) (sym (alone k a))

labelled_none : (k : ℕ) {xs : List Line} → xs ≡ [] → labels_bytes (labelled k xs bare) ≡ []
unfolding labelled
labelled_none k e = rw e bare_none

labelled_one : (k : ℕ) {xs : List Line} (l : Line) → xs ≡ l ∷ [] → labels_bytes (labelled k xs bare) ≡ entry_of k (values_trees k l.1)
unfolding labelled
labelled_one k l e = rw e (alone k (trees (map (value_tree k) l.1)))

labels_next : (k : ℕ) (ls : List Line) → k < 8
    → labels_bytes (labels_from k (8 - k) ls) ≡ labels_bytes (labelled k (lines_for k ls) bare) ++ labels_bytes (labels_from (k + 1) (8 - (k + 1)) ls)
unfolding labels_from
labels_next k ls h =
    let z : 8 - k ≡ suc (8 - (k + 1)) = omega (arith, h) in
    ap (λ n. labels_bytes (labels_from k n ls)) z ∙ labelled_bytes k (lines_for k ls) (labels_from (suc k) (8 - (k + 1)) ls)
    ∙ ap (λ i. labels_bytes (labelled k (lines_for k ls) bare) ++ labels_bytes (labels_from i (8 - (k + 1)) ls)) (sym (add-one k))

-- ---- one label
module _ (m : List ℕ) {from : Place} (k : ℕ) (w : List ℕ) (d stop : ℕ) where
  pub label_none : from ≡ None → d ≤ stop → WroteLabel m from k w w (span d stop) (Ok d)
  label_none z b ls p = subst (λ x. Wrote w w d stop x (Ok d)) (sym (labelled_none k (p.missing z))) (wrote_none w d stop b)

  module _ {a : ℕ} (n : from ≡ Some a) {h : ℕ} (e : h ≡ label_heads k) where
    pub label_large : d ≤ stop → stop - d < h → WroteLabel m from k w w (span d stop) (Err too_large)
    label_large b l ls p =
        let t = p.there a n in
        let c = values_trees k t.line.1 in
        subst (λ x. Wrote w w d stop x (Err too_large)) (sym (labelled_one k t.line t.alone))
        (no_room w d stop (entry_of k c) (omega (arith, length_entry k c, e, b, l)))

    module _ {v : List ℕ} {r : Out} (g : WroteValues m a k w v (span (d + h) stop) r) where
      -- where the values end
      pub label_behind : {ls : List Line} → PlaceIs m ls k from → stop ≤ length v → Behind v (d + label_heads k) r
      label_behind p b i q =
          let t = p.there a n in
          let f = (g t.line.1 t.rest t.values_are).fits i q in
          (omega (arith, f.ends, e), omega (arith, f.room, b))

      pub label_some : {u : List ℕ} {q : Out} → d + h ≤ length w → Headed (entry_of k) (label_heads k) v u d r q → WroteLabel m from k w u (span d stop) q
      label_some {u} {q} b f ls p =
          let t = p.there a n in
          let c = values_trees k t.line.1 in
          subst (λ x. Wrote w u d stop x q) (sym (labelled_one k t.line t.alone))
          (f.wrote w stop c (omega (arith, b, e)) (subst (λ i. Wrote w v (d + i) stop c r) e (g t.line.1 t.rest t.values_are)))

-- ---- all labels
module _ (m : List ℕ) (ps : List Place) (w : List ℕ) (from to : ℕ) where
  pub writing_begins : from ≤ to → Writing m ps w w (span from to) 1 from
  writing_begins b = record {
    least = omega arith;
    most = omega arith;
    below = b;
    same = refl;
    whole = λ ls p u r h. h;
  }

  module _ {v : List ℕ} {k at : ℕ} (h : Writing m ps w v (span from to) k at) (l : k < 8)
      {u : List ℕ} {r : Out} (g : WroteLabel m (get_or ps k None) k v u (span at to) r) where
    first_label : (ls : List Line) → PlacesAre m ls ps → Wrote v u at to (labels_bytes (labelled k (lines_for k ls) bare)) r
    first_label ls p = g ls (p.each k h.least l)

    pub writing_next : {e : ℕ} {ls : List Line} → PlacesAre m ls ps → at ≤ length v → length u ≡ length v → r ≡ Ok e → Writing m ps w u (span from to) (k + 1) e
    writing_next {e} {ls} some b n q = record {
      least = omega arith;
      most = omega (arith, l);
      below = ((first_label ls some).fits e q).room;
      same = n ∙ h.same;
      whole = λ xs p x o i. h.whole xs p x o (subst (λ y. Wrote v x at to y o) (sym (labels_next k xs l)) (wrote_seq (first_label xs p) b q i));
    }

    pub writing_fails : r ≡ Err too_large → WroteLabels m ps w u (span from to) (Err too_large)
    writing_fails q ls p = h.whole ls p u (Err too_large)
        (subst (λ y. Wrote v u at to y (Err too_large)) (sym (labels_next k ls l)) (wrote_fail (first_label ls p) (labels_bytes (labels_from (k + 1) (8 - (k + 1)) ls)) q))

  pub writing_ends : {v : List ℕ} {k at : ℕ} → Writing m ps w v (span from to) k at → 8 ≤ k → WroteLabels m ps w v (span from to) (Ok at)
  unfolding labels_from
  writing_ends {v} {k} {at} h b ls p =
      let z : k ≡ 8 = omega (arith, b, h.most) in
      h.whole ls p v (Ok at) (subst (λ x. Wrote v v at to x (Ok at)) (sym (ap (λ i. labels_bytes (labels_from i (8 - i) ls)) z ∙ bare_none)) (wrote_none v at to h.below))
