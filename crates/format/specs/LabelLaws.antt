-- A search among the labels that stand in an area, label by label, and what its answer says.
use Rattle.std.specs.Prelude.{◌≡◌, List, [], ◌++◌, ℕ, ◌+◌, ◌-◌, ◌≤◌, ◌<◌, length, Some, None}
use Rattle.std.proofs.Common.{sym, ap, subst, ◌∙◌, append_assoc, arith}
use Rattle.std.proofs.Math.Seq.{slice, slice_empty}
use Rattle.spec_trees.specs.Tree.{Labels, label, list, find, put}
use Rattle.spec_trees.specs.Within.{OkL}
use Rattle.spec_trees.specs.FindLaws.{find_first, find_later, put_first, put_later, find_above}
use Rattle.areas.specs.declared.span.Span.{Span}
use Rattle.areas.specs.Area.{Is, span, field_end}
use Rattle.areas.specs.AreaLaws.{is_join}
use Rattle.spec_trees.specs.Bytes.{label_heads}
use Rattle.format.specs.Labels.{label_at, trees_at, Found}
use Rattle.format.specs.Stand.{trees_bytes, labels_bytes, entry_bytes, Holds, EntryIs, EntryFound, Finds}
use Rattle.format.specs.StandLaws.{labels_first, labels_parts, labels_none}

-- ---- answers
found_part : {s : List ℕ} {around : Span} {k : ℕ} {ls : Labels} {at : Span} → EntryIs s around k ls at → EntryFound s around k ls (Some at)
found_part {s} {around} {k} {ls} {at} h = record {
  part = λ a q. let y : at ≡ a = cc in subst (λ n. EntryIs s around k ls n) y h;
  missing = λ q. let z : ◌≡◌ {A = ℕ} 0 1 = cc in absurd (omega arith);
}

-- ---- label by label
is_none : (w : List ℕ) (p e : ℕ) → p ≡ e → p ≤ length w → Is w p e []
is_none w p e z l = record { lies = ap (λ n. slice n e w) z ∙ slice_empty e w; ends = omega arith; inside = omega arith }

pub finds_none : (s : List ℕ) (p e k : ℕ) → p ≡ e → Finds s (span p e) k None
unfolding find
finds_none s p e k q ls h = record {
  part = λ a q. let z : ◌≡◌ {A = ℕ} 0 1 = cc in absurd (omega arith);
  missing = λ z. ap (find k) (labels_none ls q h);
}

module _ (s : List ℕ) (p m e k : ℕ) (n : p ≡ e → ⊥) (g : m ≡ field_end s p) where
  pub finds_here : {f : ℕ} → label_at s p ≡ k → f ≡ p + label_heads k → Finds s (span p e) k (Some (span f m))
  finds_here {f} q u ls h =
      let a = labels_parts ls g n h in
      let z : k ≡ a.key = sym q ∙ a.entry.label_is in
      let y : f ≡ trees_at s p = u ∙ ap (λ i. p + label_heads i) z ∙ sym a.entry.trees_at_lem in
      let b : p ≤ length s = omega (arith, a.entry.after, a.within, h.inside) in
      found_part record {
        array = a.array;
        front = [];
        back = labels_bytes a.others;
        same = ap (find k) a.same ∙ find_first k a.key a.array a.others z;
        front_is = is_none s p (f - label_heads k) (omega arith) b;
        array_is = subst (λ i. Is s i m (trees_bytes a.array)) (sym y) a.entry.array_is;
        back_is = a.others_is;
        heads = omega arith;
        within = a.within;
        put_is = λ i o c.
            ap (λ l. labels_bytes (put k c l)) a.same ∙ ap labels_bytes (put_first k a.key c a.array a.others z) ∙ labels_first k c a.others;
      }

  pub finds_next : (r : Found) → (label_at s p ≡ k → ⊥) → Finds s (span m e) k r → Finds s (span p e) k r
  finds_next r q f ls h =
      let a = labels_parts ls g n h in
      let y = f a.others a.others_is in
      let x : find k ls ≡ find k a.others = ap (find k) a.same ∙ find_later k a.key a.array a.others (λ z. q (a.entry.label_is ∙ sym z)) in
      record {
        part = λ b z.
            let c = y.part b z in
            record {
              array = c.array;
              front = entry_bytes a.key a.array ++ c.front;
              back = c.back;
              same = x ∙ c.same;
              front_is = is_join a.first_is c.front_is;
              array_is = c.array_is;
              back_is = c.back_is;
              heads = omega (arith, c.heads, a.entry.after);
              within = c.within;
              put_is = λ i o u.
                  let ok : OkL (label a.key a.array a.others) i = subst (λ l. OkL l i) a.same o in
                  let l : a.key < k = find_above k (list c.array) a.others a.key ok.3 c.same in
                  ap (λ l. labels_bytes (put k u l)) a.same ∙ ap labels_bytes (put_later k a.key u a.array a.others l)
                  ∙ labels_first a.key a.array (put k u a.others) ∙ ap (λ l. entry_bytes a.key a.array ++ l) (c.put_is a.key ok.3 u)
                  ∙ sym (append_assoc (entry_bytes a.key a.array) c.front (entry_bytes k u ++ c.back));
            };
        missing = λ z. x ∙ y.missing z;
      }

-- ---- the trees of the array that was found stand there
pub holds_found : {s : List ℕ} {p e : ℕ} (k : ℕ) {r : Found} {f t : ℕ} → Holds labels_bytes s p e → Finds s (span p e) k r → r ≡ Some (span f t) → Holds trees_bytes s f t
holds_found k {r} {f} {t} h g q = let a = (g h.value h.value_is).part (span f t) q in record { value = a.array; value_is = a.array_is }
