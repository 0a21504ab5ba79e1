-- Laws of fields that stand one behind another.
use Rattle.std.specs.Prelude.{◌≡◌, List, map, [], ◌∷◌, ℕ, ◌+◌, ◌≤◌, length, Option, Some, None}
use Rattle.std.proofs.Common.{sym, ap, subst, ◌∙◌, arith}
use Rattle.spec_trees.specs.Bytes.{Field, bytes}
use Rattle.areas.specs.Area.{Is, field_end}
use Rattle.areas.specs.declared.span.Span.{Span}
use Rattle.format.specs.declared.fields.Fields.{Fields}
use Rattle.format.specs.Stand.{Holds}
use Rattle.format.specs.Fields.{Gives, Going}
use Rattle.format.specs.StandLaws.{FieldParts, field_parts}

-- where the first ends, and those behind it
module _ {s : List ℕ} {p m e : ℕ} (n : p ≡ e → ⊥) (g : m ≡ field_end s p) where
  parts : (fs : List Field) → Is s p e (bytes fs) → (f : Field) × (gs : List Field) × FieldParts s p m e f gs
  unfolding bytes
  parts [] h = absurd (n (omega (arith, h.ends)))
  parts (f ∷ fs) h = (f, fs, field_parts f fs g h)

  pub fields_places : Holds bytes s p e → (p + 3 ≤ m) × (m ≤ e) × (e ≤ length s)
  fields_places h = let a = (parts h.value h.value_is).2 in (a.after, a.within, h.value_is.inside)

  pub fields_rest : Holds bytes s p e → Holds bytes s m e
  fields_rest h = let a = parts h.value h.value_is in record { value = a.1; value_is = a.2.rest_is }

-- values that are written as fields
pub fields_of : {A : Type 0} (f : A → Field) {s : List ℕ} {p e : ℕ} → Holds (λ xs. bytes (map f xs)) s p e → Holds bytes s p e
fields_of f h = record { value = map f h.value; value_is = h.value_is }

-- ---- one turn of a loop over fields of q up to e
pub begun : {s : Fields} {q : List ℕ} {p e : ℕ} {P : ℕ → Type 0} → s.area.now ≡ q → s.at ≡ p → s.end ≡ e → Holds bytes q p e → P p → Going q e P s
begun {s} {q} {p} {e} {P} a b c h i = record {
  left = subst (λ z. Holds bytes z s.at s.end) (sym a) (subst (λ z. Holds bytes q z s.end) (sym b) (subst (Holds bytes q p) (sym c) h));
  area_is = a;
  end_is = c;
  holds = subst P (sym b) i;
}

-- what is known at a field, and that the loop goes on behind it
pub record Took (q : List ℕ) (e : ℕ) (P : ℕ → Type 0) (x : Span) (t : Fields) : Type 1 where
  pub before : x.from ≡ e → ⊥
  pub ends : x.to ≡ field_end q x.from
  pub holds : P x.from
  pub goes_on : {Q : ℕ → Type 0} → Q x.to → Going q e Q t

module _ {q : List ℕ} {e : ℕ} {P : ℕ → Type 0} {s t : Fields} {r : Option Span} (g : Going q e P s) (h : Gives s r t) where
  pub took : {x : Span} → r ≡ Some x → Took q e P x t
  took {x} z =
      let a = h.field x z in
      let n : x.from ≡ e → ⊥ = λ w. a.before (sym a.begins ∙ w ∙ sym g.end_is) in
      let y : x.to ≡ field_end q x.from = a.ends ∙ ap (λ w. field_end w s.at) g.area_is ∙ ap (field_end q) (sym a.begins) in
      let l = fields_rest a.before a.ends g.left in
      record {
        before = n;
        ends = y;
        holds = subst P (sym a.begins) g.holds;
        goes_on = λ {Q} i. begun (a.area_is ∙ g.area_is) a.at_is (a.end_is ∙ g.end_is)
            (subst (Holds bytes q x.to) g.end_is (subst (λ w. Holds bytes w x.to s.end) g.area_is l)) i;
      }

  -- or it has reached the end
  pub ended : r ≡ None → P e
  ended z = subst P (h.none z ∙ g.end_is) g.holds
