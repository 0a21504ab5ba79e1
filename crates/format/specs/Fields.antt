-- Fields that stand one behind another in a part of an area, as their iterator gives them.
use Rattle.std.specs.Prelude.{◌≡◌, Option, Some, None, List, ℕ, ◌-◌}
use Rattle.std.specs.Iterator.{Count, at_most}
use Rattle.spec_trees.specs.Bytes.{bytes}
use Rattle.areas.specs.declared.span.Span.{Span}
use Rattle.areas.specs.Area.{field_end}
use Rattle.format.specs.Stand.{Holds}
use Rattle.format.specs.declared.fields.Fields.{Fields}

-- what is left is fields
abbrev pub FieldsLeft : Fields → Type 0
FieldsLeft s = Holds bytes s.area.now s.at s.end

-- s gave the field x, at its place, and t goes on behind it
pub record Gave (s : Fields) (x : Span) (t : Fields) : Type 0 where
  pub before : s.at ≡ s.end → ⊥
  pub begins : x.from ≡ s.at
  pub ends : x.to ≡ field_end s.area.now s.at
  pub area_is : t.area.now ≡ s.area.now
  pub at_is : t.at ≡ x.to
  pub end_is : t.end ≡ s.end

-- s gave a field, or is at its end
pub record Gives (s : Fields) (r : Option Span) (t : Fields) : Type 0 where
  pub field : (x : Span) → r ≡ Some x → Gave s x t
  pub none : r ≡ None → s.at ≡ s.end

-- each takes a byte or more
abbrev pub fields_most : Fields → Count
fields_most s = at_most (s.end - s.at)

-- s goes through fields of q up to e, and P holds of where it is
pub record Going (q : List ℕ) (e : ℕ) (P : ℕ → Type 0) (s : Fields) : Type 0 where
  pub left : FieldsLeft s
  pub area_is : s.area.now ≡ q
  pub end_is : s.end ≡ e
  pub holds : P s.at
