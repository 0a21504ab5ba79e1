-- A label's entry, one field of a tree: where its label stands, and where its trees begin. How many bytes stand before
-- them is `label_heads` of the trees' byte form. Only that, this and the laws beside both know how many bytes a label
-- takes.
use Rattle.std.specs.Prelude.{List, ℕ, ◌+◌, get_or, Option}
use Rattle.areas.specs.declared.span.Span.{Span}

-- where the trees of a label's array stand, or that the label is missing
abbrev pub Found : Type 0
Found = Option Span

-- of the entry whose head is at `at`: its label
abbrev pub label_at : List ℕ → ℕ → ℕ
label_at s at = get_or s (at + 3) 0

-- and where its trees begin
unfoldable pub trees_at : List ℕ → ℕ → ℕ
trees_at s at = at + get_or s at 0
