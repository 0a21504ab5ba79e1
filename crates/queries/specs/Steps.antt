-- The steps of a path that stands in a query's bytes by its whole field: how many, and the label of each. They are read
-- nowhere else.
use Rattle.std.specs.Prelude.{List, ℕ, ◌+◌, ◌-◌, ◌<◌, length, get_or}
use Rattle.areas.specs.declared.span.Span.{Span}

-- of a path's content, from p to e
abbrev pub count_in : ℕ → ℕ → ℕ
count_in p e = e - p

abbrev pub step_in : List ℕ → ℕ → ℕ → ℕ
step_in q p i = get_or q (p + i) 0

-- of a path, its head before its content
unfoldable pub step_count : List ℕ → Span → ℕ
step_count q at = count_in (at.from + 3) at.to

unfoldable pub step_at : List ℕ → Span → ℕ → ℕ
step_at q at i = step_in q (at.from + 3) i

-- step i can be read
abbrev pub StepInside : List ℕ → Span → ℕ → Type 0
StepInside q at i = at.from + 3 + i < length q
