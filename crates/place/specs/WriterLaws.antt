-- Laws of paths that stand in a query's bytes: their labels, and the rest from a step on; and of what stands ready
-- for a writer: a tree, the array under its label, the trees of that array one after another.
use Rattle.std.specs.Prelude.{◌≡◌, List, [], ◌∷◌, ℕ, ◌+◌, ◌≤◌, ◌<◌, length, take, drop, get_or, T, Some}
use Rattle.std.proofs.Common.{sym, ap, subst, ◌∙◌, add-one, arith, drop_of_length-le, drop-cons}
use Rattle.spec_trees.specs.Limits.{label_max}
use Rattle.spec_trees.specs.Tree.{is_label}
use Rattle.spec_trees.specs.Bytes.{tree_bytes}
use Rattle.areas.specs.Area.{IsAt, span, field_end}
use Rattle.areas.specs.declared.span.Span.{Span}
use Rattle.format.specs.Stand.{trees_bytes, labels_bytes, Holds, Finds}
use Rattle.areas.specs.AreaLaws.{is_keep}
use Rattle.format.specs.StandLaws.{tree_places, trees_places, holds_labels, holds_first, holds_rest}
use Rattle.format.specs.LabelLaws.{holds_found}
use Rattle.spec_queries.specs.Query.{Path}
use Rattle.spec_queries.specs.PathLaws.{path_label, path_short}
use Rattle.spec_trees.specs.ByteLaws.{label_small}
use Rattle.queries.specs.Places.{path_bytes}
use Rattle.queries.specs.Steps.{step_count, step_at, StepInside}
use Rattle.queries.specs.StepLaws.{steps_are, step_is, step_inside, path_room}
use Rattle.place.specs.Writers.{Along, WriterReady}
use Rattle.format.specs.Labels.{Found}

-- of a path that is only known to stand there
module _ {q : List ℕ} {p : Span} (h : Along q p) where
  pub along_room : (p.from + 3 ≤ p.to) × (p.to ≤ length q)
  along_room = path_room h.path h.path_is

  pub along_short : step_count q p ≤ 8
  along_short = omega (arith, steps_are h.path h.path_is, path_short h.path h.allowed)

  module _ (i : ℕ) (l : i < step_count q p) where
    before_end : i < length h.path
    before_end = omega (arith, steps_are h.path h.path_is)

    pub along_inside : StepInside q p i
    along_inside = step_inside h.path h.path_is i before_end

    pub along_label : T (is_label (step_at q p i))
    along_label = subst (λ k. T (is_label k)) (sym (step_is h.path h.path_is i before_end)) (path_label h.path i before_end h.allowed)

    pub along_small : step_at q p i ≤ label_max
    along_small = label_small (step_at q p i) along_label

-- the rest of a path from a step on
pub rest_of : {q : List ℕ} {p : Span} (path : Path) (i : ℕ) {k : ℕ} → IsAt q p (path_bytes path) → i < step_count q p → k ≡ step_at q p i → drop i path ≡ k ∷ drop (i + 1) path
rest_of path i h l z =
    let b : i < length path = omega (arith, steps_are path h) in
    drop-cons path i 0 b ∙ ap (λ m. get_or path i 0 ∷ drop m path) (sym (add-one i)) ∙ ap (λ x. x ∷ drop (i + 1) path) (sym (z ∙ step_is path h i b))

pub rest_none : {q : List ℕ} {p : Span} (path : Path) (i : ℕ) → IsAt q p (path_bytes path) → i ≡ step_count q p → drop i path ≡ []
rest_none path i h z = drop_of_length-le path {i = i} (omega (arith, steps_are path h))

-- ---- what stands ready
pub step_before : {i n m : ℕ} → i ≤ m → n ≡ m → (i ≡ n → ⊥) → i < m
step_before a b c = omega arith

module _ {w q : List ℕ} {p : Span} {i a b d stop : ℕ} (h : WriterReady tree_bytes w q p i (span a b) (span d stop)) where
  pub ready_places : {l : ℕ} → l ≡ field_end w (a + 3) → (a + 6 ≤ l) × (l ≤ b) × (b ≤ length w)
  ready_places g = tree_places h.source g

  pub ready_labels : {l : ℕ} → l ≡ field_end w (a + 3) → Holds labels_bytes w l b
  ready_labels g = holds_labels h.source g

  -- the array under a label, with room for n bytes of heads
  pub ready_array : {l : ℕ} (k : ℕ) {o : Found} {c u : ℕ} (n : ℕ) → i < step_count q p → l ≡ field_end w (a + 3) → Finds w (span l b) k o → o ≡ Some (span c u) → d + n ≤ stop
      → WriterReady trees_bytes w q p (i + 1) (span c u) (span (d + n) stop)
  ready_array {l} k {o} {c} {u} n s g f z r =
      let ls = holds_labels h.source g in
      let y = (f ls.value ls.value_is).part (span c u) z in
      record {
        along = h.along;
        step = omega arith;
        source = holds_found k ls f z;
        below = omega (arith, h.below, y.within);
        room = r;
        inside = h.inside;
        small = h.small;
      }

module _ {w q : List ℕ} {p : Span} {i a b d stop : ℕ} (h : WriterReady trees_bytes w q p i (span a b) (span d stop)) (n : a ≡ b → ⊥) where
  pub ready_first : {m : ℕ} → m ≡ field_end w a → WriterReady tree_bytes w q p i (span a m) (span d stop)
  ready_first g = record {
    along = h.along;
    step = h.step;
    source = holds_first h.source n g;
    below = omega (arith, h.below, trees_places h.source n g);
    room = h.room;
    inside = h.inside;
    small = h.small;
  }

  -- in an area that is the same below d
  pub ready_rest : {m : ℕ} {x : List ℕ} {s : ℕ} → m ≡ field_end w a → take d x ≡ take d w → length x ≡ length w → d ≤ s → s ≤ stop
      → WriterReady trees_bytes x q p i (span m b) (span s stop)
  ready_rest g k l u o =
      let y = holds_rest h.source n g in
      record {
        along = h.along;
        step = h.step;
        source = record { value = y.value; value_is = is_keep y.value_is k h.below };
        below = omega (arith, h.below);
        room = o;
        inside = omega (arith, h.inside);
        small = omega (arith, h.small);
      }
