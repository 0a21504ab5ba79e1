-- The tests of the check, one by one: of a child's tag and length, of a rule's children, of a path's steps, of a divisor.
use Rattle.std.specs.Prelude.{◌≡◌, List, ◌∷◌, true, false, ℕ, zero, suc, ◌+◌, ◌-◌, ◌*◌, ◌≤◌, ◌<◌, length, get_or, leb}
use Rattle.std.proofs.Math.Path.{refl, ap}
use Rattle.std.proofs.Math.Bool.{or-false}
use Rattle.std.proofs.Common.{◌∙◌, add-zero, arith}
use Rattle.std.proofs.Math.Seq.{slice, slice-cons, slice_empty}
use borrow.Author.Tests.{ne_eqb, le-leb, lt-leb}
use Rattle.spec_trees.specs.Options.{some?}
use Rattle.spec_trees.specs.Lists.{all}
use Rattle.spec_trees.specs.Limits.{divisor_max}
use Rattle.spec_trees.specs.Tree.{is_label}
use Rattle.spec_queries.specs.Query.{is_divisor}
use Rattle.spec_queries.specs.Decode.{divisor_r}
use Rattle.queries.specs.Steps.{count_in, step_in}
use Rattle.queries.specs.declared.table.Child.{Child}
use Rattle.queries.specs.declared.table.Rule.{Rule}
use Rattle.queries.specs.Table.{may_be, allowed, child_by, child_at}
use Rattle.queries.specs.CheckLaws.{divisor_is}

-- ---- the table
module _ (ch : Child) (t : ℕ) where
  pub may_second : t ≡ ch.also → may_be ch t ≡ true
  unfolding may_be
  may_second e = grind arith

  pub may_third : t ≡ ch.further → may_be ch t ≡ true
  unfolding may_be
  may_third e = grind arith

  module _ (s : t ≡ ch.also → ⊥) (h : t ≡ ch.further → ⊥) where
    pub may_below : t < ch.low → may_be ch t ≡ false
    unfolding may_be
    may_below l = rw (ne_eqb t ch.also s, ne_eqb t ch.further h, lt-leb ch.low t l) refl

    pub may_range : ch.low ≤ t → may_be ch t ≡ leb t ch.high
    unfolding may_be
    may_range l = rw (ne_eqb t ch.also s, ne_eqb t ch.further h, le-leb ch.low t l) (or-false (leb t ch.high))

  pub allowed_tag : (n : ℕ) → may_be ch t ≡ true → allowed ch t n ≡ leb ch.least n
  unfolding allowed
  allowed_tag n e = rw e refl

  pub allowed_other : (n : ℕ) → may_be ch t ≡ false → allowed ch t n ≡ false
  unfolding allowed
  allowed_other n e = rw e refl

module _ (r : Rule) where
  pub child_first : (n : ℕ) → n ≡ 0 → child_at r n ≡ child_by r.first
  unfolding child_at
  child_first n e = rw e refl

  pub child_second : (n : ℕ) → n ≡ 1 → child_at r n ≡ child_by r.second
  unfolding child_at
  child_second n e = rw e refl

  pub child_later : (n : ℕ) → (n ≡ 0 → ⊥) → (n ≡ 1 → ⊥) → child_at r n ≡ child_by r.rest
  unfolding child_at
  child_later zero a b = absurd (a refl)
  child_later (suc zero) a b = absurd (b refl)
  child_later (suc (suc n)) a b = refl

-- ---- paths
pub steps_number : (from to : ℕ) → count_in from to ≡ to - from
steps_number from to = refl

pub path_start : (s : List ℕ) (from to : ℕ) → all is_label (slice (from + 0) to s) ≡ all is_label (slice from to s)
path_start s from to = rw (add-zero from) refl

module _ (s : List ℕ) (from to : ℕ) (within : to ≤ length s) where
  module _ (i : ℕ) (more : from + i < to) where
    step : slice (from + i) to s ≡ step_in s from i ∷ slice (from + (i + 1)) to s
    step =
        let q : suc (from + i) ≡ from + (i + 1) = omega arith in
        slice-cons (from + i) to s 0 more within ∙ ap (λ k. get_or s (from + i) 0 ∷ slice k to s) q

    pub path_next : is_label (step_in s from i) ≡ true → all is_label (slice (from + i) to s) ≡ all is_label (slice (from + (i + 1)) to s)
    unfolding all
    path_next e = ap (all is_label) step ∙ rw e refl

    pub path_bad : is_label (step_in s from i) ≡ false → all is_label (slice (from + i) to s) ≡ false
    unfolding all
    path_bad e = ap (all is_label) step ∙ rw e refl

  pub path_end : (i : ℕ) → from + i ≡ to → all is_label (slice (from + i) to s) ≡ true
  unfolding all
  path_end i e = rw (e, slice_empty to s) refl

-- ---- divisors
module _ (s : List ℕ) (from to : ℕ) (within : to ≤ length s) (two : to - from ≡ 2) (n : ℕ) (q : n ≡ get_or s from 0 * 256 + get_or s (from + 1) 0) where
  pub divisor_low : n < 1 → some? (divisor_r (46, slice from to s)) ≡ false
  unfolding is_divisor
  divisor_low l = divisor_is s from to within two n q ∙ rw (lt-leb 1 n l) refl

  pub divisor_high : 1 ≤ n → some? (divisor_r (46, slice from to s)) ≡ leb n divisor_max
  unfolding is_divisor
  divisor_high l = divisor_is s from to within two n q ∙ rw (le-leb 1 n l) refl
