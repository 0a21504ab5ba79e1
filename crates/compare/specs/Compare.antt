-- Bytes compared, and in how many steps.
use Rattle.std.specs.Prelude.{◌≡◌, List, ℕ, ◌+◌, ◌/◌, ◌%◌, ◌≤◌, length, take, drop}
use Rattle.spec_trees.specs.Lists.{same_bytes}
use Rattle.spec_trees.specs.Readers.{low_value}
use Rattle.compare.specs.declared.compare.Comparison.{Comparison}

-- one step for each eight of n bytes, and one for each byte left over
abbrev pub steps_for : ℕ → ℕ
steps_for n = n / 8 + n % 8

-- What comparing answers: whether the two are the same bytes. Equal ones take just these steps, and others at most as many.
pub record IsComparison (one other : List ℕ) (r : Comparison) : Type 0 where
  pub outcome : r.same ≡ same_bytes one other
  pub equal : one ≡ other → r.steps ≡ steps_for (length one)
  pub most : (r.steps ≤ steps_for (length one)) × (r.steps ≤ steps_for (length other))

-- ---- in the terms of the code

-- n bytes from `at` on as one number, low byte first
abbrev pub low_at : ℕ → List ℕ → ℕ → ℕ
low_at n s at = low_value (take n (drop at s))

-- from i on all is the same, and the steps that were taken and those for what is left are those for the whole
pub record SameFrom (one other : List ℕ) (i taken : ℕ) : Type 0 where
  pub lengths : length one ≡ length other
  pub inside : i ≤ length one
  pub same : drop i one ≡ drop i other
  pub left : taken + steps_for i ≡ steps_for (length one)
