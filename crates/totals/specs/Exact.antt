-- The exact sum of integers, in two words.
use Rattle.std.specs.Prelude.{◌≡◌, Bool, true, ℕ, ◌+◌, ◌*◌, ◌^◌, ◌≤◌, ◌<◌, ℤ}
use Rattle.std.proofs.Math.Option.{Option, none, some}
use Rattle.std.proofs.Math.IntN.{sub_ℕ}
use Rattle.spec_trees.specs.Bytes.{pattern}
use Rattle.spec_stages.specs.Totals.{fits_signed, totals, counted}
use Rattle.totals.specs.declared.exact.Total.{Total}

-- what `high` counts
abbrev pub half : ℕ
half = 2 ^ 63

-- `high` of the sum 0, and so many integers may be added
abbrev pub middle : ℕ
middle = 65536

-- n integers were added: none, which have no total, or some, which have one
abbrev pub Counts : ℕ → Option ℤ → Type 0
Counts n none = n ≡ 0
Counts n (some z) = 0 < n

-- t is the total x
pub record IsTotal (t : Total) (x : Option ℤ) : Type 0 where
  pub counts : Counts t.count x
  pub least : middle ≤ t.high + t.count
  pub most : t.high ≤ middle + t.count
  pub below : t.low < half
  pub value : counted x ≡ sub_ℕ (t.high * half + t.low) (middle * half)

-- r is whether the total that t is fits a signed integer of 64 bits
abbrev pub Fits : Total → Bool → Type 0
Fits t r = (x : Option ℤ) → IsTotal t x → r ≡ fits_signed x

-- r is its bits, if it fits
abbrev pub BitsOf : Total → ℕ → Type 0
BitsOf t r = (z : ℤ) → IsTotal t (some z) → fits_signed (some z) ≡ true → r ≡ pattern z

-- t is some total
pub record Sound (t : Total) : Type 0 where
  pub sum : Option ℤ
  pub sum_is : IsTotal t sum

-- whatever total t is, r is that with x more
abbrev pub Adds : Total → Total → Option ℤ → Type 0
Adds t r x = (y : Option ℤ) → IsTotal t y → IsTotal r (totals.plus y x)
