-- Laws of the exact sum: an integer more, whether it fits 64 bits, and its bits.
use Rattle.std.specs.Prelude.{◌≡◌, true, ℤ, pos, negsuc, neg_ℤ, ◌+ℤ◌, ◌-ℤ◌, eqb, ltb}
use Rattle.std.proofs.Math.Path.{refl, sym, ap}
use Rattle.std.proofs.Common.{ap₂, subst, ◌∙◌}
use Rattle.std.proofs.Math.Option.{Option, none, some}
use Prim.Native.Nat.{ℕ, zero, suc, ◌+◌, ◌-◌, ◌*◌, ◌/◌, ◌%◌, ◌^◌, ◌≤◌, ◌<◌}
use native.Mathlib.Omega.{arith}
use Rattle.std.proofs.Math.IntN.{sub_ℕ, +ℤ_idl, +ℤ_idr, +ℤ_assoc, +ℤ_comm, +ℤ_invr, neg_ℤ-+ℤ}
use Rattle.std.specs.Int.Signed.{mag}
use borrow.Author.Tests.{ltb-true, ltb-false, eqb-true, eqb-false, ne_eqb}
use Rattle.spec_trees.specs.Options.{maybe}
use Rattle.spec_trees.specs.Bytes.{pattern}
use Rattle.spec_trees.specs.Decode.{signed}
use Rattle.spec_trees.specs.OptionLaws.{ltb_yes, ltb_no, split}
use Rattle.spec_stages.specs.Totals.{totals, counted, fits_signed}
use Rattle.totals.specs.declared.exact.Total.{Total}
use Rattle.totals.specs.Exact.{half, middle, Counts, IsTotal, Sound, Adds, Fits, BitsOf}

-- ---- differences of two numbers
sub_pos : (a b : ℕ) → b ≤ a → sub_ℕ a b ≡ pos (a - b)
sub_pos a b h = rw (ltb_no a b h) refl

sub_neg : (a b : ℕ) → a < b → sub_ℕ a b ≡ negsuc (b - suc a)
sub_neg a b h = rw (ltb_yes a b h) refl

sub_is : (a b : ℕ) → sub_ℕ a b ≡ pos a -ℤ pos b
sub_is a zero = let e : a - 0 ≡ a + 0 = omega arith in sub_pos a 0 (omega arith) ∙ ap pos e
sub_is a (suc b) = refl

-- they are added side by side
exchange : (a b c d : ℤ) → (a +ℤ b) +ℤ (c +ℤ d) ≡ (a +ℤ c) +ℤ (b +ℤ d)
exchange a b c d =
    +ℤ_assoc a b (c +ℤ d)
    ∙ ap (λ z. a +ℤ z) (sym (+ℤ_assoc b c d) ∙ ap (λ z. z +ℤ d) (+ℤ_comm b c) ∙ +ℤ_assoc c b d)
    ∙ sym (+ℤ_assoc a c (b +ℤ d))

sub_sum : (a b c d : ℕ) → sub_ℕ a b +ℤ sub_ℕ c d ≡ sub_ℕ (a + c) (b + d)
sub_sum a b c d =
    ap₂ ◌+ℤ◌ (sub_is a b) (sub_is c d) ∙ exchange (pos a) (neg_ℤ (pos b)) (pos c) (neg_ℤ (pos d))
    ∙ ap (λ z. pos (a + c) +ℤ z) (sym (neg_ℤ-+ℤ (pos b) (pos d))) ∙ sym (sub_is (a + c) (b + d))

-- and are the same where the cross sums are
sub_more : (a b c : ℕ) → sub_ℕ (a + c) (b + c) ≡ sub_ℕ a b
sub_more a b c = sym (sub_sum a b c c) ∙ ap (λ z. sub_ℕ a b +ℤ z) (sub_is c c ∙ +ℤ_invr (pos c)) ∙ +ℤ_idr (sub_ℕ a b)

sub_same : (a b c d : ℕ) → a + d ≡ c + b → sub_ℕ a b ≡ sub_ℕ c d
sub_same a b c d e =
    let f : b + d ≡ d + b = omega arith in
    sym (sub_more a b d) ∙ ap₂ sub_ℕ e f ∙ sub_more c d b

-- ---- 64 bits: the top one takes a half away
bits_sub : (x : ℕ) → x < 2 ^ 64 → signed x ≡ sub_ℕ (x % half) (x / half * half)
unfolding signed
bits_sub x h = split (ltb x half)
    (λ e.
    let l = ltb-true x half e in
    let m : x ≡ x % half - x / half * half = omega arith in
    rw (e, signed) (ap pos m ∙ sym (sub_pos (x % half) (x / half * half) (omega arith))))
    (λ e.
    let l = ltb-false x half e in
    let m : 2 ^ 64 - 1 - x ≡ x / half * half - suc (x % half) = omega arith in
    rw (e, signed) (ap negsuc m ∙ sym (sub_neg (x % half) (x / half * half) (omega arith))))

-- ---- no integer, and one more
pub none_is : IsTotal record { count = 0; high = middle; low = 0 } none
unfolding counted maybe
none_is = record { counts = refl; least = omega arith; most = omega arith; below = omega arith; value = refl }

counts_more : (n : ℕ) (y : Option ℤ) (z : ℤ) → Counts (n + 1) (totals.plus y (some z))
counts_more n none z = omega arith
counts_more n (some a) z = omega arith

counted_more : (y : Option ℤ) (z : ℤ) → counted (totals.plus y (some z)) ≡ counted y +ℤ z
unfolding counted maybe
counted_more none z = sym (+ℤ_idl z)
counted_more (some a) z = refl

-- the low words are added, and a half of their sum goes to the high word, which the top bit takes one from
module _ {t r : Total} {x l : ℕ} where
  pub adds_more : x < 2 ^ 64 → l ≡ t.low + x % half → r.count ≡ t.count + 1 → r.high + x / half ≡ t.high + l / half → r.low ≡ l % half
      → Adds t r (some (signed x))
  adds_more h e c u d y g =
      let a = t.high * half + t.low in
      let b = r.high * half + r.low in
      let m = g.below in
      let f : a + x % half + middle * half ≡ b + (middle * half + x / half * half) = omega arith in
      record {
        counts = subst (λ n. Counts n (totals.plus y (some (signed x)))) (sym c) (counts_more t.count y (signed x));
        least = omega (arith, g.least);
        most = omega (arith, g.most);
        below = omega arith;
        value =
            counted_more y (signed x) ∙ ap₂ ◌+ℤ◌ g.value (bits_sub x h)
            ∙ sub_sum a (middle * half) (x % half) (x / half * half)
            ∙ sub_same (a + x % half) (middle * half + x / half * half) b (middle * half) f;
      }

-- ---- one after another: what r has more than t, and v more than r
pub adds_none : (t : Total) → Adds t t none
adds_none t none g = g
adds_none t (some z) g = g

pub adds_seq : {t r v : Total} {x y : Option ℤ} → Adds t r x → Adds r v y → Adds t v (totals.plus x y)
adds_seq {t} {r} {v} {x} {y} f g z h = subst (IsTotal v) (totals.plus_shifted z x y) (g (totals.plus z x) (f z h))

pub adds_sound : {t r : Total} {x : Option ℤ} → Sound t → Adds t r x → Sound r
adds_sound s f = record { sum = _; sum_is = f s.sum s.sum_is }

-- ---- the range: at or above the middle, or below it
module _ {t : Total} {z : ℤ} (g : IsTotal t (some z)) where
  value_is : z ≡ sub_ℕ (t.high * half + t.low) (middle * half)
  unfolding counted maybe
  value_is = g.value

  at_least : middle ≤ t.high → z ≡ pos ((t.high - middle) * half + t.low)
  at_least l =
      let e : t.high * half + t.low - middle * half ≡ (t.high - middle) * half + t.low = omega arith in
      value_is ∙ sub_pos (t.high * half + t.low) (middle * half) (omega arith) ∙ ap pos e

  less : t.high < middle → z ≡ negsuc ((middle - t.high) * half - suc t.low)
  less l =
      let b = g.below in
      let e : middle * half - suc (t.high * half + t.low) ≡ (middle - t.high) * half - suc t.low = omega arith in
      value_is ∙ sub_neg (t.high * half + t.low) (middle * half) (omega arith) ∙ ap negsuc e

-- ---- whether it fits
module _ {t : Total} where
  pub fits_middle : t.high ≡ middle → Fits t true
  unfolding fits_signed maybe
  fits_middle e none g = refl
  fits_middle e (some z) g =
      let m = ap mag (at_least g (omega arith)) in
      sym (ltb_yes (mag z) half (omega (arith, m, g.below)))

  -- a half below the middle, or not
  pub fits_below : {n : ℕ} → n ≡ middle - 1 → (t.high ≡ middle → ⊥) → Fits t (eqb t.high n)
  unfolding fits_signed maybe
  fits_below q n none g = absurd (n (omega (arith, g.counts, g.least, g.most)))
  fits_below {n = k} q n (some z) g = split (ltb t.high middle)
      (λ e.
      let m = ap mag (less g (ltb-true t.high middle e)) in
      split (eqb t.high k)
      (λ o. o ∙ sym (ltb_yes (mag z) half (omega (arith, eqb-true t.high k o, m, g.below))))
      (λ o. o ∙ sym (ltb_no (mag z) half (omega (arith, eqb-false t.high k o, m, ltb-true t.high middle e, g.below)))))
      (λ e.
      let l = ltb-false t.high middle e in
      ne_eqb t.high k (λ o. omega arith) ∙ sym (ltb_no (mag z) half (omega (arith, ap mag (at_least g l)))))

  -- ---- its bits
  pub bits_middle : t.high ≡ middle → BitsOf t t.low
  unfolding pattern
  bits_middle e z g f =
      let m : (t.high - middle) * half + t.low ≡ t.low = omega arith in
      sym (ap pattern (at_least g (omega arith)) ∙ m)

  pub bits_below : {x : ℕ} → x ≡ t.low + half → (t.high ≡ middle → ⊥) → BitsOf t x
  unfolding pattern fits_signed maybe
  bits_below {x} q n z g f =
      let k = ltb-true (mag z) half f in
      split (ltb t.high middle)
      (λ e.
      let l = ltb-true t.high middle e in
      let d = less g l in
      let m : 2 ^ 64 - 1 - ((middle - t.high) * half - suc t.low) ≡ x = omega (arith, ap mag d, g.below) in
      sym (ap pattern d ∙ m))
      (λ e. absurd (omega (arith, n, ltb-false t.high middle e, ap mag (at_least g (ltb-false t.high middle e)))))
