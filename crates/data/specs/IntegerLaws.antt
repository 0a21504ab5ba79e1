-- Laws of integers as 64 bits, divided to nearest by their magnitude.
use Rattle.std.specs.Prelude.{◌≡◌, refl, List, negsuc, Ok}
use Rattle.std.proofs.Math.Path.{sym, ap}
use Rattle.std.proofs.Common.{subst, ◌∙◌, add-mul, one-mul, mul_left_comm, le-mul_of_pos_right, div-mul-le_self, div-lt_iff_lt-mul}
use Prim.Native.Nat.{ℕ, zero, suc, ◌+◌, ◌*◌, ◌-◌, ◌/◌, ◌^◌, ◌≤◌, ◌<◌}
use Rattle.std.proofs.Math.Nat.{lt-div-mul-add, div-eq_of_lt-le}
use native.Mathlib.Omega.{arith}
use Rattle.std.proofs.Math.IntN.{pos, neg_ℤ}
use Rattle.spec_trees.specs.Bytes.{big, pattern}
use Rattle.spec_trees.specs.Decode.{signed}
use Rattle.areas.specs.Area.{Wrote}
use Rattle.areas.specs.Number.{word_at}
use Rattle.areas.specs.NumberLaws.{word_is}
use Rattle.spec_trees.specs.OptionLaws.{ltb_yes, ltb_no}
use Rattle.spec_trees.specs.NumberLaws.{signed_back, pattern_lt, signed_form}
use Rattle.spec_stages.specs.Data.{nearest, reduced_int}
use Rattle.data.specs.Integer.{Reduces}

-- ---- to nearest

-- half the divisor is added: its odd half does not reach the next number
near_half : (n m : ℕ) → 0 < n → (m + n / 2) / n ≡ nearest n m
unfolding nearest
near_half n m h =
    let k = (m + n / 2) / n in
    let a : k * n ≤ m + n / 2 = div-mul-le_self (m + n / 2) n in
    let b : m + n / 2 < k * n + n = lt-div-mul-add {a = m + n / 2} h in
    let c : k * (2 * n) ≡ 2 * (k * n) = mul_left_comm k 2 n in
    let d : (k + 1) * (2 * n) ≡ k * (2 * n) + 2 * n = add-mul k 1 (2 * n) ∙ ap (λ i. k * (2 * n) + i) (one-mul (2 * n)) in
    sym (div-eq_of_lt-le {k = k} (2 * n) {m = 2 * m + n} (omega arith) (omega arith))

-- no larger than the number itself
pub near_le : (n m : ℕ) → 0 < n → (m + n / 2) / n ≤ m
near_le n m h =
    let a : m ≤ m * n = le-mul_of_pos_right m h in
    let b : (m + 1) * n ≡ m * n + n = add-mul m 1 n ∙ ap (λ k. m * n + k) (one-mul n) in
    let d : (m + n / 2) / n < m + 1 = (div-lt_iff_lt-mul h).1 (omega arith) in
    omega arith

-- ---- by magnitude
signed_pos : (x : ℕ) → x < 2 ^ 63 → signed x ≡ pos x
unfolding signed
signed_pos x h = rw (ltb_yes x (2 ^ 63) h, signed) refl

signed_neg : (x : ℕ) → 2 ^ 63 ≤ x → signed x ≡ negsuc (2 ^ 64 - 1 - x)
unfolding signed
signed_neg x h = rw (ltb_no x (2 ^ 63) h, signed) refl

negated : (k : ℕ) → 0 < k → neg_ℤ (pos k) ≡ negsuc (k - 1)
negated zero h = absurd (omega arith)
negated (suc k) h = let e : suc k - 1 ≡ k = omega arith in rw e refl

module _ (x n : ℕ) (h : 0 < n) where
  pub reduce_pos : x < 2 ^ 63 → signed ((x + n / 2) / n) ≡ reduced_int n (signed x)
  unfolding reduced_int
  reduce_pos b =
      signed_pos ((x + n / 2) / n) (omega (arith, near_le n x h)) ∙ ap pos (near_half n x h) ∙ sym (ap (reduced_int n) (signed_pos x b))

  module _ (b : 2 ^ 63 ≤ x) (f : x < 2 ^ 64) (m : ℕ) (is : m ≡ 2 ^ 64 - 1 - x + 1) where
    negative : reduced_int n (signed x) ≡ neg_ℤ (pos ((m + n / 2) / n))
    unfolding reduced_int
    negative =
        let e : suc (2 ^ 64 - 1 - x) ≡ m = omega arith in
        ap (reduced_int n) (signed_neg x b) ∙ ap (λ k. neg_ℤ (pos (nearest n k))) e ∙ ap (λ k. neg_ℤ (pos k)) (sym (near_half n m h))

    pub reduce_zero : (m + n / 2) / n ≡ 0 → signed 0 ≡ reduced_int n (signed x)
    reduce_zero z = signed_pos 0 (omega arith) ∙ sym (negative ∙ ap (λ k. neg_ℤ (pos k)) z)

    pub reduce_neg : ((m + n / 2) / n ≡ 0 → ⊥) → signed (2 ^ 64 - 1 - (m + n / 2) / n + 1) ≡ reduced_int n (signed x)
    reduce_neg z =
        let k : ℕ = (m + n / 2) / n in
        let l : k ≤ m = near_le n m h in
        let e : 2 ^ 64 - 1 - (2 ^ 64 - 1 - k + 1) ≡ k - 1 = omega arith in
        signed_neg (2 ^ 64 - 1 - k + 1) (omega arith) ∙ ap negsuc e ∙ sym (negative ∙ negated k (omega arith))

-- the integer that was read, divided and stored
pub reduces : (w v : List ℕ) (at n : ℕ) {x y : ℕ} → x ≡ word_at w at → y < 2 ^ 64 → signed y ≡ reduced_int n (signed x)
    → Wrote w v at (at + 8) (big 8 y) (Ok (at + 8)) → Reduces w v at n
reduces w v at n {x} {y} g b q k z m h =
    let e : x ≡ pattern z = g ∙ word_is (pattern z) (omega (arith, pattern_lt z m)) h in
    let s : signed y ≡ reduced_int n z = q ∙ ap (λ i. reduced_int n (signed i)) e ∙ ap (reduced_int n) (signed_back z m) in
    let p : y ≡ pattern (reduced_int n z) = sym (signed_form y b).0 ∙ ap pattern s in
    subst (λ i. Wrote w v at (at + 8) (big 8 i) (Ok (at + 8))) p k
