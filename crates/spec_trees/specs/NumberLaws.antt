-- Numbers in bytes, high byte first, and two's complement: each is read back from the other.
use Rattle.std.specs.Prelude.{◌≡◌, refl, List, [], ◌∷◌, reverse, Bool, true, false, ℕ, zero, suc, ◌+◌, ◌-◌, ◌*◌, ◌/◌, ◌%◌, ◌^◌, ◌≤◌, ◌<◌, length, ℤ, pos, negsuc, ltb}
use Rattle.std.proofs.Common.{ap, ◌∙◌, div-lt_iff_lt-mul, zero-lt-suc, pow-suc, arith, ltb→lt, nltb→le}
use Rattle.std.proofs.lemmas.List.{reverse-reverse, length-reverse}
use Rattle.std.proofs.Math.Nat.{mod-add-div, pow-zero}
use Rattle.std.specs.Int.Signed.{mag}
use Rattle.spec_trees.specs.Bytes.{low, big, pattern}
use Rattle.spec_trees.specs.Readers.{low_value, big_value}
use Rattle.spec_trees.specs.Decode.{signed}
use Rattle.spec_trees.specs.Within.{AllBytes}
use Rattle.spec_trees.specs.OptionLaws.{true_T, false_T, ltb_yes, ltb_no}
use Rattle.spec_trees.specs.ListLaws.{All-reverse}

-- ---- written and read
length_low : (n w : ℕ) → length (low n w) ≡ n
unfolding low
length_low zero w = refl
length_low (suc n) w = ap suc (length_low n (w / 256))

pub length_big : (n w : ℕ) → length (big n w) ≡ n
unfolding big
length_big n w = length-reverse (low n w) ∙ length_low n w

low_back : (n w : ℕ) → w < 256 ^ n → low_value (low n w) ≡ w
unfolding low low_value
low_back zero w h = omega (arith, h)
low_back (suc n) w h =
    let q : w / 256 < 256 ^ n = (div-lt_iff_lt-mul (zero-lt-suc 255)).1 (rw pow-suc at h) in
    rw (low_back n (w / 256) q) (mod-add-div w 256)

pub big_back : (n w : ℕ) → w < 256 ^ n → big_value (big n w) ≡ w
unfolding big big_value
big_back n w h = rw reverse-reverse (low_back n w h)

pub signed_back : (z : ℤ) → mag z < 2 ^ 63 → signed (pattern z) ≡ z
unfolding signed pattern
signed_back (pos n) h = rw (ltb_yes n (2 ^ 63) h, signed) refl
signed_back (negsuc n) h =
    let q : 2 ^ 63 ≤ 2 ^ 64 - 1 - n = omega arith in
    let e : 2 ^ 64 - 1 - (2 ^ 64 - 1 - n) ≡ n = omega arith in
    rw (ltb_no (2 ^ 64 - 1 - n) (2 ^ 63) q, signed) (ap negsuc e)

pub pattern_lt : (z : ℤ) → mag z < 2 ^ 63 → pattern z < 256 ^ 8
unfolding pattern
pattern_lt (pos n) h = omega arith
pattern_lt (negsuc n) h = omega arith

-- ---- read and written
pub low_form : (c : List ℕ) → AllBytes c → low (length c) (low_value c) ≡ c
unfolding low low_value
low_form [] h = refl
low_form (x ∷ c) h =
    let e : (x + 256 * low_value c) % 256 ≡ x = omega (arith, h.0) in
    let q : (x + 256 * low_value c) / 256 ≡ low_value c = omega (arith, h.0) in
    rw (e, q, low_form c h.1) refl

low_lt : (c : List ℕ) → AllBytes c → low_value c < 256 ^ length c
unfolding low_value
low_lt [] h = rw pow-zero (omega arith)
low_lt (x ∷ c) h = let q = low_lt c h.1 in rw pow-suc (omega (arith, h.0))

pub big_form : (c : List ℕ) → AllBytes c → big (length c) (big_value c) ≡ c
unfolding big big_value
big_form c h = rw (← length-reverse c, low_form (reverse c) (All-reverse (λ x. x < 256) c h)) (reverse-reverse c)

pub big_lt : (c : List ℕ) → AllBytes c → big_value c < 256 ^ length c
unfolding big_value
big_lt c h = rw (← length-reverse c) (low_lt (reverse c) (All-reverse (λ x. x < 256) c h))

pub signed_form : (w : ℕ) → w < 2 ^ 64 → (pattern (signed w) ≡ w) × (mag (signed w) < 2 ^ 63)
unfolding signed pattern
signed_form w h = go (ltb w (2 ^ 63)) refl
  where
    go : (b : Bool) → ltb w (2 ^ 63) ≡ b → (pattern (signed w) ≡ w) × (mag (signed w) < 2 ^ 63)
    go true e = let q : w < 2 ^ 63 = ltb→lt _ _ (true_T e) in rw (e, signed) (refl, q)
    go false e = let q : 2 ^ 63 ≤ w = nltb→le _ _ (false_T e) in rw (e, signed) (omega arith, omega arith)
