-- What a value becomes is a bare tree within the limits, of at most 86 bytes; and a number has at most eight digits.
use Rattle.std.specs.Prelude.{◌≡◌, refl, List, [], ◌∷◌, true, ◌&&◌, not, ℕ, zero, suc, ◌+◌, ◌*◌, ◌^◌, ◌≤◌, ◌<◌, ℤ, pos, neg_ℤ, length, eqb, leb}
use Rattle.std.proofs.Common.{subst, arith, leb-true}
use Rattle.std.proofs.Math.Option.{Option, none, some, map}
use Rattle.std.specs.Int.Signed.{mag}
use Rattle.spec_trees.specs.Options.{maybe}
use Rattle.spec_trees.specs.Lists.{all}
use Rattle.spec_trees.specs.OptionLaws.{only_some, map_some, T_true, both_true, cond_cases, some_equal}
use Rattle.spec_trees.specs.Tree.{Root, integer, text, Tree}
use Rattle.spec_trees.specs.Size.{root_size, size, depth}
use Rattle.spec_trees.specs.Within.{OkR, Ok, AllBytes}
use Rattle.spec_tracer.specs.Limits.{whole_max}
use Rattle.spec_tracer.specs.Message.{is_digit, is_value_byte, is_value, front, behind}
use Rattle.spec_tracer.specs.Values.{minus, point, digit, decimal, parts, fraction, amount, hundredths, job_label, value_root, value_tree}
use Rattle.spec_tracer.specs.FrontLaws.{front_all}
use Rattle.spec_tracer.specs.LineLaws.{value_bytes, value_short}

-- ---- digits
pub digit_most : (b : ℕ) → is_digit b ≡ true → digit b ≤ 9
unfolding is_digit digit
digit_most b h = omega (arith, leb-true b 57 (both_true (leb 48 b) (leb b 57) h).1)

-- the number that k nines write behind those that wrote n
nines : ℕ → ℕ → ℕ
nines n zero = n
nines n (suc k) = nines (n * 10 + 9) k

nines_least : (n k : ℕ) → n ≤ nines n k
unfolding nines
nines_least n zero = omega arith
nines_least n (suc k) = omega (arith, nines_least (n * 10 + 9) k)

decimal_nines : (c : List ℕ) (n m k : ℕ) → all is_digit c ≡ true → n ≤ m → length c ≤ k → decimal n c ≤ nines m k
unfolding decimal nines all
decimal_nines [] n m k h a b = omega (arith, nines_least m k)
decimal_nines (x ∷ c) n m zero h a b = absurd (omega (arith, b))
decimal_nines (x ∷ c) n m (suc k) h a b =
    let p = both_true (is_digit x) (all is_digit c) h in
    decimal_nines c (n * 10 + digit x) (m * 10 + 9) k p.1 (omega (arith, digit_most x p.0)) (omega (arith, b))

pub decimal_most : (c : List ℕ) → all is_digit c ≡ true → length c ≤ whole_max → decimal 0 c ≤ 999999
unfolding nines
decimal_most c h l = decimal_nines c 0 0 whole_max h (omega arith) l

pub decimal_least : (n : ℕ) (c : List ℕ) → n ≤ decimal n c
unfolding decimal
decimal_least n [] = omega arith
decimal_least n (x ∷ c) = omega (arith, decimal_least (n * 10 + digit x) c)

parts_most : (c : List ℕ) (f : ℕ) → parts c ≡ some f → f ≤ 99
unfolding parts
parts_most [] f e = let z : ◌≡◌ {A = ℕ} 0 1 = cc in absurd (omega arith)
parts_most (x ∷ []) f e =
    let (t, z) = only_some (is_digit x) (some (digit x * 10)) e in
    omega (arith, digit_most x (T_true (is_digit x) t), some_equal (digit x * 10) f z)
parts_most (x ∷ y ∷ []) f e =
    let (t, z) = only_some (is_digit x && is_digit y) (some (digit x * 10 + digit y)) e in
    let p = both_true (is_digit x) (is_digit y) (T_true (is_digit x && is_digit y) t) in
    omega (arith, digit_most x p.0, digit_most y p.1, some_equal (digit x * 10 + digit y) f z)
parts_most (x ∷ y ∷ u ∷ c) f e = let z : ◌≡◌ {A = ℕ} 0 1 = cc in absurd (omega arith)

pub fraction_most : (c : List ℕ) (f : ℕ) → fraction c ≡ some f → f ≤ 99
unfolding fraction
fraction_most [] f e = omega (arith, some_equal 0 f e)
fraction_most (b ∷ c) f e = let (t, z) = only_some (eqb b point) (parts c) e in parts_most c f z

pub amount_most : (c : List ℕ) (n : ℕ) → amount c ≡ some n → n ≤ 99999999
unfolding amount
amount_most c n e =
    let d = front is_digit c in
    let (t, z) = only_some (leb 1 (length d) && leb (length d) whole_max) _ e in
    let p = both_true (leb 1 (length d)) (leb (length d) whole_max) (T_true (leb 1 (length d) && leb (length d) whole_max) t) in
    let (f, y, w) = map_some (λ f. decimal 0 d * 100 + f) (fraction (behind is_digit c)) z in
    omega (arith, decimal_most d (front_all is_digit c) (leb-true (length d) whole_max p.1), fraction_most (behind is_digit c) f y, w)

-- ---- the integer is far inside 64 bits
mag_neg : (n : ℕ) → mag (neg_ℤ (pos n)) ≤ n
mag_neg zero = omega arith
mag_neg (suc n) = omega arith

signed_small : (f : ℕ → ℤ) (c : List ℕ) (z : ℤ) → ((n : ℕ) → mag (f n) ≤ n) → map f (amount c) ≡ some z → mag z < 2 ^ 63
signed_small f c z h e =
    let (n, a, b) = map_some f (amount c) e in
    subst (λ i. mag i < 2 ^ 63) b (omega (arith, h n, amount_most c n a))

hundredths_small : (v : List ℕ) (z : ℤ) → hundredths v ≡ some z → mag z < 2 ^ 63
unfolding hundredths
hundredths_small [] z e = let y : ◌≡◌ {A = ℕ} 0 1 = cc in absurd (omega arith)
hundredths_small (b ∷ c) z e =
    cond_cases (λ (x : Option ℤ). x ≡ some z → mag z < 2 ^ 63) (eqb b minus)
    (λ q k. signed_small (λ n. neg_ℤ (pos n)) c z mag_neg k)
    (λ q k. signed_small (λ n. pos n) (b ∷ c) z (λ n. omega arith) k) e

-- ---- the root
bytes_small : (v : List ℕ) → all is_value_byte v ≡ true → AllBytes v
unfolding all is_value_byte
bytes_small [] h = tt
bytes_small (b ∷ c) h =
    let p = both_true (is_value_byte b) (all is_value_byte c) h in
    let q = both_true (leb 32 b && leb b 126) (not (eqb b 59)) p.0 in
    (omega (arith, leb-true b 126 (both_true (leb 32 b) (leb b 126) q.0).1), bytes_small c p.1)

-- what holds of a root
record Small (r : Root) : Type 0 where
  ok : OkR r
  short : root_size r ≤ 83

text_small : (v : List ℕ) → is_value v ≡ true → Small (text v)
unfolding root_size
text_small v h = let l = value_short v h in record { ok = (omega (arith, l), bytes_small v (value_bytes v h)); short = omega (arith, l) }

number_small : (v : List ℕ) (x : Option ℤ) → is_value v ≡ true → ((z : ℤ) → x ≡ some z → mag z < 2 ^ 63) → Small (maybe (text v) integer x)
unfolding maybe root_size
number_small v none h k = text_small v h
number_small v (some z) h k = record { ok = k z refl; short = omega arith }

root_small : (k : ℕ) (v : List ℕ) → is_value v ≡ true → Small (value_root k v)
unfolding value_root root_size
root_small k [] h = record { ok = tt; short = omega arith }
root_small k (b ∷ c) h =
    cond_cases Small (eqb k job_label) (λ e. text_small (b ∷ c) h) (λ e. number_small (b ∷ c) (hundredths (b ∷ c)) h (hundredths_small (b ∷ c)))

-- ---- the tree
pub record Bare (t : Tree) : Type 0 where
  pub ok : Ok t
  pub short : size t ≤ 86
  pub flat : depth t ≤ 1

pub value_bare : (k : ℕ) (v : List ℕ) → is_value v ≡ true → Bare (value_tree k v)
unfolding value_tree size depth
value_bare k v h =
    let r = root_small k v h in
    record { ok = (r.ok, tt); short = omega (arith, r.short); flat = omega arith }
