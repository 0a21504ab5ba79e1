-- Laws of reading a number.
use Rattle.std.proofs.Math.Path.{◌≡◌, refl, ap}
use Rattle.std.proofs.Common.{sym, ◌∙◌, length-take, drop_of_length-le}
use mathlib.Core.List.{List, [], ◌∷◌}
use Rattle.std.proofs.Math.Bool.{true, false}
use Rattle.std.proofs.Math.Option.{Option, none, some, map}
use Rattle.std.specs.Prelude.{ℕ, zero, suc, ◌+◌, ◌-◌, ◌*◌, ◌%◌, ◌^◌, ◌≤◌, ◌<◌, drop, get_or, leb, Bool, Some, None, option_map, MatchOption, IsSomeAnd}
use Rattle.std.specs.Prelude as code
use native.Mathlib.Omega.{arith}
use Rattle.std.proofs.Math.ListN.{length}
use Rattle.std.proofs.Math.IntN.{pos, neg_ℤ}
use Rattle.std.proofs.Math.Dec.{eqb}
use borrow.Author.Tests.{leb-true, eq-eqb, ne_eqb}
use Rattle.spec_trees.specs.Options.{only}
use Rattle.spec_trees.specs.Lists.{all}
use Rattle.spec_trees.specs.OptionLaws.{both_true, leb_yes, leb_no}
use Rattle.spec_trees.specs.Bytes.{pattern}
use Rattle.spec_tracer.specs.Limits.{whole_max}
use Rattle.spec_tracer.specs.Message.{is_digit, begins, front}
use Rattle.spec_tracer.specs.Values.{minus, point, digit, decimal, parts, fraction, amount, hundredths}
use Rattle.spec_tracer.proofs.ValueLaws.{digit_most, decimal_most, decimal_least, amount_most}
use Rattle.tracer_lines.specs.Piece.{part, piece_end, stands_at}
use Rattle.tracer_lines.specs.PieceLaws.{here, part_rest, piece_length, piece_front, piece_behind, piece_all}
use Rattle.tracer_tree.specs.Number.{amount_of, bits_of, Digits}

-- ---- digits
pub digit_least : (b : ℕ) → is_digit b ≡ true → 48 ≤ b
unfolding is_digit
digit_least b h = leb-true 48 b (both_true (leb 48 b) (leb b 57) h).0

pub digit_said : (b : ℕ) → is_digit b ≡ true → (b - 48 ≡ digit b) × (b - 48 ≤ 9)
unfolding digit
digit_said b h = (refl, digit_most b h)

-- ---- whole digits, one by one
module _ (d : List ℕ) (i : ℕ) (l : i < length d) where
  -- the next is a digit, and so are those behind it
  pub digits_next : all is_digit (drop i d) ≡ true → (is_digit (get_or d i 0) ≡ true) × (all is_digit (drop (i + 1) d) ≡ true)
  unfolding all
  digits_next h = both_true (is_digit (get_or d i 0)) (all is_digit (drop (i + 1) d)) (sym (ap (all is_digit) (here d i l)) ∙ h)

  pub decimal_next : (n : ℕ) → decimal n (drop i d) ≡ decimal (n * 10 + digit (get_or d i 0)) (drop (i + 1) d)
  unfolding decimal
  decimal_next n = ap (decimal n) (here d i l)

  -- what is written so far is no more than the whole
  pub decimal_below : (n : ℕ) → Digits d → decimal n (drop i d) ≡ decimal 0 d → n * 10 + digit (get_or d i 0) ≤ 999999
  decimal_below n h q =
      omega (arith, decimal_least (n * 10 + digit (get_or d i 0)) (drop (i + 1) d), decimal_next n, q, decimal_most d h.digits h.short)

pub decimal_end : (n : ℕ) (d : List ℕ) (i : ℕ) → length d ≤ i → decimal n (drop i d) ≡ n
unfolding decimal
decimal_end n d i h = ap (decimal n) (drop_of_length-le d {i = i} h)

-- ---- what stands behind them
pub parts_one : (x : ℕ) → is_digit x ≡ true → parts (x ∷ []) ≡ some (digit x * 10)
unfolding parts only
parts_one x h = rw h refl

pub parts_no : (x : ℕ) → is_digit x ≡ false → parts (x ∷ []) ≡ none
unfolding parts only
parts_no x h = rw h refl

pub parts_two : (x y : ℕ) → is_digit x ≡ true → is_digit y ≡ true → parts (x ∷ y ∷ []) ≡ some (digit x * 10 + digit y)
unfolding parts only
parts_two x y h k = rw (h, k) refl

pub parts_first : (x y : ℕ) → is_digit x ≡ false → parts (x ∷ y ∷ []) ≡ none
unfolding parts only
parts_first x y h = rw h refl

pub parts_second : (x y : ℕ) → is_digit x ≡ true → is_digit y ≡ false → parts (x ∷ y ∷ []) ≡ none
unfolding parts only
parts_second x y h k = rw (h, k) refl

either : (t : Bool) → ◌≡◌ {A = Option ℕ} none (only t none)
unfolding only
either true = refl
either false = refl

pub fraction_none : (s : List ℕ) → length s < 1 → Some 0 ≡ amount_of (fraction s)
unfolding fraction
fraction_none [] h = refl
fraction_none (b ∷ s) h = absurd (omega (arith, h))

pub fraction_alone : (s : List ℕ) → 1 ≤ length s → length s < 2 → None ≡ amount_of (fraction s)
unfolding fraction parts only
fraction_alone [] h l = absurd (omega (arith, h))
fraction_alone (b ∷ []) h l = ap amount_of (either (eqb b point))
fraction_alone (b ∷ x ∷ s) h l = absurd (omega (arith, l))

pub fraction_other : (s : List ℕ) → 1 ≤ length s → (get_or s 0 0 ≡ point → ⊥) → None ≡ amount_of (fraction s)
unfolding fraction only
fraction_other [] h n = absurd (omega (arith, h))
fraction_other (b ∷ s) h n = rw (ne_eqb b point n) refl

pub fraction_more : (s : List ℕ) → 4 ≤ length s → None ≡ amount_of (fraction s)
unfolding fraction parts only
fraction_more [] h = absurd (omega (arith, h))
fraction_more (b ∷ []) h = absurd (omega (arith, h))
fraction_more (b ∷ x ∷ []) h = absurd (omega (arith, h))
fraction_more (b ∷ x ∷ y ∷ []) h = absurd (omega (arith, h))
fraction_more (b ∷ x ∷ y ∷ z ∷ s) h = ap amount_of (either (eqb b point))

pub fraction_one : (s : List ℕ) → get_or s 0 0 ≡ point → 2 ≤ length s → length s < 3 → parts (get_or s 1 0 ∷ []) ≡ fraction s
unfolding fraction only
fraction_one [] e h l = absurd (omega (arith, h))
fraction_one (b ∷ []) e h l = absurd (omega (arith, h))
fraction_one (b ∷ x ∷ []) e h l = rw (eq-eqb b point e) refl
fraction_one (b ∷ x ∷ y ∷ s) e h l = absurd (omega (arith, l))

pub fraction_two : (s : List ℕ) → get_or s 0 0 ≡ point → 3 ≤ length s → length s < 4 → parts (get_or s 1 0 ∷ get_or s 2 0 ∷ []) ≡ fraction s
unfolding fraction only
fraction_two [] e h l = absurd (omega (arith, h))
fraction_two (b ∷ []) e h l = absurd (omega (arith, h))
fraction_two (b ∷ x ∷ []) e h l = absurd (omega (arith, h))
fraction_two (b ∷ x ∷ y ∷ []) e h l = rw (eq-eqb b point e) refl
fraction_two (b ∷ x ∷ y ∷ z ∷ s) e h l = absurd (omega (arith, l))

-- ---- digits, and what stands behind them
module _ (s : List ℕ) (from : ℕ) {to : ℕ} (b : from ≤ length s) (z : to ≡ piece_end is_digit s from) where
  pub amount_digitless : to - from ≡ 0 → amount (drop from s) ≡ none
  unfolding amount only
  amount_digitless q = rw (piece_length is_digit s from b z, q) refl

  pub amount_long : whole_max < to - from → amount (drop from s) ≡ none
  unfolding amount only
  amount_long h = rw (piece_length is_digit s from b z, leb_yes 1 (to - from) (omega (arith, h)), leb_no (to - from) whole_max h) refl

  module _ (n : to - from ≡ 0 → ⊥) (h : to - from ≤ whole_max) where
    pub digits_at : Digits (part from to s)
    digits_at = record { short = omega (arith, length-take (to - from) (drop from s), h); digits = piece_all is_digit s from b z }

    amount_is_so : amount (drop from s) ≡ map (λ f. decimal 0 (part from to s) * 100 + f) (fraction (drop to s))
    unfolding amount only
    amount_is_so =
        rw (piece_length is_digit s from b z, leb_yes 1 (to - from) (omega (arith, n)), leb_yes (to - from) whole_max h)
        (rw (piece_front is_digit s from b z, piece_behind is_digit s from b z) refl)

    module _ {r : code.Option ℕ} (q : r ≡ amount_of (fraction (part to (length s) s))) where
      fraction_rest : r ≡ amount_of (fraction (drop to s))
      fraction_rest = q ∙ ap (λ l. amount_of (fraction l)) (part_rest s to)

      -- no fraction that may be
      pub amount_none : r ≡ None → None ≡ amount_of (amount (drop from s))
      amount_none w = go (fraction (drop to s)) (sym w ∙ fraction_rest) ∙ sym (ap amount_of amount_is_so)
        where
          go : (x : Option ℕ) → None ≡ amount_of x → None ≡ amount_of (map (λ f. decimal 0 (part from to s) * 100 + f) x)
          go none e = refl
          go (some f) e = cc

      -- a fraction of f hundredths
      module _ {f : ℕ} (w : r ≡ Some f) where
        fraction_so : fraction (drop to s) ≡ some f
        fraction_so = go (fraction (drop to s)) (sym w ∙ fraction_rest)
          where
            go : (x : Option ℕ) → Some f ≡ amount_of x → x ≡ some f
            go none e = cc
            go (some g) e = let y : f ≡ g = cc in ap some (sym y)

        amount_some : amount (drop from s) ≡ some (decimal 0 (part from to s) * 100 + f)
        amount_some = amount_is_so ∙ ap (map (λ f. decimal 0 (part from to s) * 100 + f)) fraction_so

        pub amount_small : decimal 0 (part from to s) * 100 + f ≤ 99999999
        amount_small = amount_most (drop from s) (decimal 0 (part from to s) * 100 + f) amount_some

        pub amount_answer : Some (decimal 0 (part from to s) * 100 + f) ≡ amount_of (amount (drop from s))
        amount_answer = sym (ap amount_of amount_some)

-- ---- the sign
pub pattern_negative : (n b : ℕ) → n < 2 ^ 64 → b < 2 ^ 64 → (b + n) % 2 ^ 64 ≡ 0 → b ≡ pattern (neg_ℤ (pos n))
unfolding pattern
pattern_negative zero b h k e = omega arith
pattern_negative (suc n) b h k e = omega arith

-- what a function made of a value that may be missing
pub mapped : {A B : Type 0} (f : A → B) (a : code.Option A) {r : code.Option B} {P : A → B → Type 0}
    → MatchOption a (r ≡ None) (λ x. IsSomeAnd r (P x)) → ((x : A) (y : B) → P x y → y ≡ f x) → r ≡ option_map f a
mapped f None h k = h
mapped f (Some x) {r = None} h k = absurd h
mapped f (Some x) {r = Some y} h k = ap Some (k x y h)

with_minus : (x : Option ℕ) → option_map (λ n. pattern (neg_ℤ (pos n))) (amount_of x) ≡ bits_of (map (λ n. neg_ℤ (pos n)) x)
with_minus none = refl
with_minus (some n) = refl

without_minus : (x : Option ℕ) → amount_of x ≡ bits_of (map (λ n. pos n) x)
unfolding pattern
without_minus none = refl
without_minus (some n) = refl

module _ (s : List ℕ) where
  pub minus_inside : stands_at s 0 minus ≡ true → 1 ≤ length s
  unfolding stands_at begins
  minus_inside e = go s e
    where
      go : (l : List ℕ) → begins (λ b. eqb b minus) l ≡ true → 1 ≤ length l
      go [] q = let y : ◌≡◌ {A = ℕ} 0 1 = cc in absurd (omega arith)
      go (b ∷ l) q = omega arith

  pub number_negative : stands_at s 0 minus ≡ true → option_map (λ n. pattern (neg_ℤ (pos n))) (amount_of (amount (drop 1 s))) ≡ bits_of (hundredths s)
  unfolding stands_at begins hundredths
  number_negative e = with_minus (amount (drop 1 s)) ∙ ap bits_of (go s e)
    where
      go : (l : List ℕ) → begins (λ b. eqb b minus) l ≡ true → map (λ n. neg_ℤ (pos n)) (amount (drop 1 l)) ≡ hundredths l
      go [] q = let y : ◌≡◌ {A = ℕ} 0 1 = cc in absurd (omega arith)
      go (b ∷ l) q = rw q refl

  pub number_positive : stands_at s 0 minus ≡ false → amount_of (amount (drop 0 s)) ≡ bits_of (hundredths s)
  unfolding stands_at begins hundredths amount front only
  number_positive e = without_minus (amount (drop 0 s)) ∙ ap bits_of (go s e)
    where
      go : (l : List ℕ) → begins (λ b. eqb b minus) l ≡ false → map (λ n. pos n) (amount (drop 0 l)) ≡ hundredths l
      go [] q = refl
      go (b ∷ l) q = rw q refl
