-- Laws of pieces and parts.
use Rattle.std.specs.Prelude.{◌≡◌, refl, List, [], ◌∷◌, Bool, true, false, cond, not, ℕ, suc, ◌+◌, ◌-◌, ◌≤◌, ◌<◌, length, take, drop, get_or, eqb, ltb, Option, Some, None, is_some, unwrap_or, option_map, take_while}
use Rattle.std.specs.Option.{option_eq}
use Rattle.std.proofs.lemmas.List.Sums.{take_while-cons}
use Rattle.std.proofs.Common.{sym, ap, ◌∙◌, add-one, arith, length-drop, drop_of_length-le, drop-cons, drop-drop}
use Rattle.std.proofs.Math.Seq.{take-length, take-append_seam, drop-append_seam}
use Rattle.spec_trees.specs.Lists.{all}
use borrow.Author.Tests.{ltb-true, ltb-false}
use Rattle.spec_trees.specs.OptionLaws.{leb_yes, leb_no}
use Rattle.spec_tracer.specs.Message.{semicolon, is_capital, is_digit, is_name_byte, is_value_byte, begins, front, behind}
use Rattle.spec_tracer.specs.FrontLaws.{front_behind, front_all, front_length}
use Rattle.tracer_lines.specs.Piece.{part, piece_end, stands_at}

-- ---- kinds of bytes, test by test
pub name_capital : (b : ℕ) → is_capital b ≡ true → true ≡ is_name_byte b
unfolding is_name_byte
name_capital b e = rw e refl

pub name_digit : (b : ℕ) → is_capital b ≡ false → is_digit b ≡ is_name_byte b
unfolding is_name_byte
name_digit b e = rw e refl

pub value_low : (b : ℕ) → b < 32 → false ≡ is_value_byte b
unfolding is_value_byte
value_low b h = rw (leb_no 32 b h) refl

pub value_high : (b : ℕ) → 126 < b → false ≡ is_value_byte b
unfolding is_value_byte
value_high b h = rw (leb_yes 32 b (omega (arith, h)), leb_no b 126 h) refl

pub value_between : (b : ℕ) → 32 ≤ b → b ≤ 126 → not (eqb b semicolon) ≡ is_value_byte b
unfolding is_value_byte
value_between b h k = rw (leb_yes 32 b h, leb_yes b 126 k) refl

-- ---- pieces

-- the bytes up to the first that does not pass are those that an iterator takes
front_taken : (f : ℕ → Bool) (m : List ℕ) → take_while f m ≡ front f m
unfolding front
front_taken f [] = refl
front_taken f (b ∷ m) = take_while-cons f b m ∙ ap (λ l. cond (f b) (b ∷ l) []) (front_taken f m)

pub part_rest : (s : List ℕ) (from : ℕ) → part from (length s) s ≡ drop from s
part_rest s from = ap (λ k. take k (drop from s)) (sym (length-drop from s)) ∙ take-length (drop from s)

pub piece_counted : (f : ℕ → Bool) (s : List ℕ) (from : ℕ) {n : ℕ} → n ≡ length (take_while f (part from (length s) s)) → from + n ≡ piece_end f s from
unfolding piece_end
piece_counted f s from {n} e =
    ap (λ k. from + k) (e ∙ ap length (front_taken f (part from (length s) s) ∙ ap (front f) (part_rest s from)))

-- the byte that stands at a place, and what is behind it
pub here : (s : List ℕ) (at : ℕ) → at < length s → drop at s ≡ get_or s at 0 ∷ drop (at + 1) s
here s at h = drop-cons s at 0 h ∙ ap (λ n. get_or s at 0 ∷ drop n s) (sym (add-one at))

-- ---- the piece by its places
module _ (f : ℕ → Bool) (s : List ℕ) (from : ℕ) {to : ℕ} (b : from ≤ length s) (z : to ≡ piece_end f s from) where
  pub piece_count : to ≡ from + length (front f (drop from s))
  unfolding piece_end
  piece_count = z

  pub piece_above : from ≤ to
  piece_above = omega (arith, piece_count)

  pub piece_inside : to ≤ length s
  piece_inside = omega (arith, piece_count, front_length f (drop from s), length-drop from s)

  pub piece_length : length (front f (drop from s)) ≡ to - from
  piece_length = omega (arith, piece_count)

  pub piece_front : front f (drop from s) ≡ part from to s
  piece_front =
      let d = drop from s in
      sym (take-append_seam (front f d) (behind f d)) ∙ ap (take (length (front f d))) (front_behind f d) ∙ ap (λ n. take n d) piece_length

  pub piece_behind : behind f (drop from s) ≡ drop to s
  piece_behind =
      let d = drop from s in
      sym (drop-append_seam (front f d) (behind f d)) ∙ ap (drop (length (front f d))) (front_behind f d)
      ∙ drop-drop (length (front f d)) from s ∙ ap (λ n. drop n s) (sym piece_count)

  pub piece_all : all f (part from to s) ≡ true
  piece_all = sym (ap (all f) piece_front) ∙ front_all f (drop from s)

-- ---- a part byte by byte
pub part_first : (s : List ℕ) (from to : ℕ) → from < to → to ≤ length s → part from to s ≡ get_or s from 0 ∷ part (from + 1) to s
part_first s from to a b =
    let y : to - from ≡ suc (to - (from + 1)) = omega (arith, a) in
    rw (here s from (omega (arith, a, b)), y) refl

-- ---- a byte that stands there
stands_here : (s : List ℕ) (at x : ℕ) → at < length s → eqb (get_or s at 0) x ≡ stands_at s at x
unfolding stands_at begins
stands_here s at x h = sym (ap (begins (λ b. eqb b x)) (here s at h))

stands_beyond : (s : List ℕ) (at x : ℕ) → length s ≤ at → false ≡ stands_at s at x
unfolding stands_at begins
stands_beyond s at x h = sym (ap (begins (λ b. eqb b x)) (drop_of_length-le s {i = at} h))

-- what was looked up there, each value as v reads it, is this byte
pub stands_got : {A : Type 0} (s : List ℕ) (at : ℕ) (v : A → ℕ) (o : Option A) (y : A) → is_some o ≡ ltb at (length s)
    → unwrap_or (option_map v o) 0 ≡ get_or s at 0 → option_eq (λ a b. eqb (v a) (v b)) o (Some y) ≡ stands_at s at (v y)
stands_got s at v None y h e = stands_beyond s at (v y) (ltb-false at (length s) (sym h))
stands_got s at v (Some a) y h e = ap (λ b. eqb b (v y)) e ∙ stands_here s at (v y) (ltb-true at (length s) (sym h))
