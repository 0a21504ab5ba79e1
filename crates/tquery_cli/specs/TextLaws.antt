-- Laws of text: one more byte, a byte as two digits, a number below 100.
use Rattle.std.specs.Prelude.{◌≡◌, refl, List, [], ◌∷◌, ◌++◌, ℕ, zero, suc, ◌+◌, ◌*◌, ◌/◌, ◌%◌, ◌≤◌, ◌<◌, length, take, drop, set, get_or}
use Rattle.std.proofs.Common.{sym, ap, ◌∙◌, append_assoc, arith, length-set, drop-cons}
use Rattle.std.proofs.Math.Seq.{drop-length}
use Rattle.spec_trees.specs.OptionLaws.{ltb_yes, ltb_no}
use Rattle.areas.specs.Area.{Wrote, Out}
use Rattle.areas.specs.AreaLaws.{told}
use Rattle.spec_run.specs.Program.{digit, hex, decimal, refused_text}
use Rattle.tquery_cli.specs.Text.{Begins}

-- ---- one more byte behind the first n
pub take_set : (d : List ℕ) (n x : ℕ) → n < length d → take (suc n) (set d n x) ≡ take n d ++ x ∷ []
take_set [] n x h = absurd (omega (arith, h))
take_set (y ∷ d) zero x h = refl
take_set (y ∷ d) (suc n) x h = ap (λ (l : List ℕ). y ∷ l) (take_set d n x (omega (arith, h)))

pub take_set_two : (d : List ℕ) (n x y : ℕ) → suc n < length d → take (suc (suc n)) (set (set d n x) (suc n) y) ≡ take n d ++ x ∷ y ∷ []
take_set_two d n x y h =
    let l : suc n < length (set d n x) = omega (arith, length-set d n x) in
    take_set (set d n x) (suc n) y l ∙ ap (λ (k : List ℕ). k ++ y ∷ []) (take_set d n x (omega arith)) ∙ append_assoc (take n d) (x ∷ []) (y ∷ [])

-- ---- hexadecimal: the text of the first i bytes is written, and that of the rest completes it
abbrev pub HexWritten : (d s : List ℕ) (i : ℕ) → Type 0
HexWritten d s i = take (2 * i) d ++ hex (drop i s) ≡ hex s

pub digits_more : (d s : List ℕ) (i a b : ℕ) → i < length s → 2 * length s + 1 ≤ length d
    → a ≡ digit (get_or s i 0 / 16) → b ≡ digit (get_or s i 0 % 16) → HexWritten d s i → HexWritten (set (set d (2 * i) a) (2 * i + 1) b) s (i + 1)
unfolding hex
digits_more d s i a b h g ea eb w =
    let n = 2 * i in
    let e1 : 2 * i + 1 ≡ suc n = omega arith in
    let e2 : 2 * (i + 1) ≡ suc (suc n) = omega arith in
    let e3 : i + 1 ≡ suc i = omega arith in
    let two : take (suc (suc n)) (set (set d n a) (suc n) b) ≡ take n d ++ a ∷ b ∷ [] = take_set_two d n a b (omega arith) in
    let rest : hex (drop i s) ≡ a ∷ b ∷ hex (drop (suc i) s) = rw (drop-cons s i 0 h, ea, eb) refl in
    rw (e1, e2, e3, two) (append_assoc (take n d) (a ∷ b ∷ []) (hex (drop (suc i) s)) ∙ ap (λ (k : List ℕ). take n d ++ k) (sym rest) ∙ w)

pub digits_end : (d s : List ℕ) (i : ℕ) → i ≡ length s → 2 * length s + 1 ≤ length d → HexWritten d s i → Begins (set d (2 * i) 10) (hex s) (2 * i + 1)
unfolding hex
digits_end d s i e g w =
    let e1 : 2 * i + 1 ≡ suc (2 * i) = omega arith in
    let rest : hex (drop i s) ≡ 10 ∷ [] = rw (e, drop-length s) refl in
    record {
      within = omega (arith, length-set d (2 * i) 10);
      bytes = rw (e1, take_set d (2 * i) 10 (omega arith)) (ap (λ (k : List ℕ). take (2 * i) d ++ k) (sym rest) ∙ w);
    }

-- ---- decimal
pub one_digit : (d : List ℕ) (at n : ℕ) → at + 2 ≤ length d → n < 10 → Begins (set d at (48 + n)) (take at d ++ decimal n) (at + 1)
unfolding decimal
one_digit d at n h l =
    let e : at + 1 ≡ suc at = omega arith in
    record {
      within = omega (arith, length-set d at (48 + n));
      bytes = rw (e, ltb_yes n 10 l) (take_set d at (48 + n) (omega arith));
    }

pub two_digits : (d : List ℕ) (at n : ℕ) → at + 2 ≤ length d → 10 ≤ n
    → Begins (set (set d at (48 + n / 10)) (at + 1) (48 + n % 10)) (take at d ++ decimal n) (at + 2)
unfolding decimal
two_digits d at n h l =
    let e : at + 1 ≡ suc at = omega arith in
    let f : at + 2 ≡ suc (suc at) = omega arith in
    record {
      within = omega (arith, length-set d at (48 + n / 10), length-set (set d at (48 + n / 10)) (at + 1) (48 + n % 10));
      bytes = rw (e, f, ltb_no n 10 l) (take_set_two d at (48 + n / 10) (48 + n % 10) (omega arith));
    }

-- ---- a refusal: its word, its number and the line feed
pub refusal_end : {w v d : List ℕ} (n : ℕ) {e : ℕ} {r : Out} → 11 ≤ length w
    → Wrote w v 0 (length w) (114 ∷ 101 ∷ 102 ∷ 117 ∷ 115 ∷ 101 ∷ 100 ∷ 32 ∷ []) r
    → Begins d (take 8 v ++ decimal n) e → e < length d → Begins (set d e 10) (refused_text n) (e + 1)
unfolding refused_text
refusal_end {w} {v} {d} n {e} {r} l h b q =
    let word : take 8 v ≡ 114 ∷ 101 ∷ 102 ∷ 117 ∷ 115 ∷ 101 ∷ 100 ∷ 32 ∷ [] =
    told r
    (λ i z.
    let g = h.fits i z in
    let q : 8 ≡ i = omega (arith, g.ends) in
    ap (λ k. take k v) q ∙ g.below)
    (λ z. absurd (omega (arith, (h.large z).over)))
    in
    let f : e + 1 ≡ suc e = omega arith in
    record {
      within = omega (arith, length-set d e 10);
      bytes = rw (f, take_set d e 10 q, b.bytes, word) refl;
    }
