-- Laws of several bytes as one number: how it is made of its bytes, and that it tells them.
use Rattle.std.specs.Prelude.{◌≡◌, refl, List, ℕ, suc, ◌+◌, ◌*◌, ◌≤◌, ◌<◌, length, take, drop, get_or}
use Rattle.std.proofs.Common.{sym, ap, ◌∙◌, add-one, arith, length-take, length-drop, drop-cons}
use Rattle.spec_trees.specs.Bytes.{low}
use Rattle.spec_trees.specs.Readers.{low_value}
use Rattle.spec_trees.specs.Within.{AllBytes}
use Rattle.spec_trees.specs.ListLaws.{All-take, All-drop}
use Rattle.spec_trees.specs.NumberLaws.{low_form}
use Rattle.compare.specs.Compare.{low_at}

-- ---- made of its bytes

-- one byte, and those behind it
low_next : (n i j : ℕ) (s : List ℕ) → j ≡ i + 1 → i < length s → low_at (suc n) s i ≡ get_or s i 0 + 256 * low_at n s j
unfolding low_value
low_next n i j s q h =
    ap (λ l. low_value (take (suc n) l)) (drop-cons s i 0 h) ∙ ap (λ k. get_or s i 0 + 256 * low_at n s k) (sym (q ∙ add-one i))

low_none : (s : List ℕ) (i : ℕ) → low_at 0 s i ≡ 0
unfolding low_value
low_none s i = refl

-- four bytes, and what stands behind them
low_four_more : (n i : ℕ) (s : List ℕ) → i + 4 ≤ length s
    → low_at (suc (suc (suc (suc n)))) s i
    ≡ get_or s i 0 + 256 * get_or s (i + 1) 0 + 65536 * (get_or s (i + 2) 0 + 256 * get_or s (i + 3) 0) + 4294967296 * low_at n s (i + 4)
low_four_more n i s h =
    let a = low_next (suc (suc (suc n))) i (i + 1) s (omega arith) (omega arith) in
    let b = low_next (suc (suc n)) (i + 1) (i + 2) s (omega arith) (omega arith) in
    let c = low_next (suc n) (i + 2) (i + 3) s (omega arith) (omega arith) in
    let d = low_next n (i + 3) (i + 4) s (omega arith) (omega arith) in
    omega (arith, a, b, c, d)

-- four bytes that were read
pub low_four : (s : List ℕ) (i : ℕ) {a b c d : ℕ} → i + 4 ≤ length s → a ≡ get_or s i 0 → b ≡ get_or s (i + 1) 0 → c ≡ get_or s (i + 2) 0 → d ≡ get_or s (i + 3) 0
    → a + 256 * b + 65536 * (c + 256 * d) ≡ low_at 4 s i
low_four s i h p q r t = omega (arith, low_four_more 0 i s h, low_none s (i + 4), p, q, r, t)

-- two halves
pub low_eight : (s : List ℕ) (i : ℕ) → i + 8 ≤ length s → low_at 4 s i + 4294967296 * low_at 4 s (i + 4) ≡ low_at 8 s i
low_eight s i h = omega (arith, low_four_more 4 i s (omega arith), low_four s i (omega arith) refl refl refl refl)

-- ---- tells its bytes

-- n bytes of two areas are the same if their numbers are
pub low_same : (n i : ℕ) (a b : List ℕ) → AllBytes a → AllBytes b → i + n ≤ length a → i + n ≤ length b → low_at n a i ≡ low_at n b i
    → take n (drop i a) ≡ take n (drop i b)
low_same n i a b p q l m e = sym (form a p l) ∙ ap (low n) e ∙ form b q m
  where
    part_length : (s : List ℕ) → i + n ≤ length s → length (take n (drop i s)) ≡ n
    part_length s z = simp (length-take, length-drop) (omega arith)

    part_bytes : (s : List ℕ) → AllBytes s → AllBytes (take n (drop i s))
    part_bytes s h = All-take (λ x. x < 256) n (drop i s) (All-drop (λ x. x < 256) i s h)

    form : (s : List ℕ) → AllBytes s → i + n ≤ length s → low n (low_at n s i) ≡ take n (drop i s)
    form s h z = ap (λ k. low k (low_at n s i)) (sym (part_length s z)) ∙ low_form (take n (drop i s)) (part_bytes s h)
