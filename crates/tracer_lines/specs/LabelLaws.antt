-- A name's number tells it, since no byte of a name is 0: so a name has the label of its number.
use Rattle.std.specs.Prelude.{◌≡◌, List, [], ◌∷◌, ◌++◌, reverse, Bool, true, false, ◌&&◌, ◌||◌, ℕ, suc, ◌+◌, ◌-◌, ◌*◌, ◌^◌, ◌≤◌, ◌<◌, length, take, drop, get_or, eqb, leb, cond, Some, None}
use Rattle.std.proofs.Math.Path.{refl}
use Rattle.std.proofs.Common.{sym, ap, ap₂, ◌∙◌, arith, length-take, take-suc, add-one, leb-true, eq-eqb, ne_eqb}
use Rattle.std.proofs.lemmas.List.{reverse-append, reverse-reverse}
use Rattle.std.proofs.Math.Nat.{pow-le-pow_right}
use Rattle.spec_trees.specs.Lists.{All, all, same_bytes}
use Rattle.spec_trees.specs.ListLaws.{All-take, All-reverse, All-imply, equal_same, same_equal}
use Rattle.spec_trees.specs.OptionLaws.{both_true, split, apart}
use Rattle.spec_trees.specs.Readers.{low_value, big_value}
use Rattle.spec_trees.specs.Within.{AllBytes}
use Rattle.spec_trees.specs.NumberLaws.{big_lt}
use Rattle.spec_tracer.specs.Message.{is_capital, is_digit, is_name_byte}
use Rattle.spec_tracer.specs.Traced.{names, label_among, label_named}
use Rattle.tracer_lines.specs.Piece.{part}
use Rattle.tracer_lines.specs.Label.{word_among, word_label, label_of, NameBytes, NameAt}

-- ---- bytes of a name
abbrev Byte : ℕ → Type 0
Byte b = (0 < b) × (b < 256)

some_byte : (b : ℕ) → is_name_byte b ≡ true → Byte b
unfolding is_name_byte is_capital is_digit
some_byte b h = go (leb 65 b && leb b 90) refl h
  where
    within : (l m : ℕ) → 0 < l → m < 256 → (leb l b && leb b m) ≡ true → Byte b
    within l m p q e = let t = both_true (leb l b) (leb b m) e in (omega (arith, leb-true l b t.0, p), omega (arith, leb-true b m t.1, q))

    go : (t : Bool) → (leb 65 b && leb b 90) ≡ t → (t || (leb 48 b && leb b 57)) ≡ true → Byte b
    go true e k = within 65 90 (omega arith) (omega arith) e
    go false e k = within 48 57 (omega arith) (omega arith) k

pub some_bytes : (n : List ℕ) → all is_name_byte n ≡ true → All Byte n
unfolding all
some_bytes [] h = tt
some_bytes (b ∷ n) h = let p = both_true (is_name_byte b) (all is_name_byte n) h in (some_byte b p.0, some_bytes n p.1)

-- ---- their number tells them
low_told : (a b : List ℕ) → All Byte a → All Byte b → low_value a ≡ low_value b → a ≡ b
unfolding low_value
low_told [] [] h k e = refl
low_told [] (y ∷ b) h k e = absurd (omega (arith, k.0, e))
low_told (x ∷ a) [] h k e = absurd (omega (arith, h.0, e))
low_told (x ∷ a) (y ∷ b) h k e =
    let p : x ≡ y = omega (arith, h.0, k.0, e) in
    let q : low_value a ≡ low_value b = omega (arith, h.0, k.0, e) in
    ap₂ ◌∷◌ p (low_told a b h.1 k.1 q)

number_tells : (a b : List ℕ) → All Byte a → All Byte b → big_value a ≡ big_value b → a ≡ b
unfolding big_value
number_tells a b h k e =
    sym (reverse-reverse a) ∙ ap reverse (low_told (reverse a) (reverse b) (All-reverse Byte a h) (All-reverse Byte b k) e) ∙ reverse-reverse b

number_same : (a b : List ℕ) → All Byte a → All Byte b → eqb (big_value a) (big_value b) ≡ same_bytes a b
number_same a b h k = split (same_bytes a b)
    (λ e. eq-eqb (big_value a) (big_value b) (ap big_value (same_equal a b e)) ∙ sym e)
    (λ e. ne_eqb (big_value a) (big_value b) (λ q. apart (equal_same a b (number_tells a b h k q)) e) ∙ sym e)

-- ---- the label
among_named : (k : ℕ) (xs : List (List ℕ)) (n : List ℕ) → All (All Byte) xs → All Byte n → word_among (suc k) xs (big_value n) ≡ label_of (label_among (suc k) xs n)
unfolding word_among label_among
among_named k [] n h o = refl
among_named k (x ∷ xs) n h o = rw (number_same n x o h.0, among_named (suc k) xs n h.1 o) (go (same_bytes n x))
  where
    go : (t : Bool) → cond t (Some (suc k)) (label_of (label_among (suc (suc k)) xs n)) ≡ label_of (cond t (suc k) (label_among (suc (suc k)) xs n))
    go true = refl
    go false = refl

names_bytes : All (λ x. all is_name_byte x ≡ true) names
unfolding all is_name_byte is_capital is_digit
names_bytes = (refl, (refl, (refl, (refl, (refl, (refl, (refl, tt)))))))

pub name_label : {m : List ℕ} {from to : ℕ} → NameAt m from to → word_label (big_value (part from to m)) ≡ label_of (label_named (part from to m))
unfolding word_label label_named
name_label {m} {from} {to} h =
    among_named 0 names (part from to m) (All-imply (λ x. all is_name_byte x ≡ true) (All Byte) some_bytes names names_bytes) (some_bytes (part from to m) h.bytes)

-- ---- the number, byte by byte
big_more : (c : List ℕ) (b : ℕ) → big_value (c ++ (b ∷ [])) ≡ big_value c * 256 + b
unfolding big_value low_value
big_more c b = rw (reverse-append c (b ∷ [])) (omega arith)

pub name_bytes : {m : List ℕ} {from to : ℕ} → NameAt m from to → NameBytes (part from to m)
name_bytes {m} {from} {to} h = record { short = omega (arith, length-take (to - from) (drop from m), h.short); bytes = h.bytes }

-- a number that is none of these
abbrev Other : ℕ → ℕ → Type 0
Other w k = w ≡ k → ⊥

pub word_else : (w : ℕ) → Other w 4869954 → Other w 4473420 → Other w 1212305240 → Other w 1447186264 → Other w 4605252 → Other w 4804676 → Other w 17487 → None ≡ word_label w
unfolding word_label low_value
word_else w a b c d e f g = rw (ne_eqb w 4869954 a, ne_eqb w 4473420 b, ne_eqb w 1212305240 c, ne_eqb w 1447186264 d, ne_eqb w 4605252 e, ne_eqb w 4804676 f, ne_eqb w 17487 g) refl

module _ (n : List ℕ) where
  pub word_none : 0 ≡ big_value (take 0 n)
  unfolding big_value low_value
  word_none = refl

  pub word_more : {w : ℕ} (i : ℕ) → i < length n → w ≡ big_value (take i n) → w * 256 + get_or n i 0 ≡ big_value (take (i + 1) n)
  word_more {w} i l e =
      let z : take (i + 1) n ≡ take i n ++ (get_or n i 0 ∷ []) = ap (λ k. take k n) (add-one i) ∙ take-suc n i 0 l in
      rw (z, big_more (take i n) (get_or n i 0), e) refl

  -- seven bytes leave room for one more
  pub word_small : {w : ℕ} (i : ℕ) → NameBytes n → i < length n → w ≡ big_value (take i n) → w < 256 ^ 7
  word_small {w} i h l e =
      let b : AllBytes (take i n) = All-take (λ x. x < 256) i n (All-imply Byte (λ x. x < 256) (λ x p. p.1) n (some_bytes n h.bytes)) in
      let k : length (take i n) ≤ 7 = omega (arith, length-take i n, h.short, l) in
      let p : 256 ^ length (take i n) ≤ 256 ^ 7 = pow-le-pow_right (omega arith) k in
      omega (arith, e, big_lt (take i n) b, p)
