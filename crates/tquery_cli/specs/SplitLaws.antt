-- Laws of the pieces of the program's input.
use Rattle.std.specs.Prelude.{◌≡◌, refl, List, [], ◌∷◌, Bool, true, false, ℕ, zero, suc, ◌+◌, ◌*◌, ◌-◌, ◌≤◌, ◌<◌, min, length, take, drop, get_or, leb}
use Rattle.std.proofs.Common.{sym, ap, ◌∙◌, arith, length-drop, take_all, drop-cons, drop-drop, leb-true, leb-false}
use Rattle.std.proofs.Math.Seq.{drop-nil}
use Rattle.spec_run.specs.Program.{headed}
use Rattle.tquery_cli.specs.Split.{piece_end}

-- ---- where a piece ends
-- fewer than three bytes are all that is left
headed_few : (s : List ℕ) → length s < 3 → headed s ≡ length s
unfolding headed
headed_few [] h = refl
headed_few (t ∷ []) h = refl
headed_few (t ∷ h ∷ []) l = refl
headed_few (t ∷ h ∷ l ∷ c) k = absurd (omega arith)

headed_is : (s : List ℕ) (p : ℕ) → p + 3 ≤ length s → headed (drop p s) ≡ 3 + (get_or s (p + 1) 0 * 256 + get_or s (p + 2) 0)
unfolding headed
headed_is s p h =
    let e1 : p + 1 ≡ suc p = omega arith in
    let e2 : p + 2 ≡ suc (suc p) = omega arith in
    rw (e1, e2, drop-cons s p 0 (omega arith), drop-cons s (suc p) 0 (omega arith), drop-cons s (suc (suc p)) 0 (omega arith)) refl

pub piece_short : (s : List ℕ) (p : ℕ) → p ≤ length s → length s < p + 3 → length s ≡ piece_end s p
piece_short s p b h = omega (arith, headed_few (drop p s) (omega (arith, length-drop p s)), length-drop p s)

pub piece_inside : (s : List ℕ) (p e : ℕ) → p + 3 ≤ length s → e ≡ p + 3 + (get_or s (p + 1) 0 * 256 + get_or s (p + 2) 0) → e < length s → e ≡ piece_end s p
piece_inside s p e h d q = omega (arith, headed_is s p h)

pub piece_over : (s : List ℕ) (p e : ℕ) → p + 3 ≤ length s → e ≡ p + 3 + (get_or s (p + 1) 0 * 256 + get_or s (p + 2) 0) → length s ≤ e → length s ≡ piece_end s p
piece_over s p e h d q = omega (arith, headed_is s p h)

-- ---- the pieces
-- a place that does not pass the end cuts as one that does
take_min : (s : List ℕ) (k m : ℕ) → m ≡ min k (length s) → take m s ≡ take k s
take_min s k m e = go (leb k (length s)) refl
  where
    go : (b : Bool) → leb k (length s) ≡ b → take m s ≡ take k s
    go true q = let z : m ≡ k = omega (arith, e, leb-true k (length s) q) in ap (λ i. take i s) z
    go false q = take_all m s (omega (arith, e, leb-false k (length s) q)) ∙ sym (take_all k s (omega (arith, leb-false k (length s) q)))

drop_all : (s : List ℕ) (k : ℕ) → length s ≤ k → drop k s ≡ []
drop_all [] k h = drop-nil k
drop_all (x ∷ s) zero h = absurd (omega (arith, h))
drop_all (x ∷ s) (suc k) h = drop_all s k (omega (arith, h))

drop_min : (s : List ℕ) (k m : ℕ) → m ≡ min k (length s) → drop m s ≡ drop k s
drop_min s k m e = go (leb k (length s)) refl
  where
    go : (b : Bool) → leb k (length s) ≡ b → drop m s ≡ drop k s
    go true q = let z : m ≡ k = omega (arith, e, leb-true k (length s) q) in ap (λ i. drop i s) z
    go false q = drop_all s m (omega (arith, e, leb-false k (length s) q)) ∙ sym (drop_all s k (omega (arith, leb-false k (length s) q)))

module _ (s : List ℕ) {m : ℕ} (d : m ≡ piece_end s 0) where
  begin : m ≡ min (headed s) (length s)
  begin = omega (arith, d)

  pub first : take m s ≡ take (headed s) s
  first = take_min s (headed s) m begin

  rest_is : drop m s ≡ drop (headed s) s
  rest_is = drop_min s (headed s) m begin

  module _ {n : ℕ} (e : n ≡ piece_end s m) where
    long : n - m ≡ min (headed (drop m s)) (length (drop m s))
    long = omega (arith, d, e, length-drop m s)

    pub second : take (n - m) (drop m s) ≡ take (headed (drop (headed s) s)) (drop (headed s) s)
    second = take_min (drop m s) (headed (drop m s)) (n - m) long ∙ ap (λ k. take (headed k) k) rest_is

    pub third : take (length s - n) (drop n s) ≡ drop (headed (drop (headed s) s)) (drop (headed s) s)
    third =
        let z : m + (n - m) ≡ n = omega (arith, d, e) in
        take_all (length s - n) (drop n s) (omega (arith, length-drop n s))
        ∙ ap (λ k. drop k s) (sym z) ∙ sym (drop-drop (n - m) m s)
        ∙ drop_min (drop m s) (headed (drop m s)) (n - m) long ∙ ap (λ k. drop (headed k) k) rest_is
