-- Laws of numbers of several bytes: a reader gives what stands there, a writer puts it there.
use Rattle.std.specs.Prelude.{◌≡◌, refl, List, [], ◌∷◌, ℕ, ◌+◌, ◌-◌, ◌*◌, ◌/◌, ◌%◌, ◌^◌, ◌≤◌, ◌<◌, length, take, drop, set, get_or, Ok}
use Rattle.areas.specs.Area.{Is, Wrote, head_bytes, Out}
use Rattle.std.proofs.Common.{sym, ap, ap₂, subst, ◌∙◌, add_assoc, add-zero, arith, get_or-take, get_or-drop}
use Rattle.spec_trees.specs.Bytes.{low, big}
use Rattle.areas.specs.AreaLaws.{is_nth, wrote_none, wrote_keep, wrote_beyond, written, byte_before}
use Rattle.areas.specs.Number.{two_at, two_bytes, word_at}

-- one byte stored before those behind it
store : {w v : List ℕ} {stop : ℕ} {xs : List ℕ} {r : Out} (d k x : ℕ) → d + k < length w → d + k < stop → Wrote w v (d + (k + 1)) stop xs r
    → Wrote w (set v (d + k) x) (d + k) stop (x ∷ xs) r
store {w} {v} {stop} {xs} {r} d k x b s h = byte_before x b s (subst (λ n. Wrote w v n stop xs r) (sym (add_assoc d k 1)) h)

-- one byte more, read; and the first
horner : (n : ℕ) {s b : ℕ} → s ≡ n / 256 → b ≡ n % 256 → s * 256 + b ≡ n
horner n p q = omega arith

first_byte : (n : ℕ) {s : ℕ} → n < 256 → s ≡ n % 256 → s ≡ n
first_byte n b q = omega arith

-- ---- two bytes

-- behind k bytes: the second of the two is one further from p
pub two_behind : (s : List ℕ) (p k : ℕ) → two_at s (p + k) ≡ get_or s (p + k) 0 * 256 + get_or s (p + (k + 1)) 0
two_behind s p k = ap (λ i. get_or s (p + k) 0 * 256 + get_or s i 0) (add_assoc p k 1)

pub two_is : {w : List ℕ} {at : ℕ} (n : ℕ) → Is w at (at + 2) (two_bytes n) → two_at w at ≡ n
two_is {w} {at} n h =
    let a : get_or w at 0 ≡ n / 256 = ap (λ i. get_or w i 0) (sym (add-zero at)) ∙ is_nth h 0 (omega arith) in
    horner n a (is_nth h 1 (omega arith))

pub stored_two : (w : List ℕ) (at n : ℕ) → at + 2 ≤ length w
    → Wrote w (set (set w (at + 1) (n % 256)) at (n / 256)) at (at + 2) (two_bytes n) (Ok (at + 2))
stored_two w at n b =
    byte_before (n / 256) (omega arith) (omega arith) (store at 1 (n % 256) (omega arith) (omega arith) (wrote_none w (at + 2) (at + 2) (omega arith)))

-- a tag stored before a length is a head
pub head_stored : {w v : List ℕ} (d tag n : ℕ) → d + 3 ≤ length w → Wrote w v (d + 1) (d + 1 + 2) (two_bytes n) (Ok (d + 1 + 2))
    → Wrote w (set v d tag) d (d + 3) (head_bytes tag n) (Ok (d + 3))
head_stored {w} {v} d tag n b h =
    byte_before tag (omega arith) (omega arith) (subst (λ m. Wrote w v (d + 1) m (two_bytes n) (Ok m)) (add_assoc d 1 2) h)

-- in an area that changes elsewhere
module _ (w v : List ℕ) (d : ℕ) where
  byte_below : take d v ≡ take d w → (b : ℕ) → b < d → get_or v b 0 ≡ get_or w b 0
  byte_below k b l = sym (get_or-take d v b 0 l) ∙ ap (λ x. get_or x b 0) k ∙ get_or-take d w b 0 l

  byte_above : drop d v ≡ drop d w → (b : ℕ) → d ≤ b → get_or v b 0 ≡ get_or w b 0
  byte_above k b l =
      let z : d + (b - d) ≡ b = omega arith in
      ap (λ i. get_or v i 0) (sym z) ∙ sym (get_or-drop d v (b - d) 0) ∙ ap (λ x. get_or x (b - d) 0) k ∙ get_or-drop d w (b - d) 0 ∙ ap (λ i. get_or w i 0) z

  pub two_below : take d v ≡ take d w → (b : ℕ) → b + 2 ≤ d → two_at v b ≡ two_at w b
  two_below k b l = ap₂ (λ x y. x * 256 + y) (byte_below k b (omega arith)) (byte_below k (b + 1) (omega arith))

  pub two_above : drop d v ≡ drop d w → (b : ℕ) → d ≤ b → two_at v b ≡ two_at w b
  two_above k b l = ap₂ (λ x y. x * 256 + y) (byte_above k b l) (byte_above k (b + 1) (omega arith))

-- n is put at a: the other numbers stay, and so does all from a place behind it on
pub record Put (w v : List ℕ) (a n : ℕ) : Type 0 where
  pub here : two_at v a ≡ n
  pub below : (b : ℕ) → b + 2 ≤ a → two_at v b ≡ two_at w b
  pub above : (b : ℕ) → a + 2 ≤ b → two_at v b ≡ two_at w b
  pub beyond : (b : ℕ) → a + 2 ≤ b → drop b v ≡ drop b w

pub put : {w v : List ℕ} {a n : ℕ} → a + 2 ≤ length w → Wrote w v a (a + 2) (two_bytes n) (Ok (a + 2)) → Put w v a n
put {w} {v} {a} {n} l h = record {
  here = two_is n (written h (omega arith) refl);
  below = two_below w v a (wrote_keep h (omega arith));
  above = two_above w v (a + 2) (wrote_beyond {top = a + 2} (omega arith) h);
  beyond = λ b k. wrote_beyond k h;
}

-- ---- eight bytes

reads_from : (w : List ℕ) (at x g f e d c b a : ℕ) → g ≡ x / 256 → f ≡ g / 256 → e ≡ f / 256 → d ≡ e / 256 → c ≡ d / 256 → b ≡ c / 256 → a ≡ b / 256 → a < 256
    → get_or w at 0 ≡ a % 256 → get_or w (at + 1) 0 ≡ b % 256 → get_or w (at + 2) 0 ≡ c % 256 → get_or w (at + 3) 0 ≡ d % 256
    → get_or w (at + 4) 0 ≡ e % 256 → get_or w (at + 5) 0 ≡ f % 256 → get_or w (at + 6) 0 ≡ g % 256 → get_or w (at + 7) 0 ≡ x % 256 → word_at w at ≡ x
unfolding word_at
reads_from w at x g f e d c b a zg zf ze zd zc zb za l ha hb hc hd he hf hg hx =
    horner x (horner g (horner f (horner e (horner d (horner c (horner b (first_byte a l ha ∙ za) hb ∙ zb) hc ∙ zc) hd ∙ zd) he ∙ ze) hf ∙ zf) hg ∙ zg) hx

div_less : (x k : ℕ) → x < k * 256 → x / 256 < k
div_less x k h = omega arith

high : (x : ℕ) → x < 2 ^ 64 → x / 256 / 256 / 256 / 256 / 256 / 256 / 256 < 256
high x h =
    div_less _ 256 (div_less _ (256 * 256) (div_less _ (256 * 256 * 256) (div_less _ (256 * 256 * 256 * 256)
    (div_less _ (256 * 256 * 256 * 256 * 256) (div_less _ (256 * 256 * 256 * 256 * 256 * 256) (div_less x (256 * 256 * 256 * 256 * 256 * 256 * 256) h))))))

pub word_is : {w : List ℕ} {at : ℕ} (x : ℕ) → x < 2 ^ 64 → Is w at (at + 8) (big 8 x) → word_at w at ≡ x
unfolding big low
word_is {w} {at} x b h =
    let ha : get_or w at 0 ≡ x / 256 / 256 / 256 / 256 / 256 / 256 / 256 % 256 = ap (λ i. get_or w i 0) (sym (add-zero at)) ∙ is_nth h 0 (omega arith) in
    reads_from w at x (x / 256) (x / 256 / 256) (x / 256 / 256 / 256) (x / 256 / 256 / 256 / 256) (x / 256 / 256 / 256 / 256 / 256)
    (x / 256 / 256 / 256 / 256 / 256 / 256) (x / 256 / 256 / 256 / 256 / 256 / 256 / 256) refl refl refl refl refl refl refl (high x b)
    ha (is_nth h 1 (omega arith)) (is_nth h 2 (omega arith)) (is_nth h 3 (omega arith)) (is_nth h 4 (omega arith)) (is_nth h 5 (omega arith))
    (is_nth h 6 (omega arith)) (is_nth h 7 (omega arith))

pub stored_word : (w : List ℕ) (at a b c d e f g x : ℕ) → at + 8 ≤ length w
    → Wrote w (set (set (set (set (set (set (set (set w (at + 7) x) (at + 6) g) (at + 5) f) (at + 4) e) (at + 3) d) (at + 2) c) (at + 1) b) at a)
    at (at + 8) (a ∷ b ∷ c ∷ d ∷ e ∷ f ∷ g ∷ x ∷ []) (Ok (at + 8))
stored_word w at a b c d e f g x n =
    byte_before a (omega arith) (omega arith)
    (store at 1 b (omega arith) (omega arith) (store at 2 c (omega arith) (omega arith) (store at 3 d (omega arith) (omega arith)
    (store at 4 e (omega arith) (omega arith) (store at 5 f (omega arith) (omega arith) (store at 6 g (omega arith) (omega arith)
    (store at 7 x (omega arith) (omega arith) (wrote_none w (at + 8) (at + 8) (omega arith)))))))))
