-- Laws of heads stored before a content, and of those of a label's entry.
use Rattle.std.specs.Prelude.{◌≡◌, List, [], ◌∷◌, ◌++◌, ℕ, ◌+◌, ◌-◌, ◌≤◌, ◌<◌, length, take, set, Ok, Err}
use Rattle.std.proofs.Math.Path.{refl}
use Rattle.std.proofs.Common.{sym, ap, subst, ◌∙◌, add-zero, arith, take-take}
use Rattle.spec_trees.specs.Bytes.{field_bytes, label_tag, label_heads, label_of}
use Rattle.areas.specs.Area.{Wrote, head_bytes, Out, too_large}
use Rattle.areas.specs.AreaLaws.{failed, finish_at, wrote_none, wrote_before, byte_before}
use Rattle.format.specs.Stand.{entry_of, Headed}

-- ---- heads of any kind

-- none
pub headed_none : {w : List ℕ} {d : ℕ} {r : Out} → Headed (λ c. c) 0 w w d r r
headed_none {w} {d} {r} = record { same = refl; wrote = λ u stop c b h. subst (λ n. Wrote u w n stop c r) (add-zero d) h }

-- some behind others
pub headed_seq : {f g : List ℕ → List ℕ} {n m k : ℕ} {w v x : List ℕ} {d i : ℕ} {r q o : Out} → i ≡ d + m → k ≡ m + n
    → Headed f n w v i r q → Headed g m v x d q o → Headed (λ c. g (f c)) k w x d r o
headed_seq {f} {g} {n} {m} {k} {w} {v} {x} {d} {i} {r} {q} {o} a b h j = record {
  same = j.same ∙ h.same;
  wrote = λ u stop c l z.
      let e : d + k ≡ i + n = omega arith in
      let y : Wrote u v i stop (f c) q = h.wrote u stop c (omega arith) (subst (λ s. Wrote u w s stop c r) e z) in
      j.wrote u stop (f c) (omega arith) (subst (λ s. Wrote u v s stop (f c) q) a y);
}

-- what did not fit does not fit with heads before it
pub headed_large : (f : List ℕ → List ℕ) (n : ℕ) {w : List ℕ} {d : ℕ} {r : Out} → ((c : List ℕ) → length (f c) ≡ n + length c) → r ≡ Err too_large
    → Headed f n w w d r (Err too_large)
headed_large f n {w} {d} l q = record {
  same = sym q;
  wrote = λ u stop c b h.
      let z = h.large q in
      failed record {
        over = omega (arith, l c);
        below = sym (take-take d (d + n) w (omega arith)) ∙ ap (take d) z.below ∙ take-take d (d + n) u (omega arith);
        beyond = z.beyond;
      };
}

-- bytes that do not depend on the content
pub headed_bytes : (hs : List ℕ) (n : ℕ) {w x : List ℕ} {d e : ℕ} {r : Out} → length hs ≡ n → r ≡ Ok e → Wrote w x d (d + n) hs (Ok (d + n))
    → Headed (λ c. hs ++ c) n w x d r (Ok e)
headed_bytes hs n {w} {x} {d} {e} l q k = record {
  same = sym q;
  wrote = λ u stop c b h.
      let f = h.fits e q in
      subst (λ o. Wrote u x d stop (hs ++ c) o) q (wrote_before h b (omega arith) (k.fits (d + n) refl));
}

-- a field's head
pub headed_field : (tag : ℕ) {w x : List ℕ} {d e : ℕ} {r : Out} → d + 3 ≤ e → e ≤ length w → r ≡ Ok e
    → Wrote w x d (d + 3) (head_bytes tag (e - (d + 3))) (Ok (d + 3)) → Headed (λ c. field_bytes (tag, c)) 3 w x d r (Ok e)
headed_field tag {w} {x} {d} a b q k = record {
  same = sym q;
  wrote = λ u stop c m h. finish_at w d tag a b q k u stop c m h;
}

-- one byte
pub byte_wrote : (w : List ℕ) (d x : ℕ) → d < length w → Wrote w (set w d x) d (d + 1) (x ∷ []) (Ok (d + 1))
byte_wrote w d x b = byte_before x b (omega arith) (wrote_none w (d + 1) (d + 1) (omega arith))

-- ---- a label with its array
module _ {w w1 w2 w3 : List ℕ} {d k e : ℕ} {r : Out} (b : d + label_heads k ≤ e) (l : e ≤ length w) (l2 : e ≤ length w2) (q : r ≡ Ok e)
    (h1 : Wrote w w1 (d + 4) (d + 4 + 3) (head_bytes 1 (e - (d + 4 + 3))) (Ok (d + 4 + 3)))
    (h2 : Wrote w1 w2 (d + 3) (d + 3 + 1) (k ∷ []) (Ok (d + 3 + 1)))
    (h3 : Wrote w2 w3 d (d + 3) (head_bytes label_tag (e - (d + 3))) (Ok (d + 3))) where
  pub headed_entry : Headed (entry_of k) (label_heads k) w w3 d r (Ok e)
  unfolding label_heads label_of
  headed_entry =
      let a1 : Headed (λ c. field_bytes (1, c)) 3 w w1 (d + 4) r (Ok e) = headed_field 1 (omega arith) l q h1 in
      let a2 : Headed (λ c. k ∷ c) 1 w1 w2 (d + 3) (Ok e) (Ok e) = headed_bytes (k ∷ []) 1 refl refl h2 in
      let a3 : Headed (λ c. field_bytes (label_tag, c)) 3 w2 w3 d (Ok e) (Ok e) = headed_field label_tag (omega arith) l2 refl h3 in
      headed_seq {n = 4} refl refl (headed_seq {n = 3} (omega arith) refl a1 a2) a3
