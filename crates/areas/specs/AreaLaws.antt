-- Laws of what stands in an area, of writers one behind another, of heads, copies, lent parts and scratch.
use Rattle.std.specs.Prelude.{◌≡◌, List, [], ◌∷◌, ◌++◌, ◌⊎◌, ℕ, suc, ◌+◌, ◌-◌, ◌≤◌, ◌<◌, take, drop, get_or, set, replicate, Ok, Err, IsErrAnd}
use Rattle.std.proofs.lemmas.Result.{err_from_is_err_and}
use Rattle.areas.specs.declared.area.TooLarge.{TooLarge}
use Rattle.areas.specs.Area.{Is, Fitted, Failed, Wrote, shift, head_bytes, field_end, Finishable, Finished, Out, too_large}
use Rattle.std.proofs.Math.Path.{refl, subst}
use Rattle.std.proofs.Common.{sym, ap, ap₂, ◌∙◌, append_assoc, append-nil, inl, inr, add-zero, add-one, length-append, length-take, length-drop, drop_of_length-le, length-take-le, take_all, take-take, take-add, take_at, take-suc-set, drop_at, drop-drop, drop-set-lt, get_or-take, get_or-drop}
use native.Mathlib.Omega.{arith}
use Rattle.std.proofs.Math.ListN.{length, get_or-append}
use Rattle.std.proofs.Math.Seq.{slice, slice-cons, slice_empty, length-slice, take-append-add, drop-append-add, drop-append_seam, paste, paste-suc}
use Rattle.std.proofs.lemmas.List.Edits.{take-paste, drop-paste}
use Rattle.spec_trees.specs.Bytes.{Field, field_bytes}

-- ---- the beginning and the end of two lists that agree

pub take_less : (w v : List ℕ) (d e : ℕ) → d ≤ e → take e v ≡ take e w → take d v ≡ take d w
take_less w v d e b h = sym (take-take d e v b) ∙ ap (take d) h ∙ take-take d e w b

pub drop_more : (w v : List ℕ) (e f : ℕ) → e ≤ f → drop e v ≡ drop e w → drop f v ≡ drop f w
drop_more w v e f b h =
    let q : e + (f - e) ≡ f = omega arith in
    ap (λ n. drop n v) (sym q) ∙ sym (drop-drop (f - e) e v) ∙ ap (drop (f - e)) h ∙ drop-drop (f - e) e w ∙ ap (λ n. drop n w) q

-- ---- what stands in an area

-- a part, as a call that lends it has it
slice_part : (w : List ℕ) (p n : ℕ) → p ≤ length w → slice p (p + n) w ≡ take n (drop p w)
slice_part w p n b = ap (drop p) (take-add p n w) ∙ drop_at (take p w) (take n (drop p w)) p (length-take-le p w b)

module _ {w : List ℕ} {p e : ℕ} {xs : List ℕ} (h : Is w p e xs) where
  pub is_part_lem : take (e - p) (drop p w) ≡ xs
  is_part_lem =
      let q : p + (e - p) ≡ e = omega arith in
      sym (slice_part w p (e - p) (omega arith)) ∙ ap (λ n. slice p n w) q ∙ h.lies

  pub is_nth : (k : ℕ) → k < length xs → get_or w (p + k) 0 ≡ get_or xs k 0
  is_nth k b =
      sym (get_or-take e w (p + k) 0 (omega (arith, h.ends))) ∙ sym (get_or-drop p (take e w) k 0) ∙ ap (λ l. get_or l k 0) h.lies

  -- what stands below d stays where the first d bytes stay
  pub is_keep : {v : List ℕ} {d : ℕ} → take d v ≡ take d w → e ≤ d → Is v p e xs
  is_keep {v} {d} k b =
      let q = take_less w v e d b k in
      record {
        lies = ap (drop p) q ∙ h.lies;
        ends = h.ends;
        inside = omega (arith, h.inside, simp length-take at (ap length q));
      }

-- what stands from d on stays where all from d on stays
pub is_beyond : {w v : List ℕ} {p e : ℕ} {xs : List ℕ} (d : ℕ) → Is w p e xs → drop d v ≡ drop d w → length v ≡ length w → d ≤ p → Is v p e xs
is_beyond {w} {v} {p} {e} {xs} d h k l b =
    let z : p + (e - p) ≡ e = omega (arith, h.ends) in
    let i = h.inside in
    let j = h.ends in
    record {
      lies =
          ap (λ m. slice p m v) (sym z) ∙ slice_part v p (e - p) (omega arith) ∙ ap (take (e - p)) (drop_more w v d p b k)
          ∙ sym (slice_part w p (e - p) (omega arith)) ∙ ap (λ m. slice p m w) z ∙ h.lies;
      ends = h.ends;
      inside = omega arith;
    }

-- two parts, one behind the other
module _ {w : List ℕ} {p e m : ℕ} (xs ys : List ℕ) (q : m ≡ p + length xs) (h : Is w p e (xs ++ ys)) where
  halves : e ≡ m + length ys
  halves = omega (arith, h.ends, length-append xs ys)

  pub is_right : Is w m e ys
  is_right = record {
    lies = ap (λ n. slice n e w) q ∙ sym (drop-drop (length xs) p (take e w)) ∙ ap (drop (length xs)) h.lies ∙ drop-append_seam xs ys;
    ends = halves;
    inside = h.inside;
  }

  pub is_left : Is w p m xs
  is_left =
      let b : p ≤ length w = omega (arith, h.ends, h.inside) in
      let l : length xs ≤ e - p = omega (arith, halves) in
      record {
        lies = ap (λ n. slice p n w) q ∙ slice_part w p (length xs) b ∙ sym (take-take (length xs) (e - p) (drop p w) l)
            ∙ ap (take (length xs)) (is_part_lem h) ∙ take_at xs ys (length xs) refl;
        ends = q;
        inside = omega (arith, h.inside, halves);
      }

pub is_join : {w : List ℕ} {p m e : ℕ} {xs ys : List ℕ} → Is w p m xs → Is w m e ys → Is w p e (xs ++ ys)
is_join {w} {p} {m} {e} {xs} {ys} h k =
    let n = length-append xs ys in
    let q : p + (m - p + (e - m)) ≡ e = omega arith in
    let z : p + (m - p) ≡ m = omega arith in
    let a : take (m - p) (drop p w) ≡ xs = is_part_lem h in
    let y : drop (m - p) (drop p w) ≡ drop m w = drop-drop (m - p) p w ∙ ap (λ i. drop i w) z in
    let b : take (e - m) (drop (m - p) (drop p w)) ≡ ys = ap (take (e - m)) y ∙ is_part_lem k in
    record {
      lies = ap (λ i. slice p i w) (sym q) ∙ slice_part w p (m - p + (e - m)) (omega arith) ∙ take-add (m - p) (e - m) (drop p w) ∙ ap₂ ◌++◌ a b;
      ends = omega arith;
      inside = k.inside;
    }

-- a byte, and what stands behind it
module _ {w : List ℕ} {p e : ℕ} {x : ℕ} {xs : List ℕ} (h : Is w p e (x ∷ xs)) where
  pub is_head : get_or w p 0 ≡ x
  is_head = ap (λ n. get_or w n 0) (sym (add-zero p)) ∙ is_nth h 0 (omega arith)

  pub is_tail : Is w (p + 1) e xs
  is_tail = is_right (x ∷ []) xs refl h

-- a field: its tag, its content, and where it ends, as its head says
pub length_field : (f : Field) → length (field_bytes f) ≡ 3 + length f.1
unfolding field_bytes
length_field f = omega arith

module _ {w : List ℕ} {p e : ℕ} (f : Field) where
  pub is_tag : Is w p e (field_bytes f) → get_or w p 0 ≡ f.0
  unfolding field_bytes
  is_tag h = is_head h

  pub is_content : Is w p e (field_bytes f) → Is w (p + 3) e f.1
  unfolding field_bytes
  is_content h = is_right (head_bytes f.0 (length f.1)) f.1 refl h

  pub is_field_end : (ys : List ℕ) → Is w p e (field_bytes f ++ ys) → field_end w p ≡ p + length (field_bytes f)
  unfolding field_bytes
  is_field_end ys h = omega (arith, is_nth h 1 (omega arith), is_nth h 2 (omega arith))

-- ---- what a writer did

pub fitted : {w v : List ℕ} {d stop : ℕ} {xs : List ℕ} {e : ℕ} → Fitted w v d stop e xs e → Wrote w v d stop xs (Ok e)
fitted {w} {v} {d} {stop} {xs} {e} h = record {
  fits = λ f q. let z : e ≡ f = cc in subst (λ n. Fitted w v d stop n xs n) z h;
  large = λ q. let z : ◌≡◌ {A = ℕ} 0 1 = cc in absurd (omega arith);
}

pub failed : {w v : List ℕ} {d stop : ℕ} {xs : List ℕ} → Failed w v d stop stop xs → Wrote w v d stop xs (Err too_large)
failed h = record {
  fits = λ f q. let z : ◌≡◌ {A = ℕ} 0 1 = cc in absurd (omega arith);
  large = λ q. h;
}

pub no_room : (w : List ℕ) (d stop : ℕ) (xs : List ℕ) → stop < d + length xs → Wrote w w d stop xs (Err too_large)
no_room w d stop xs h = failed record { over = h; below = refl; beyond = refl }

pub wrote_none : (w : List ℕ) (d stop : ℕ) → d ≤ stop → Wrote w w d stop [] (Ok d)
wrote_none w d stop b = fitted record { ends = sym (add-zero d); room = b; below = sym (append-nil (take d w)); beyond = refl }

-- with more room behind it
pub wrote_wider : {w v : List ℕ} {d stop : ℕ} {xs : List ℕ} {e : ℕ} (s : ℕ) → stop ≤ s → Wrote w v d stop xs (Ok e) → Wrote w v d s xs (Ok e)
wrote_wider {e = e} s l h =
    let f = h.fits e refl in
    fitted record { ends = f.ends; room = omega (arith, f.room); below = f.below; beyond = f.beyond }

-- what a `?` hands on: the bytes did not fit
pub handed_on : (Q : TooLarge → Type 0) (r : Out) → IsErrAnd r Q → r ≡ Err too_large
handed_on Q r h = (err_from_is_err_and {Q = Q} r h).1

-- by what the writer answered
pub told : {P : Type 0} (r : Out) → ((e : ℕ) → r ≡ Ok e → P) → (r ≡ Err too_large → P) → P
told (Ok e) f g = f e refl
told (Err _) f g = g refl

module _ {w v : List ℕ} {d stop top : ℕ} {xs : List ℕ} {e : ℕ} (b : d ≤ length w) (h : Fitted w v d stop top xs e) where
  pub fitted_keep : take d v ≡ take d w
  fitted_keep = sym (take-take d e v (omega arith)) ∙ ap (take d) h.below ∙ take_at (take d w) xs d (length-take-le d w b)

  -- what was written stands there
  pub fitted_is : Is v d e xs
  fitted_is = record {
    lies = ap (drop d) h.below ∙ drop_at (take d w) xs d (length-take-le d w b);
    ends = h.ends;
    inside = omega (arith, length-take-le d w b, simp (length-take, length-append) at (ap length h.below));
  }

module _ {w v : List ℕ} {d stop : ℕ} {xs : List ℕ} {r : Out} (h : Wrote w v d stop xs r) where
  pub wrote_keep : d ≤ length w → take d v ≡ take d w
  wrote_keep b = told r (λ e q. fitted_keep b (h.fits e q)) (λ q. (h.large q).below)

  pub written : {e : ℕ} → d ≤ length w → r ≡ Ok e → Is v d e xs
  written {e} b q = fitted_is b (h.fits e q)

  -- what does not fit does not fit with more behind it, nor with more before it
  pub wrote_fail : (ys : List ℕ) → r ≡ Err too_large → Wrote w v d stop (xs ++ ys) (Err too_large)
  wrote_fail ys q =
      let f = h.large q in
      failed record { over = omega (arith, length-append xs ys); below = f.below; beyond = f.beyond }

  pub fail_back : {a : ℕ} (hs : List ℕ) → d ≡ a + length hs → r ≡ Err too_large → Wrote w v a stop (hs ++ xs) (Err too_large)
  fail_back {a} hs z q =
      let f = h.large q in
      failed record { over = omega (arith, length-append hs xs); below = take_less w v a d (omega arith) f.below; beyond = f.beyond }

  -- one write behind another
  pub wrote_seq : {u : List ℕ} {e : ℕ} {ys : List ℕ} {o : Out} → d ≤ length w → r ≡ Ok e → Wrote v u e stop ys o → Wrote w u d stop (xs ++ ys) o
  wrote_seq {u} {e} {ys} {o} b z k =
      let a = h.fits e z in
      record {
        fits = λ f q.
            let c = k.fits f q in
            record {
              ends = omega (arith, length-append xs ys);
              room = c.room;
              below = c.below ∙ ap (λ l. l ++ ys) a.below ∙ append_assoc (take d w) xs ys;
              beyond = c.beyond ∙ drop_more w v e f (omega arith) a.beyond;
            };
        large = λ q.
            let c = k.large q in
            record {
              over = omega (arith, length-append xs ys);
              below = take_less v u d e (omega arith) c.below ∙ fitted_keep b a;
              beyond = c.beyond ∙ drop_more w v e stop a.room a.beyond;
            };
      }

  -- hs stored before what was written
  pub wrote_before : {u : List ℕ} {a n : ℕ} {hs : List ℕ} → d ≤ length w → d ≤ stop → Fitted v u a n d hs d → Wrote w u a stop (hs ++ xs) r
  wrote_before {u} {a} {n} {hs} b s k =
      let kept = wrote_keep b in
      let inv : d ≤ length v = omega (arith, simp length-take at (ap length kept)) in
      let front : take d u ≡ take a w ++ hs = k.below ∙ ap (λ l. l ++ hs) (take_less w v a d (omega arith) kept) in
      record {
        fits = λ e q.
            let f = h.fits e q in
            let m : length xs ≡ e - d = omega arith in
            let part : take (length xs) (drop d u) ≡ xs = ap (take (length xs)) k.beyond ∙ ap (λ n. take n (drop d v)) m ∙ is_part_lem (fitted_is b f) in
            record {
              ends = omega (arith, length-append hs xs);
              room = f.room;
              below = ap (λ n. take n u) f.ends ∙ take-add d (length xs) u ∙ ap (λ l. take d u ++ l) part
                  ∙ ap (λ l. l ++ xs) front ∙ append_assoc (take a w) hs xs;
              beyond = drop_more v u d e (omega arith) k.beyond ∙ f.beyond;
            };
        large = λ q.
            let f = h.large q in
            record {
              over = omega (arith, length-append hs xs);
              below = fitted_keep (omega arith) k ∙ take_less w v a d (omega arith) kept;
              beyond = drop_more v u d stop s k.beyond ∙ f.beyond;
            };
      }

-- one byte stored
set_fitted : (v : List ℕ) (d x : ℕ) → d < length v → Fitted v (set v d x) d (d + 1) (d + 1) (x ∷ []) (d + 1)
set_fitted v d x b = record {
  ends = refl;
  room = omega arith;
  below = rw (add-one, take-suc-set v d x) refl;
  beyond = drop-set-lt (d + 1) v d x (omega arith);
}

-- a byte stored before what was written
pub byte_before : {w v : List ℕ} {d stop : ℕ} {xs : List ℕ} {r : Out} (x : ℕ) → d < length w → d < stop
    → Wrote w v (d + 1) stop xs r → Wrote w (set v d x) d stop (x ∷ xs) r
byte_before {w} {v} {d} {stop} x b s h =
    let n : d < length v = omega (arith, simp length-take at (ap length (wrote_keep h (omega arith)))) in
    wrote_before h (omega arith) (omega arith) (set_fitted v d x n)

-- ---- heads

-- a head stored before a content, unless the content did not fit
module _ (w : List ℕ) (d tag : ℕ) {r : Out} where
  pub finish_at : {v : List ℕ} {e : ℕ} → d + 3 ≤ e → e ≤ length w → r ≡ Ok e
      → Wrote w v d (d + 3) (head_bytes tag (e - (d + 3))) (Ok (d + 3)) → Finished w v d tag r (Ok e)
  unfolding field_bytes
  finish_at {v} {e} a b q k u stop c m h =
      let f = h.fits e q in
      let n : e - (d + 3) ≡ length c = omega arith in
      let k' = subst (λ n. Wrote w v d (d + 3) (head_bytes tag n) (Ok (d + 3))) n k in
      subst (λ o. Wrote u v d stop (field_bytes (tag, c)) o) q (wrote_before h m (omega arith) (k'.fits (d + 3) refl))

  pub finish_fail : r ≡ Err too_large → Finished w w d tag r (Err too_large)
  unfolding field_bytes
  finish_fail q u stop c m h = fail_back h (head_bytes tag (length c)) refl q

pub finishable : {u w : List ℕ} {p stop : ℕ} {xs : List ℕ} {r : Out} (d : ℕ) → d + 3 ≤ p → stop ≤ length w → Wrote u w p stop xs r → Finishable w d r
finishable d a b h e q = let f = h.fits e q in (omega arith, omega arith)

-- ---- copies: k bytes of s are pasted behind the first d bytes

module _ (w s : List ℕ) (d : ℕ) where
  -- one more is stored
  pub paste_more : (k : ℕ) → d + k < length w → k < length s → set (paste w d s k) (d + k) (get_or s k 0) ≡ paste w d s (k + 1)
  paste_more k a b = paste-suc w d s k 0 a b ∙ ap (λ n. paste w d s n) (sym (add-one k))

  -- all of them are
  pub pasted : {v : List ℕ} {n : ℕ} (stop : ℕ) → d ≤ length w → d + n ≤ stop → length s ≡ n → v ≡ paste w d s n → Wrote w v d stop s (Ok (d + n))
  pasted {v} {n} stop a b l f = fitted record {
    ends = omega arith;
    room = b;
    below = ap (take (d + n)) f ∙ take-paste w d s n a (omega arith) ∙ ap (λ l. take d w ++ l) (take_all n s (omega arith));
    beyond = ap (drop (d + n)) f ∙ drop-paste w d s n a (omega arith);
  }

  -- a byte below them, or beyond them, is read as it was
  paste_below : (k j : ℕ) → d ≤ length w → j < d → get_or (paste w d s k) j 0 ≡ get_or w j 0
  paste_below k j a b =
      let l : j < length (take d w) = omega (arith, length-take-le d w a) in
      let l' : j < length (take d w ++ take k s) = omega (arith, length-append (take d w) (take k s)) in
      get_or-append (take d w ++ take k s) (drop (d + k) w) 0 j l' ∙ get_or-append (take d w) (take k s) 0 j l ∙ get_or-take d w j 0 b

  paste_beyond : (k j : ℕ) → d ≤ length w → k ≤ length s → d + k ≤ j → get_or (paste w d s k) j 0 ≡ get_or w j 0
  paste_beyond k j a b c =
      let q : d + k + (j - (d + k)) ≡ j = omega arith in
      ap (λ n. get_or (paste w d s k) n 0) (sym q) ∙ sym (get_or-drop (d + k) (paste w d s k) (j - (d + k)) 0)
      ∙ ap (λ l. get_or l (j - (d + k)) 0) (drop-paste w d s k a b) ∙ get_or-drop (d + k) w (j - (d + k)) 0 ∙ ap (λ n. get_or w n 0) q

-- a copy of n bytes that stand at i in the area itself
module _ (w : List ℕ) (i n : ℕ) (a : i + n ≤ length w) where
  abbrev source : List ℕ
  source = take n (drop i w)

  pub length_source : length source ≡ n
  length_source = simp (length-take, length-drop) (omega arith)

  -- the copy lies above the source, or has not come to the byte that is read
  unread : (d k : ℕ) → d + n ≤ length w → k < n → (i + n ≤ d) ⊎ (d ≤ i) → get_or (paste w d source k) (i + k) 0 ≡ get_or w (i + k) 0
  unread d k b c (inl z) = paste_below w source d k (i + k) (omega arith) (omega arith)
  unread d k b c (inr z) = paste_beyond w source d k (i + k) (omega arith) (omega (arith, length_source)) (omega arith)

  pub carry_more : {v : List ℕ} (d k : ℕ) → d + n ≤ length w → (i + n ≤ d) ⊎ (d ≤ i) → k < n → v ≡ paste w d source k
      → set v (d + k) (get_or v (i + k) 0) ≡ paste w d source (k + 1)
  carry_more {v} d k b o c e =
      let l = length_source in
      let there : get_or source k 0 ≡ get_or w (i + k) 0 = get_or-take n (drop i w) k 0 c ∙ get_or-drop i w k 0 in
      let byte : get_or v (i + k) 0 ≡ get_or source k 0 = ap (λ x. get_or x (i + k) 0) e ∙ unread d k b c o ∙ sym there in
      rw (byte, e) (paste_more w source d k (omega arith) (omega arith))

-- n bytes, from the last to the first, to a place so far below that none is stored over before it is read: the bytes
-- from the i-th on are copied
abbrev pub Backwards : (w : List ℕ) (from n to : ℕ) (v : List ℕ) (i : ℕ) → Type 0
Backwards w from n to v i = Wrote w v (to + i) (length w) (slice (from + i) (from + n) w) (Ok (to + n))

module _ (w : List ℕ) (from n to : ℕ) (b : from + n ≤ length w) (c : to + n ≤ from) where
  pub back_begin : Backwards w from n to w n
  back_begin = rw (slice_empty (from + n) w) (wrote_none w (to + n) (length w) (omega arith))

  -- what lies beyond the copy is as it was
  unwritten : {v : List ℕ} (i k : ℕ) → Backwards w from n to v i → to + n ≤ k → get_or v k 0 ≡ get_or w k 0
  unwritten {v} i k h l =
      let m = to + n in
      let q : m + (k - m) ≡ k = omega arith in
      ap (λ j. get_or v j 0) (sym q) ∙ sym (get_or-drop m v (k - m) 0) ∙ ap (λ l2. get_or l2 (k - m) 0) (h.fits m refl).beyond
      ∙ get_or-drop m w (k - m) 0 ∙ ap (λ j. get_or w j 0) q

  pub back_more : {v : List ℕ} (i : ℕ) → (i ≡ 0 → ⊥) → i ≤ n → Backwards w from n to v i
      → Backwards w from n to (set v (to + (i - 1)) (get_or v (from + (i - 1)) 0)) (i - 1)
  back_more {v} i z l h =
      let p : to + i ≡ to + (i - 1) + 1 = omega arith in
      let q : from + i ≡ suc (from + (i - 1)) = omega arith in
      let byte = unwritten i (from + (i - 1)) h (omega arith) in
      let rest = subst (λ k. Wrote w v k (length w) (slice (suc (from + (i - 1))) (from + n) w) (Ok (to + n))) p
      (subst (λ k. Wrote w v (to + i) (length w) (slice k (from + n) w) (Ok (to + n))) q h) in
      rw (slice-cons (from + (i - 1)) (from + n) w 0 (omega arith) b, byte) (byte_before (get_or w (from + (i - 1)) 0) (omega arith) (omega arith) rest)

  pub back_end : {v : List ℕ} (i : ℕ) → i ≡ 0 → Backwards w from n to v i → Wrote w v to (length w) (take n (drop from w)) (Ok (to + n))
  back_end {v} i z h =
      let x : Is w from (from + n) (slice from (from + n) w) = record { lies = refl; ends = omega (arith, length-slice from (from + n) w b); inside = b } in
      let m : from + n - from ≡ n = omega arith in
      let y : take n (drop from w) ≡ slice from (from + n) w = ap (λ k. take k (drop from w)) (sym m) ∙ is_part_lem x in
      let p : to + i ≡ to = omega arith in
      let q : from + i ≡ from = omega arith in
      rw y (subst (λ k. Wrote w v k (length w) (slice from (from + n) w) (Ok (to + n))) p (subst (λ k. Wrote w v (to + i) (length w) (slice k (from + n) w) (Ok (to + n))) q h))

-- what a copy wrote
pub is_copied : {w v : List ℕ} {i e d stop : ℕ} {xs : List ℕ} {r : Out} → Is w i e xs → Wrote w v d stop (take (e - i) (drop i w)) r → Wrote w v d stop xs r
is_copied {w} {v} {i} {e} {d} {stop} {xs} {r} h k = subst (λ l. Wrote w v d stop l r) (is_part_lem h) k

-- ---- lent parts

-- what a writer did in the tail from `at` on, said of the whole
module _ (w v : List ℕ) (at : ℕ) (b : at ≤ length w) where
  abbrev lent : List ℕ
  lent = take (length w - at) (drop at w)

  abbrev whole : List ℕ
  whole = take at w ++ (v ++ drop (length w - at) (drop at w))

  rest : length (drop at w) ≤ length w - at
  rest = omega (arith, length-drop at w)

  lent_is : lent ≡ drop at w
  lent_is = take_all (length w - at) (drop at w) rest

  whole_is : whole ≡ take at w ++ v
  whole_is = ap (λ l. take at w ++ (v ++ l)) (drop_of_length-le (drop at w) {i = length w - at} rest) ∙ ap (λ l. take at w ++ l) (append-nil v)

  take_whole : (n : ℕ) → take (at + n) whole ≡ take at w ++ take n v
  take_whole n =
      ap (take (at + n)) whole_is
      ∙ subst (λ k. take (k + n) (take at w ++ v) ≡ take at w ++ take n v) (length-take-le at w b) (take-append-add (take at w) v n)

  drop_whole : (n : ℕ) → drop n v ≡ drop n lent → drop (at + n) whole ≡ drop (at + n) w
  drop_whole n h =
      ap (drop (at + n)) whole_is
      ∙ subst (λ k. drop (k + n) (take at w ++ v) ≡ drop n v) (length-take-le at w b) (drop-append-add (take at w) v n)
      ∙ h ∙ ap (drop n) lent_is ∙ drop-drop n at w

  front : (d : ℕ) → take at w ++ take d lent ≡ take (at + d) w
  front d = ap (λ l. take at w ++ take d l) lent_is ∙ sym (take-add at d w)

  module _ {d stop top : ℕ} {xs : List ℕ} where
    pub fitted_lent : {e : ℕ} → Fitted lent v d stop top xs e → Fitted w whole (at + d) (at + stop) (at + top) xs (at + e)
    fitted_lent {e} h = record {
      ends = omega arith;
      room = omega arith;
      below = take_whole e ∙ ap (λ l. take at w ++ l) h.below ∙ sym (append_assoc (take at w) (take d lent) xs) ∙ ap (λ l. l ++ xs) (front d);
      beyond = drop_whole top h.beyond;
    }

    pub failed_lent : Failed lent v d stop top xs → Failed w whole (at + d) (at + stop) (at + top) xs
    failed_lent h = record {
      over = omega arith;
      below = take_whole d ∙ ap (λ l. take at w ++ l) h.below ∙ front d;
      beyond = drop_whole top h.beyond;
    }

  pub wrote_lent : {d stop : ℕ} {xs : List ℕ} (r : Out) → Wrote lent v d stop xs r → Wrote w whole (at + d) (at + stop) xs (shift at r)
  wrote_lent (Ok e) h = fitted (fitted_lent (h.fits e refl))
  wrote_lent (Err _) h = failed (failed_lent (h.large refl))

  -- at the tail's start, with all its room
  pub wrote_tail : {xs : List ℕ} {r : Out} (o : Out) → r ≡ o → Wrote lent v 0 (length w - at) xs r → Wrote w whole at (length w) xs (shift at o)
  wrote_tail {xs} o q h =
      let n : at + (length w - at) ≡ length w = omega arith in
      subst (λ d. Wrote w whole d (length w) xs (shift at o)) (add-zero at)
      (subst (λ s. Wrote w whole (at + 0) s xs (shift at o)) n
      (wrote_lent o (subst (λ z. Wrote lent v 0 (length w - at) xs z) q h)))

-- ---- scratch above the result

module _ {w v : List ℕ} {d stop : ℕ} {xs : List ℕ} {r : Out} where
  -- from wherever the scratch ends all is as it was
  pub wrote_beyond : {top : ℕ} → stop ≤ top → Wrote w v d stop xs r → drop top v ≡ drop top w
  wrote_beyond {top} b h = told r
      (λ e q. let f = h.fits e q in drop_more w v e top (omega (arith, f.room)) f.beyond)
      (λ q. drop_more w v stop top b (h.large q).beyond)

-- what was made above, from t to e, and moved down to d
pub moved_fitted : {w u v : List ℕ} {t e d stop top : ℕ} {xs : List ℕ} → take d u ≡ take d w → drop top u ≡ drop top w → Is u t e xs
    → d + length xs ≤ stop → stop ≤ top → Wrote u v d (length u) (take (e - t) (drop t u)) (Ok (d + (e - t))) → Fitted w v d stop top xs (d + (e - t))
moved_fitted {w} {u} {v} {t} {e} {d} {stop} {top} {xs} p q h a b k =
    let f = (is_copied h k).fits (d + (e - t)) refl in
    record {
      ends = f.ends;
      room = omega arith;
      below = f.below ∙ ap (λ l. l ++ xs) p;
      beyond = drop_more u v (d + (e - t)) top (omega arith) f.beyond ∙ q;
    }

-- ---- clearing

-- all bytes are zero
pub cleared : (w : List ℕ) (i : ℕ) → i ≡ length w → replicate i 0 ++ drop i w ≡ replicate (length w) 0
cleared w i q =
    ap (λ l. replicate i 0 ++ l) (drop_of_length-le w {i = i} (omega arith)) ∙ append-nil (replicate i 0) ∙ ap (λ n. replicate n 0) q
