-- A head at a place of the bytes, and the fields that are read there: what a loop over fields needs. After these laws
-- nobody looks at length bytes.
use Rattle.std.specs.Prelude.{◌≡◌, Bool, cond, ℕ, zero, suc, ◌+◌, ◌-◌, ◌*◌, ◌≤◌, ◌<◌, take, drop, get_or, leb, Some, None}
use Rattle.std.proofs.Math.Path.{refl, ap}
use Rattle.std.proofs.Common.{sym, ap₂, ◌∙◌, not-suc-le-zero, arith, add-one, length-drop, drop-drop, take-take, take-add, drop_at, length-take-le}
use mathlib.Core.List.{List, [], ◌∷◌}
use Rattle.std.proofs.Math.Bool.{true, false}
use Rattle.std.proofs.Math.Option.{Option, none, some, map}
use Rattle.std.proofs.Math.Numerals.{add-two, add-three}
use Rattle.std.proofs.Math.ListN.{length}
use Rattle.std.proofs.Math.Seq.{slice, slice-cons, slice_empty, length-slice}
use Rattle.std.proofs.Math.Dec.{eqb}
use borrow.Author.Tests.{leb-true, eqb-true, eqb-false, eq-eqb, ne_eqb}
use Rattle.spec_trees.specs.Options.{◌>>=◌, only, some?}
use Rattle.spec_trees.specs.Readers.{split, fields, inside, one, Reader}
use Rattle.spec_trees.specs.Bytes
use Rattle.spec_trees.specs.OptionLaws.{leb_yes, leb_no}
use Rattle.format.specs.declared.head.FieldAt.{FieldAt}
use Rattle.format.specs.Head.{Head, field_at, len_at, first_field, head_at, ends_at, span_at}

-- ---- fields off the front of a list
-- any fuel not below the length will do
split_fuel : (n m : ℕ) (b : List ℕ) → length b ≤ n → length b ≤ m → split n b ≡ split m b
unfolding split
split_fuel zero zero b h k = refl
split_fuel zero (suc m) [] h k = refl
split_fuel zero (suc m) (t ∷ b) h k = absurd (not-suc-le-zero h)
split_fuel (suc n) zero [] h k = refl
split_fuel (suc n) zero (t ∷ b) h k = absurd (not-suc-le-zero k)
split_fuel (suc n) (suc m) [] h k = refl
split_fuel (suc n) (suc m) (t ∷ []) h k = refl
split_fuel (suc n) (suc m) (t ∷ x ∷ []) h k = refl
split_fuel (suc n) (suc m) (t ∷ x ∷ y ∷ c) h k =
    let l : length (drop (x * 256 + y) c) ≤ length c = simp length-drop (omega arith) in
    rw (split_fuel n m (drop (x * 256 + y) c) (omega arith) (omega arith)) refl

fields_cons : (t x y : ℕ) (c : List ℕ) → fields (t ∷ x ∷ y ∷ c)
    ≡ only (leb (x * 256 + y) (length c)) (map (λ fs. (t, take (x * 256 + y) c) ∷ fs) (fields (drop (x * 256 + y) c)))
unfolding fields split
fields_cons t x y c =
    let l : length (drop (x * 256 + y) c) ≤ suc (suc (length c)) = simp length-drop (omega arith) in
    rw (split_fuel (suc (suc (length c))) (length (drop (x * 256 + y) c)) (drop (x * 256 + y) c) l (omega arith)) refl

-- the first field, with m bytes of content
record First (at : ℕ) (b : List ℕ) (t f e : ℕ) : Type 0 where
  m : ℕ
  tag : get_or b 0 0 ≡ t
  start : f ≡ at + 3
  stop : e ≡ at + 3 + m
  room : 3 + m ≤ length b
  reads : fields b ≡ map (λ fs. (t, take m (drop 3 b)) ∷ fs) (fields (drop m (drop 3 b)))

-- by what the test of the length gave
-- two fields that are the same, part by part
same_field : {t f e u g i : ℕ} → Some (field_at t f e) ≡ Some (field_at u g i) → (t ≡ u) × (f ≡ g) × (e ≡ i)
same_field {t} {f} {e} {u} {g} {i} h =
    let q : field_at t f e ≡ field_at u g i = cc in
    (ap (λ (x : FieldAt). x.tag) q, ap (λ (x : FieldAt). x.content.from) q, ap (λ (x : FieldAt). x.content.to) q)

first_pick : (at t x y : ℕ) (c : List ℕ) (u f e : ℕ) (b : Bool) → leb (x * 256 + y) (length c) ≡ b
    → cond b (Some (field_at t (at + 3) (at + 3 + (x * 256 + y)))) None ≡ Some (field_at u f e) → First at (t ∷ x ∷ y ∷ c) u f e
unfolding only
first_pick at t x y c u f e true q h =
    let i = same_field h in
    let n : x * 256 + y ≤ length c = leb-true (x * 256 + y) (length c) q in
    record {
      m = x * 256 + y;
      tag = i.0;
      start = sym i.1;
      stop = sym i.2;
      room = omega arith;
      reads = fields_cons t x y c ∙ rw (q, i.0) refl;
    }
first_pick at t x y c u f e false q h = let z : ◌≡◌ {A = ℕ} 0 1 = cc in absurd (omega arith)

first_found : (at : ℕ) (b : List ℕ) (t f e : ℕ) → first_field at b ≡ Some (field_at t f e) → First at b t f e
unfolding first_field
first_found at [] t f e h = let z : ◌≡◌ {A = ℕ} 0 1 = cc in absurd (omega arith)
first_found at (a ∷ []) t f e h = let z : ◌≡◌ {A = ℕ} 0 1 = cc in absurd (omega arith)
first_found at (a ∷ x ∷ []) t f e h = let z : ◌≡◌ {A = ℕ} 0 1 = cc in absurd (omega arith)
first_found at (a ∷ x ∷ y ∷ c) t f e h = first_pick at a x y c t f e (leb (x * 256 + y) (length c)) refl h

nothing_pick : (t x y : ℕ) (c : List ℕ) (f e : ℕ) (b : Bool) → leb (x * 256 + y) (length c) ≡ b
    → cond b (Some (field_at t f e)) None ≡ None → fields (t ∷ x ∷ y ∷ c) ≡ none
unfolding only
nothing_pick t x y c f e true q h = let z : ◌≡◌ {A = ℕ} 0 1 = cc in absurd (omega arith)
nothing_pick t x y c f e false q h = fields_cons t x y c ∙ rw q refl

first_nothing : (at : ℕ) (b : List ℕ) → 0 < length b → first_field at b ≡ None → fields b ≡ none
unfolding first_field fields split
first_nothing at [] l h = absurd (omega arith)
first_nothing at (a ∷ []) l h = refl
first_nothing at (a ∷ x ∷ []) l h = refl
first_nothing at (a ∷ x ∷ y ∷ c) l h = nothing_pick a x y c (at + 3) (at + 3 + (x * 256 + y)) (leb (x * 256 + y) (length c)) refl h

first_short : (at : ℕ) (b : List ℕ) → length b < 3 → first_field at b ≡ None
unfolding first_field
first_short at [] l = refl
first_short at (a ∷ []) l = refl
first_short at (a ∷ x ∷ []) l = refl
first_short at (a ∷ x ∷ y ∷ c) l = absurd (omega arith)

-- ---- parts
pub take_slice : (m f t : ℕ) (l : List ℕ) → f + m ≤ t → t ≤ length l → take m (slice f t l) ≡ slice f (f + m) l
take_slice m f t l h k =
    let n : length (take f (take t l)) ≡ f = length-take-le f (take t l) (rw (length-take-le t l k) (omega arith)) in
    rw (← take-take (f + m) t l h, take-add f m (take t l), drop_at (take f (take t l)) (take m (drop f (take t l))) f n) refl

pub drop_slice : (m f t : ℕ) (l : List ℕ) → drop m (slice f t l) ≡ slice (f + m) t l
drop_slice m f t l = drop-drop m f (take t l)

module _ (s : List ℕ) (at end : ℕ) (inside : end ≤ length s) where
  three_at : at + 3 ≤ end → slice at end s ≡ get_or s at 0 ∷ get_or s (at + 1) 0 ∷ get_or s (at + 2) 0 ∷ slice (at + 3) end s
  three_at h = rw (slice-cons at end s 0 (omega arith) inside, slice-cons (suc at) end s 0 (omega arith) inside, slice-cons (suc (suc at)) end s 0 (omega arith) inside, add-one, add-two, add-three) refl

  -- ---- the cases in which the code makes a head
  pub head_short : end - at < 3 → head_at s at end ≡ None
  unfolding head_at
  head_short h = first_short at (slice at end s) (omega (arith, length-slice at end s inside))

  module _ (n : ℕ) (three : 3 ≤ end - at) (e : n ≡ len_at s at) where
    pub head_over : end - (at + 3) < n → head_at s at end ≡ None
    unfolding head_at first_field
    head_over h = rw (three_at (omega arith), leb_no (len_at s at) (length (slice (at + 3) end s)) (omega (arith, length-slice (at + 3) end s inside))) refl

    pub head_field : n ≤ end - (at + 3) → head_at s at end ≡ Some (field_at (get_or s at 0) (at + 3) (at + 3 + n))
    unfolding head_at first_field
    head_field h = rw (three_at (omega arith), leb_yes (len_at s at) (length (slice (at + 3) end s)) (omega (arith, length-slice (at + 3) end s inside)), e) refl

-- ---- what a head that was read says
pub record FieldFound (s : List ℕ) (at end t f e : ℕ) : Type 0 where
  pub tag : get_or s at 0 ≡ t
  pub start : f ≡ at + 3
  pub order : f ≤ e
  pub stop : e ≤ end
  pub reads : fields (slice at end s) ≡ map (λ fs. (t, slice f e s) ∷ fs) (fields (slice e end s))

module _ (s : List ℕ) (at end f m e : ℕ) (inside : end ≤ length s) (p : f ≡ at + 3) (q : e ≡ at + 3 + m) (l : e ≤ end) where
  content : take m (drop 3 (slice at end s)) ≡ slice f e s
  content =
      let k : f + m ≡ e = omega arith in
      ap (take m) (drop_slice 3 at end s ∙ ap (λ i. slice i end s) (sym p)) ∙ (take_slice m f end s (omega arith) inside ∙ ap (λ i. slice f i s) k)

  behind : drop m (drop 3 (slice at end s)) ≡ slice e end s
  behind = ap (drop m) (drop_slice 3 at end s) ∙ (drop_slice m (at + 3) end s ∙ ap (λ i. slice i end s) (sym q))

module _ (s : List ℕ) (at end : ℕ) (inside : end ≤ length s) where
  found : (t f e : ℕ) → First at (slice at end s) t f e → FieldFound s at end t f e
  found t f e q =
      let n = q.room in
      let r : 3 + q.m ≤ end - at = rw (length-slice at end s inside) at n in
      let l : e ≤ end = omega (arith, q.stop) in
      record {
        tag = sym (ap (λ b. get_or b 0 0) (slice-cons at end s 0 (omega arith) inside)) ∙ q.tag;
        start = q.start;
        order = omega (arith, q.start, q.stop);
        stop = l;
        reads = q.reads ∙ ap₂ (λ c o. map (λ fs. (t, c) ∷ fs) (fields o)) (content s at end f q.m e inside q.start q.stop l) (behind s at end f q.m e inside q.start q.stop l);
      }

  pub head_found : (t f e : ℕ) → head_at s at end ≡ Some (field_at t f e) → FieldFound s at end t f e
  unfolding head_at
  head_found t f e h = found t f e (first_found at (slice at end s) t f e h)

  pub fields_nothing : at < end → head_at s at end ≡ None → fields (slice at end s) ≡ none
  unfolding head_at
  fields_nothing l h = first_nothing at (slice at end s) (omega (arith, length-slice at end s inside)) h

pub fields_end : (s : List ℕ) (at : ℕ) → fields (slice at at s) ≡ some []
unfolding fields split
fields_end s at = rw (slice_empty at s) refl

-- ---- the field that spans a part
-- the cases in which the code makes it
module _ (s : List ℕ) (at end : ℕ) where
  pub span_field : (t f e : ℕ) → head_at s at end ≡ Some (field_at t f e) → e ≡ end → span_at s at end ≡ Some (field_at t f e)
  unfolding span_at ends_at
  span_field t f e h q = ap (ends_at end) h ∙ rw (eq-eqb e end q) refl

  pub span_trailing : (t f e : ℕ) → head_at s at end ≡ Some (field_at t f e) → (e ≡ end → ⊥) → span_at s at end ≡ None
  unfolding span_at ends_at
  span_trailing t f e h q = ap (ends_at end) h ∙ rw (ne_eqb e end q) refl

  pub span_nothing : head_at s at end ≡ None → span_at s at end ≡ None
  unfolding span_at ends_at
  span_nothing h = ap (ends_at end) h

ends_pick : (t f e u g i end : ℕ) (b : Bool) → eqb e end ≡ b → cond b (Some (field_at t f e)) None ≡ Some (field_at u g i) → (Some (field_at t f e) ≡ Some (field_at u g i)) × (i ≡ end)
ends_pick t f e u g i end true q h = (h, sym (same_field h).2 ∙ eqb-true e end q)
ends_pick t f e u g i end false q h = let z : ◌≡◌ {A = ℕ} 0 1 = cc in absurd (omega arith)

ends_field : (h : Head) (end t f e : ℕ) → ends_at end h ≡ Some (field_at t f e) → (h ≡ Some (field_at t f e)) × (e ≡ end)
unfolding ends_at
ends_field None end t f e q = let z : ◌≡◌ {A = ℕ} 0 1 = cc in absurd (omega arith)
ends_field (Some h) end t f e q = ends_pick h.tag h.content.from h.content.to t f e end (eqb h.content.to end) refl q

ends_other : (t f e end : ℕ) (b : Bool) → eqb e end ≡ b → cond b (Some (field_at t f e)) None ≡ None → e ≡ end → ⊥
ends_other t f e end true q h x = let z : ◌≡◌ {A = ℕ} 0 1 = cc in omega arith
ends_other t f e end false q h x = eqb-false e end q x

some_field : {A : Type 0} (b : Bool) (f : A) (o : Option (List A)) → only b (map (λ fs. f ∷ fs) o) ≡ some [] → ⊥
unfolding only
some_field true f none h = let z : ◌≡◌ {A = ℕ} 0 1 = cc in omega arith
some_field true f (some fs) h = let z : ◌≡◌ {A = ℕ} 0 1 = cc in omega arith
some_field false f o h = let z : ◌≡◌ {A = ℕ} 0 1 = cc in omega arith

-- bytes are not read as no field
not_no_field : (b : List ℕ) → 0 < length b → fields b ≡ some [] → ⊥
unfolding fields split
not_no_field [] l h = omega arith
not_no_field (t ∷ []) l h = let z : ◌≡◌ {A = ℕ} 0 1 = cc in omega arith
not_no_field (t ∷ x ∷ []) l h = let z : ◌≡◌ {A = ℕ} 0 1 = cc in omega arith
not_no_field (t ∷ x ∷ y ∷ c) l h = some_field (leb (x * 256 + y) (length c)) (t, take (x * 256 + y) c) (fields (drop (x * 256 + y) c)) (sym (fields_cons t x y c) ∙ h)

-- what trails a field is at least one more
two_fields : {A D : Type 0} (g : A → D) (r : Reader A) (f : ℕ × List ℕ) (o : Option (List (ℕ × List ℕ))) → (o ≡ some [] → ⊥)
    → (map (λ fs. f ∷ fs) o >>= one g r) ≡ none
unfolding ◌>>=◌ one
two_fields g r f none n = refl
two_fields g r f (some []) n = absurd (n refl)
two_fields g r f (some (f' ∷ fs)) n = refl

-- what a spanning field that was read says
pub record Spanned (s : List ℕ) (at end t f e : ℕ) : Type 0 where
  pub start : f ≡ at + 3
  pub order : f ≤ e
  pub stop : e ≡ end
  pub reads : fields (slice at end s) ≡ some ((t, slice f e s) ∷ [])

module _ (s : List ℕ) (at end : ℕ) (within : end ≤ length s) where
  pub span_found : (t f e : ℕ) → span_at s at end ≡ Some (field_at t f e) → Spanned s at end t f e
  unfolding span_at
  span_found t f e h =
      let (q, x) = ends_field (head_at s at end) end t f e h in
      let d = head_found s at end within t f e q in
      let y : fields (slice e end s) ≡ some [] = ap (λ i. fields (slice i end s)) x ∙ fields_end s end in
      record {
        start = d.start;
        order = d.order;
        stop = x;
        reads = d.reads ∙ rw y refl;
      }

  -- no field spans the part, so it is not just one field
  not_one : {A D : Type 0} (g : A → D) (r : Reader A) (h : Head) → at ≤ end → head_at s at end ≡ h → ends_at end h ≡ None → inside (one g r) (slice at end s) ≡ none
  unfolding inside ends_at ◌>>=◌ one
  not_one g r (Some field) l h q =
      let t = field.tag in
      let f = field.content.from in
      let e = field.content.to in
      let d = head_found s at end within t f e h in
      let x : e ≡ end → ⊥ = ends_other t f e end (eqb e end) refl q in
      let m = d.stop in
      let n : e < end = omega (arith, x) in
      let y : 0 < length (slice e end s) = rw (length-slice e end s within) (omega arith) in
      ap (λ o. o >>= one g r) d.reads ∙ two_fields g r (t, slice f e s) (fields (slice e end s)) (not_no_field (slice e end s) y)
  not_one g r None l h q = go (eqb at end) refl
    where
      go : (b : Bool) → eqb at end ≡ b → (fields (slice at end s) >>= one g r) ≡ none
      go true x =
          let y : fields (slice at end s) ≡ some [] = ap (λ i. fields (slice i end s)) (eqb-true at end x) ∙ fields_end s end in
          ap (λ o. o >>= one g r) y
      go false x =
          let n : at < end = omega (arith, eqb-false at end x) in
          ap (λ o. o >>= one g r) (fields_nothing s at end within n h)

  pub span_none : {A D : Type 0} (g : A → D) (r : Reader A) → at ≤ end → span_at s at end ≡ None → inside (one g r) (slice at end s) ≡ none
  unfolding span_at
  span_none g r l h = not_one g r (head_at s at end) l refl h

pub some_map : {A B : Type 0} (f : A → B) (x : Option A) → some? (map f x) ≡ some? x
unfolding some?
some_map f none = refl
some_map f (some a) = refl

-- ---- whether the fields of a part are read, one field after another. p reads the fields from here on
next_field : {A B F : Type 0} (p : List F → Option A) (q : List F → Option B) (f : F) (o : Option (List F))
    → ((fs : List F) → some? (p (f ∷ fs)) ≡ some? (q fs)) → some? (map (λ fs. f ∷ fs) o >>= p) ≡ some? (o >>= q)
unfolding ◌>>=◌ some?
next_field p q f none h = refl
next_field p q f (some fs) h = h fs

bad_field : {A F : Type 0} (p : List F → Option A) (f : F) (o : Option (List F))
    → ((fs : List F) → some? (p (f ∷ fs)) ≡ false) → some? (map (λ fs. f ∷ fs) o >>= p) ≡ false
unfolding ◌>>=◌ some?
bad_field p f none h = refl
bad_field p f (some fs) h = h fs

module _ (s : List ℕ) (at end : ℕ) (within : end ≤ length s) where
  module _ (t f e : ℕ) (h : head_at s at end ≡ Some (field_at t f e)) where
    -- the first field is good: what follows decides
    pub inside_next : {A B : Type 0} (p : List Bytes.Field → Option A) (q : List Bytes.Field → Option B)
        → ((fs : List Bytes.Field) → some? (p ((t, slice f e s) ∷ fs)) ≡ some? (q fs)) → some? (inside p (slice at end s)) ≡ some? (inside q (slice e end s))
    unfolding inside
    inside_next p q g = ap (λ o. some? (o >>= p)) (head_found s at end within t f e h).reads ∙ next_field p q (t, slice f e s) (fields (slice e end s)) g

    pub inside_bad : {A : Type 0} (p : List Bytes.Field → Option A)
        → ((fs : List Bytes.Field) → some? (p ((t, slice f e s) ∷ fs)) ≡ false) → some? (inside p (slice at end s)) ≡ false
    unfolding inside
    inside_bad p g = ap (λ o. some? (o >>= p)) (head_found s at end within t f e h).reads ∙ bad_field p (t, slice f e s) (fields (slice e end s)) g

  pub inside_nothing : {A : Type 0} (p : List Bytes.Field → Option A) → at < end → head_at s at end ≡ None → some? (inside p (slice at end s)) ≡ false
  unfolding inside ◌>>=◌ some?
  inside_nothing p l h = ap (λ o. some? (o >>= p)) (fields_nothing s at end within l h)

  -- of one field: what the spanning field comes to
  pub inside_one : {A D : Type 0} (g : A → D) (r : Reader A) (t f e : ℕ) → span_at s at end ≡ Some (field_at t f e)
      → some? (inside (one g r) (slice at end s)) ≡ some? (r (t, slice f e s))
  unfolding inside ◌>>=◌ one
  inside_one g r t f e h = ap (λ o. some? (o >>= one g r)) (span_found s at end within t f e h).reads ∙ some_map g (r (t, slice f e s))

pub inside_end : {A : Type 0} (p : List Bytes.Field → Option A) (s : List ℕ) (at : ℕ) → some? (inside p (slice at at s)) ≡ some? (p [])
unfolding inside ◌>>=◌
inside_end p s at = ap (λ o. some? (o >>= p)) (fields_end s at)

-- no field at all, where there must be one
pub inside_none : {A : Type 0} (p : List Bytes.Field → Option A) (s : List ℕ) (at end : ℕ) → end ≤ length s → at ≤ end → some? (p []) ≡ false
    → head_at s at end ≡ None → some? (inside p (slice at end s)) ≡ false
inside_none p s at end within l k h = go (eqb at end) refl
  where
    go : (b : Bool) → eqb at end ≡ b → some? (inside p (slice at end s)) ≡ false
    go true x = ap (λ i. some? (inside p (slice i end s))) (eqb-true at end x) ∙ (inside_end p s end ∙ k)
    go false x = inside_nothing s at end within p (omega (arith, eqb-false at end x)) h
