-- Laws that take apart what stands in a query, over any fields: the fields inside a field, by one, two, three or a
-- list; and the parts of a value that is written with them.
use Rattle.std.specs.Prelude.{◌≡◌, ℕ, ◌+◌, ◌≤◌, length}
use Rattle.std.proofs.Math.Path.{refl}
use Rattle.std.proofs.Common.{subst, ◌∙◌, arith}
use mathlib.Core.List.{List, [], ◌∷◌, map}
use Rattle.spec_trees.specs.Bytes.{Field, field_bytes, bytes}
use Rattle.areas.specs.Area.{Is, field_end, span}
use Rattle.areas.specs.AreaLaws.{is_left, is_right, is_content, is_field_end, length_field}
use Rattle.spec_trees.proofs.FieldLaws.{bytes_one, length_bytes}
use Rattle.format.specs.Stand.{Holds}
use Rattle.spec_trees.specs.Lists.{All}
use Rattle.spec_queries.specs.Query.{Data, Datas, ended, more}
use Rattle.spec_queries.specs.Bytes.{data_f, data_fs}
use Rattle.queries.specs.Places.{HoldsOk, OnePart, TwoParts, ThreeParts, data_bytes, datas_bytes}

-- ---- fields, one behind another

-- the first, which ends at m, and those behind it
pub record FirstParts (q : List ℕ) (p m e : ℕ) (f : Field) (fs : List Field) : Type 0 where
  pub first_is : Is q p m (field_bytes f)
  pub rest_is : Is q m e (bytes fs)
  pub after : p + 3 ≤ m
  pub within : m ≤ e

pub first_parts : {q : List ℕ} {p m e : ℕ} (f : Field) (fs : List Field) → m ≡ field_end q p → Is q p e (bytes (f ∷ fs)) → FirstParts q p m e f fs
unfolding bytes
first_parts f fs g h =
    let z = g ∙ is_field_end f (bytes fs) h in
    let r = is_right (field_bytes f) (bytes fs) z h in
    record {
      first_is = is_left (field_bytes f) (bytes fs) z h;
      rest_is = r;
      after = omega (arith, length_field f);
      within = omega (arith, r.ends);
    }

-- the only one
pub only_part : {q : List ℕ} {p e : ℕ} (f : Field) → Is q p e (bytes (f ∷ [])) → Is q p e (field_bytes f)
only_part {q} {p} {e} f h = subst (Is q p e) (bytes_one f) h

-- where nothing stands there is none
pub no_part : {q : List ℕ} {p e : ℕ} (f : Field) (fs : List Field) → p ≡ e → Is q p e (bytes (f ∷ fs)) → ⊥
no_part f fs z h = omega (arith, h.ends, length_bytes f fs)

-- a field takes at least its head
pub field_room : {q : List ℕ} {p e : ℕ} (f : Field) → Is q p e (field_bytes f) → (p + 3 ≤ e) × (e ≤ length q)
field_room f h = (omega (arith, h.ends, length_field f), h.inside)

-- ---- fields inside the field that stands from p to e
pub record OneInside (q : List ℕ) (p e : ℕ) (f : Field) : Type 0 where
  pub first_is : Is q (p + 3) e (field_bytes f)
  pub after : p + 6 ≤ e

pub record TwoInside (q : List ℕ) (p m e : ℕ) (f g : Field) : Type 0 where
  pub first_is : Is q (p + 3) m (field_bytes f)
  pub second_is : Is q m e (field_bytes g)
  pub after : p + 6 ≤ m
  pub within : m + 3 ≤ e

pub record ThreeInside (q : List ℕ) (p m n e : ℕ) (f g h : Field) : Type 0 where
  pub first_is : Is q (p + 3) m (field_bytes f)
  pub second_is : Is q m n (field_bytes g)
  pub third_is : Is q n e (field_bytes h)
  pub after : p + 6 ≤ m
  pub between : m + 3 ≤ n
  pub within : n + 3 ≤ e

module _ {q : List ℕ} {p e : ℕ} (t : ℕ) where
  pub one_inside : (f : Field) → Is q p e (field_bytes (t, bytes (f ∷ []))) → OneInside q p e f
  one_inside f z =
      let a = only_part f (is_content (t, bytes (f ∷ [])) z) in
      record { first_is = a; after = omega (arith, field_room f a) }

  pub two_inside : {m : ℕ} (f g : Field) → m ≡ field_end q (p + 3) → Is q p e (field_bytes (t, bytes (f ∷ g ∷ []))) → TwoInside q p m e f g
  two_inside f g y z =
      let a = first_parts f (g ∷ []) y (is_content (t, bytes (f ∷ g ∷ [])) z) in
      let b = only_part g a.rest_is in
      record { first_is = a.first_is; second_is = b; after = omega (arith, a.after); within = (field_room g b).0 }

  pub three_inside : {m n : ℕ} (f g h : Field) → m ≡ field_end q (p + 3) → n ≡ field_end q m → Is q p e (field_bytes (t, bytes (f ∷ g ∷ h ∷ []))) → ThreeInside q p m n e f g h
  three_inside f g h x y z =
      let a = first_parts f (g ∷ h ∷ []) x (is_content (t, bytes (f ∷ g ∷ h ∷ [])) z) in
      let b = first_parts g (h ∷ []) y a.rest_is in
      let c = only_part h b.rest_is in
      record {
        first_is = a.first_is;
        second_is = b.first_is;
        third_is = c;
        after = omega (arith, a.after);
        between = b.after;
        within = (field_room h c).0;
      }

-- ---- the parts of a value that is written with such fields: by their whole fields, or by what those hold
abbrev pub whole : {A : Type 0} → (A → Field) → A → List ℕ
whole f a = field_bytes (f a)

abbrev pub held : {A : Type 0} → (A → Field) → A → List ℕ
held f a = (f a).1

-- what the first field inside holds
pub first_held : {q : List ℕ} {m : ℕ} (p : ℕ) (f : Field) → Is q (p + 3) m (field_bytes f) → Is q (p + 6) m f.1
first_held {q} {m} p f z = let y : p + 3 + 3 ≡ p + 6 = omega arith in subst (λ n. Is q n m f.1) y (is_content f z)

module _ {X A : Type 0} {q : List ℕ} {p e : ℕ} (k : A → X) (f : A → Field) (t : ℕ) (a : A) (z : Is q p e (field_bytes (t, bytes (f a ∷ [])))) where
  pub one_whole : OnePart k (whole f) q (span p e) (k a) (span (p + 3) e)
  one_whole = let i = one_inside t (f a) z in record { part = a; same = refl; part_is = i.first_is; after = omega arith; within = omega arith }

  pub one_held : OnePart k (held f) q (span p e) (k a) (span (p + 6) e)
  one_held = let i = one_inside t (f a) z in record { part = a; same = refl; part_is = first_held p (f a) i.first_is; after = omega arith; within = omega arith }

module _ {X A B : Type 0} {q : List ℕ} {p m e : ℕ} (k : A → B → X) (f : A → Field) (g : B → Field) (t : ℕ) (a : A) (b : B)
    (y : m ≡ field_end q (p + 3)) (z : Is q p e (field_bytes (t, bytes (f a ∷ g b ∷ [])))) where
  pub two_whole : TwoParts k (whole f) (whole g) q (span p e) (k a b) (span (p + 3) m) (span m e)
  two_whole =
      let i = two_inside t (f a) (g b) y z in
      record { first = a; second = b; same = refl; first_is = i.first_is; second_is = i.second_is; after = omega arith; between = omega arith; within = omega arith }

  pub two_held : TwoParts k (held f) (held g) q (span p e) (k a b) (span (p + 6) m) (span (m + 3) e)
  two_held =
      let i = two_inside t (f a) (g b) y z in
      record {
        first = a;
        second = b;
        same = refl;
        first_is = first_held p (f a) i.first_is;
        second_is = is_content (g b) i.second_is;
        after = omega arith;
        between = omega arith;
        within = omega arith;
      }

  -- the first by its whole field, the second by what it holds
  pub two_mixed : TwoParts k (whole f) (held g) q (span p e) (k a b) (span (p + 3) m) (span (m + 3) e)
  two_mixed =
      let i = two_inside t (f a) (g b) y z in
      record {
        first = a;
        second = b;
        same = refl;
        first_is = i.first_is;
        second_is = is_content (g b) i.second_is;
        after = omega arith;
        between = omega arith;
        within = omega arith;
      }

module _ {X A B C : Type 0} {q : List ℕ} {p m n e : ℕ} (k : A → B → C → X) (f : A → Field) (g : B → Field) (h : C → Field) (t : ℕ) (a : A) (b : B) (c : C)
    (x : m ≡ field_end q (p + 3)) (y : n ≡ field_end q m) (z : Is q p e (field_bytes (t, bytes (f a ∷ g b ∷ h c ∷ [])))) where
  pub three_whole : ThreeParts k (whole f) (whole g) (whole h) q (span p e) (k a b c) (span (p + 3) m) (span m n) (span n e)
  three_whole =
      let i = three_inside t (f a) (g b) (h c) x y z in
      record {
        first = a;
        second = b;
        third = c;
        same = refl;
        first_is = i.first_is;
        second_is = i.second_is;
        third_is = i.third_is;
        after = omega arith;
        between = omega arith;
        between_2 = omega arith;
        within = omega arith;
      }

-- ---- a list: its first value, and the rest
pub record ListParts {A : Type 0} (f : A → Field) (q : List ℕ) (p m e : ℕ) (xs : List A) : Type 0 where
  pub first : A
  pub rest : List A
  pub same : xs ≡ first ∷ rest
  pub first_is : Is q p m (field_bytes (f first))
  pub rest_is : Is q m e (bytes (map f rest))
  pub after : p + 3 ≤ m
  pub within : m ≤ e

module _ {A : Type 0} (f : A → Field) {q : List ℕ} {p e : ℕ} where
  pub list_parts : {m : ℕ} (xs : List A) → m ≡ field_end q p → (p ≡ e → ⊥) → Is q p e (bytes (map f xs)) → ListParts f q p m e xs
  unfolding bytes
  list_parts [] g n h = absurd (n (omega (arith, h.ends)))
  list_parts (x ∷ xs) g n h =
      let a = first_parts (f x) (map f xs) g h in
      record { first = x; rest = xs; same = refl; first_is = a.first_is; rest_is = a.rest_is; after = a.after; within = a.within }

  pub list_none : (xs : List A) → p ≡ e → Is q p e (bytes (map f xs)) → xs ≡ []
  list_none [] z h = refl
  list_none (x ∷ xs) z h = absurd (no_part (f x) (map f xs) z h)

-- the members of a list
pub record DatasParts (q : List ℕ) (p m e : ℕ) (ds : Datas) : Type 0 where
  pub first : Data
  pub rest : Datas
  pub same : ds ≡ more first rest
  pub first_is : Is q p m (data_bytes first)
  pub rest_is : Is q m e (datas_bytes rest)
  pub after : p + 3 ≤ m
  pub within : m ≤ e

module _ {q : List ℕ} {p e : ℕ} where
  pub datas_parts : {m : ℕ} (ds : Datas) → m ≡ field_end q p → (p ≡ e → ⊥) → Is q p e (datas_bytes ds) → DatasParts q p m e ds
  unfolding bytes data_f
  datas_parts ended g n h = absurd (n (omega (arith, h.ends)))
  datas_parts (more d ds) g n h =
      let a = first_parts (data_f d) (data_fs ds) g h in
      record { first = d; rest = ds; same = refl; first_is = a.first_is; rest_is = a.rest_is; after = a.after; within = a.within }

  pub datas_none : (ds : Datas) → p ≡ e → Is q p e (datas_bytes ds) → ds ≡ ended
  unfolding data_f
  datas_none ended z h = refl
  datas_none (more d ds) z h = absurd (no_part (data_f d) (data_fs ds) z h)

-- ---- what callers of the readers require: some value stands there, and one that the rules allow

pub holds_of : {A : Type 0} {P : A → Type 0} {b : A → List ℕ} {q : List ℕ} {p e : ℕ} → HoldsOk P b q p e → Holds b q p e
holds_of h = record { value = h.value; value_is = h.value_is }

-- a value that is a field takes at least its head
pub holds_room : {A : Type 0} (f : A → Field) {q : List ℕ} {p e : ℕ} → Holds (whole f) q p e → (p + 3 ≤ e) × (e ≤ length q)
holds_room f h = field_room (f h.value) h.value_is

-- the first value of a list, and the rest
module _ {A : Type 0} (f : A → Field) {q : List ℕ} {p m e : ℕ} (n : p ≡ e → ⊥) (g : m ≡ field_end q p) where
  pub list_places : Holds (λ xs. bytes (map f xs)) q p e → (p + 3 ≤ m) × (m ≤ e) × (e ≤ length q)
  list_places h = let a = list_parts f h.value g n h.value_is in (a.after, a.within, h.value_is.inside)

  pub list_first : Holds (λ xs. bytes (map f xs)) q p e → Holds (whole f) q p m
  list_first h = let a = list_parts f h.value g n h.value_is in record { value = a.first; value_is = a.first_is }

  pub list_rest : Holds (λ xs. bytes (map f xs)) q p e → Holds (λ xs. bytes (map f xs)) q m e
  list_rest h = let a = list_parts f h.value g n h.value_is in record { value = a.rest; value_is = a.rest_is }

  pub ok_list_first : (P : A → Type 0) → HoldsOk (All P) (λ xs. bytes (map f xs)) q p e → HoldsOk P (whole f) q p m
  ok_list_first P h =
      let a = list_parts f h.value g n h.value_is in
      record { value = a.first; allowed = (subst (All P) a.same h.allowed).0; value_is = a.first_is }

  pub ok_list_rest : (P : A → Type 0) → HoldsOk (All P) (λ xs. bytes (map f xs)) q p e → HoldsOk (All P) (λ xs. bytes (map f xs)) q m e
  ok_list_rest P h =
      let a = list_parts f h.value g n h.value_is in
      record { value = a.rest; allowed = (subst (All P) a.same h.allowed).1; value_is = a.rest_is }

-- the first member of a list, and the rest
module _ {q : List ℕ} {p m e : ℕ} (n : p ≡ e → ⊥) (g : m ≡ field_end q p) where
  pub datas_places : Holds datas_bytes q p e → (p + 3 ≤ m) × (m ≤ e) × (e ≤ length q)
  datas_places h = let a = datas_parts h.value g n h.value_is in (a.after, a.within, h.value_is.inside)
