-- Readers and writers of fields: what is allowed is read back, and nothing else is read. Shown once over tags, counts
-- and lengths; trees, criteria, data and stages cite it.
use Rattle.std.proofs.Math.Path.{◌≡◌, refl, sym, ap}
use Rattle.std.proofs.Common.{ap₂, ◌∙◌, inl, inr, arith, eqb→eq}
use mathlib.Core.List.{List, [], ◌∷◌, map}
use Rattle.std.specs.Prelude.{Bool, ◌↔◌, ◌⊎◌, ℕ, ◌≤◌, ◌<◌, eqb}
use Rattle.std.proofs.Math.Bool.{true, false, cond}
use Rattle.std.proofs.Math.Option.{Option, none, some}
use Rattle.std.proofs.Math.ListN.{length, length-map}
use Rattle.std.proofs.Math.Dec.{leb, leb→le}
use Rattle.spec_trees.specs.Options.{◌>>=◌, only}
use Rattle.spec_trees.specs.Lists.{All, each}
use Rattle.spec_trees.specs.Bytes.{Field, bytes}
use Rattle.spec_trees.specs.Readers.{Reader, Table, fields, inside, one, two, three, many, chosen, among, tagged, emptied, accepted, overlong, well_formed, tested, malformed, Tested}
use Rattle.spec_trees.specs.Within.{AllBytes}
use Rattle.spec_trees.specs.OptionLaws.{leb_yes, true_T, only_some, map_some, bind_some, leb_no}
use Rattle.spec_trees.proofs.FieldLaws.{fields_bytes, BytesF, parts}
use borrow.Author.Tests.{leb-false, leb-true}

-- r reads, w writes, P says what is allowed
pub record Law {A : Type 0} (r : Reader A) (w : A → Field) (P : A → Type 0) : Type 0 where
  pub back : (a : A) → P a → r (w a) ≡ some a
  pub form : (f : Field) (a : A) → AllBytes f.1 → r f ≡ some a → (w a ≡ f) × P a

-- ---- by tag
pub field_eq : (f : Field) (t : ℕ) (c : List ℕ) → f.0 ≡ t → f.1 ≡ c → (let g : Field = (t, c) in g) ≡ f
field_eq f t c p q = λ i. (sym p i, sym q i)

-- one of the entries has the tag and gives a
abbrev pub OneOf : {A : Type 0} → Table A → Field → A → Type 0
OneOf [] f a = ⊥
OneOf (x ∷ xs) f a = ((f.0 ≡ x.0) × (x.1 f.1 ≡ some a)) ⊎ OneOf xs f a

among_cons : {A : Type 0} (x : ℕ × (List ℕ → Option A)) (g : List ℕ → Option A) (f : Field) (a : A) (b : Bool)
    → eqb f.0 x.0 ≡ b → cond b x.1 g f.1 ≡ some a → ((f.0 ≡ x.0) × (x.1 f.1 ≡ some a)) ⊎ (g f.1 ≡ some a)
among_cons x g f a true q e = inl (eqb→eq _ _ (true_T q), e)
among_cons x g f a false q e = inr e

pub among_some : {A : Type 0} (xs : Table A) (f : Field) (a : A) → among xs f ≡ some a → OneOf xs f a
unfolding among chosen
among_some [] f a e = let z : ◌≡◌ {A = ℕ} 0 1 = cc in absurd (omega arith)
among_some (x ∷ xs) f a e = elim (among_cons x (chosen xs f.0) f a (eqb f.0 x.0) refl e) [ inl p ↦ inl p | inr q ↦ inr (among_some xs f a q) ]

pub tagged_some : {A : Type 0} (k : ℕ) (p : List ℕ → Option A) (f : Field) (a : A) → tagged k p f ≡ some a → (f.0 ≡ k) × (p f.1 ≡ some a)
unfolding tagged
tagged_some k p f a e = let o = only_some (eqb f.0 k) (p f.1) e in (eqb→eq _ _ o.0, o.1)

pub emptied_some : {A : Type 0} (a : A) (c : List ℕ) (x : A) → emptied a c ≡ some x → (a ≡ x) × (c ≡ [])
unfolding emptied
emptied_some a [] x e = (cc, refl)
emptied_some a (b ∷ c) x e = let z : ◌≡◌ {A = ℕ} 0 1 = cc in absurd (omega arith)

-- ---- one field
one_some : {A D : Type 0} (g : A → D) (r : Reader A) (fs : List Field) (x : D) → one g r fs ≡ some x
    → (f : Field) × (fs ≡ f ∷ []) × (a : A) × (r f ≡ some a) × (g a ≡ x)
unfolding one
one_some g r [] x e = let z : ◌≡◌ {A = ℕ} 0 1 = cc in absurd (omega arith)
one_some g r (f ∷ []) x e = let m = map_some g (r f) e in (f, refl, m.0, m.1, m.2)
one_some g r (f ∷ f' ∷ fs) x e = let z : ◌≡◌ {A = ℕ} 0 1 = cc in absurd (omega arith)

module _ {A D : Type 0} {r : Reader A} {w : A → Field} {P : A → Type 0} (L : Law r w P) (g : A → D) where
  pub one_back : (a : A) → P a → inside (one g r) (bytes (w a ∷ [])) ≡ some (g a)
  unfolding inside one ◌>>=◌
  one_back a p = rw (fields_bytes, L.back a p) refl

  pub one_form : (c : List ℕ) (x : D) → AllBytes c → inside (one g r) c ≡ some x → (a : A) × (g a ≡ x) × P a × (bytes (w a ∷ []) ≡ c)
  unfolding inside
  one_form c x h e =
      let (fs, e1, e2) = bind_some _ (fields c) e in
      let p = parts c fs h e1 in
      let (f, q, a, e3, e4) = one_some g r fs x e2 in
      let s : BytesF (f ∷ []) = rw q at p.contents in
      let l = L.form f a s.0 e3 in
      (a, e4, l.1, rw (l.0, ← q) p.form)

-- ---- two fields
two_some : {A B D : Type 0} (g : A → B → D) (r : Reader A) (s : Reader B) (fs : List Field) (x : D) → two g r s fs ≡ some x
    → (f : Field) × (k : Field) × (fs ≡ f ∷ k ∷ []) × (a : A) × (b : B) × (r f ≡ some a) × (s k ≡ some b) × (g a b ≡ x)
unfolding two
two_some g r s [] x e = let z : ◌≡◌ {A = ℕ} 0 1 = cc in absurd (omega arith)
two_some g r s (f ∷ fs) x e =
    let (a, e1, e2) = bind_some _ (r f) e in
    let (k, q, b, e3, e4) = one_some (g a) s fs x e2 in
    (f, k, ap (λ y. f ∷ y) q, a, b, e1, e3, e4)

module _ {A B D : Type 0} {r : Reader A} {w : A → Field} {P : A → Type 0} (L : Law r w P)
    {s : Reader B} {u : B → Field} {Q : B → Type 0} (M : Law s u Q) (g : A → B → D) where
  pub two_back : (a : A) (b : B) → P a → Q b → inside (two g r s) (bytes (w a ∷ u b ∷ [])) ≡ some (g a b)
  unfolding inside two one ◌>>=◌
  two_back a b p q = rw (fields_bytes, L.back a p, M.back b q) refl

  pub two_form : (c : List ℕ) (x : D) → AllBytes c → inside (two g r s) c ≡ some x
      → (a : A) × (b : B) × (g a b ≡ x) × P a × Q b × (bytes (w a ∷ u b ∷ []) ≡ c)
  unfolding inside
  two_form c x h e =
      let (fs, e1, e2) = bind_some _ (fields c) e in
      let p = parts c fs h e1 in
      let (f, k, q, a, b, e3, e4, e5) = two_some g r s fs x e2 in
      let t : BytesF (f ∷ k ∷ []) = rw q at p.contents in
      let l = L.form f a t.0 e3 in
      let m = M.form k b t.1.0 e4 in
      (a, b, e5, l.1, m.1, rw (l.0, m.0, ← q) p.form)

-- ---- three fields
three_some : {A B C D : Type 0} (g : A → B → C → D) (r : Reader A) (s : Reader B) (t : Reader C) (fs : List Field) (x : D) → three g r s t fs ≡ some x
    → (f : Field) × (k : Field) × (l : Field) × (fs ≡ f ∷ k ∷ l ∷ []) × (a : A) × (b : B) × (c : C) × (r f ≡ some a) × (s k ≡ some b) × (t l ≡ some c) × (g a b c ≡ x)
unfolding three
three_some g r s t [] x e = let z : ◌≡◌ {A = ℕ} 0 1 = cc in absurd (omega arith)
three_some g r s t (f ∷ fs) x e =
    let (a, e1, e2) = bind_some _ (r f) e in
    let (k, l, q, b, c, e3, e4, e5) = two_some (g a) s t fs x e2 in
    (f, k, l, ap (λ y. f ∷ y) q, a, b, c, e1, e3, e4, e5)

module _ {A B C D : Type 0} {r : Reader A} {w : A → Field} {P : A → Type 0} (L : Law r w P)
    {s : Reader B} {u : B → Field} {Q : B → Type 0} (M : Law s u Q)
    {t : Reader C} {z : C → Field} {R : C → Type 0} (N : Law t z R) (g : A → B → C → D) where
  pub three_back : (a : A) (b : B) (c : C) → P a → Q b → R c → inside (three g r s t) (bytes (w a ∷ u b ∷ z c ∷ [])) ≡ some (g a b c)
  unfolding inside three two one ◌>>=◌
  three_back a b c p q o = rw (fields_bytes, L.back a p, M.back b q, N.back c o) refl

  pub three_form : (i : List ℕ) (x : D) → AllBytes i → inside (three g r s t) i ≡ some x
      → (a : A) × (b : B) × (c : C) × (g a b c ≡ x) × P a × Q b × R c × (bytes (w a ∷ u b ∷ z c ∷ []) ≡ i)
  unfolding inside
  three_form i x h e =
      let (fs, e1, e2) = bind_some _ (fields i) e in
      let p = parts i fs h e1 in
      let (f, k, l, q, a, b, c, e3, e4, e5, e6) = three_some g r s t fs x e2 in
      let y : BytesF (f ∷ k ∷ l ∷ []) = rw q at p.contents in
      let n = L.form f a y.0 e3 in
      let m = M.form k b y.1.0 e4 in
      let o = N.form l c y.1.1.0 e5 in
      (a, b, c, e6, n.1, m.1, o.1, rw (n.0, m.0, o.0, ← q) p.form)

-- ---- any number of fields of one kind
module _ {A : Type 0} {r : Reader A} {w : A → Field} {P : A → Type 0} (L : Law r w P) where
  each_back : (xs : List A) → All P xs → each r (map w xs) ≡ some xs
  unfolding each ◌>>=◌
  each_back [] o = refl
  each_back (a ∷ xs) o = rw (L.back a o.0, each_back xs o.1) refl

  each_form : (fs : List Field) (xs : List A) → BytesF fs → each r fs ≡ some xs → (map w xs ≡ fs) × All P xs
  unfolding each
  each_form [] xs h e = let q : xs ≡ [] = cc in rw q (refl, tt)
  each_form (f ∷ fs) xs h e =
      let (a, e1, e2) = bind_some _ (r f) e in
      let (ys, e3, e4) = map_some _ (each r fs) e2 in
      let p = L.form f a h.0 e1 in
      let q = each_form fs ys h.1 e3 in
      rw (← e4) (ap₂ ◌∷◌ p.0 q.0, (p.1, q.1))

  pub all_back : (xs : List A) → All P xs → inside (each r) (bytes (map w xs)) ≡ some xs
  unfolding inside ◌>>=◌
  all_back xs o = rw (fields_bytes, each_back xs o) refl

  pub all_form : (c : List ℕ) (xs : List A) → AllBytes c → inside (each r) c ≡ some xs → All P xs × (bytes (map w xs) ≡ c)
  unfolding inside
  all_form c xs h e =
      let (fs, e1, e2) = bind_some _ (fields c) e in
      let p = parts c fs h e1 in
      let q = each_form fs xs p.contents e2 in
      (q.1, ap bytes q.0 ∙ p.form)

  pub many_back : {D : Type 0} (g : List A → D) (n m : ℕ) (xs : List A) → All P xs → n ≤ length xs → length xs ≤ m
      → inside (many g n m r) (bytes (map w xs)) ≡ some (g xs)
  unfolding inside many only ◌>>=◌
  many_back g n m xs o a b = rw (fields_bytes, length-map, leb_yes n (length xs) a, leb_yes (length xs) m b, each_back xs o) refl

  pub many_form : {D : Type 0} (g : List A → D) (n m : ℕ) (c : List ℕ) (x : D) → AllBytes c → inside (many g n m r) c ≡ some x
      → (xs : List A) × (g xs ≡ x) × All P xs × (n ≤ length xs) × (length xs ≤ m) × (bytes (map w xs) ≡ c)
  unfolding inside many
  many_form g n m c x h e =
      let (fs, e1, e2) = bind_some _ (fields c) e in
      let p = parts c fs h e1 in
      let o = only_some (leb n (length fs)) _ e2 in
      let o' = only_some (leb (length fs) m) _ o.1 in
      let (xs, e3, e4) = map_some g (each r fs) o'.1 in
      let q = each_form fs xs p.contents e3 in
      let k : length fs ≡ length xs = sym (ap length q.0) ∙ length-map xs w in
      (xs, e4, q.1, omega (arith, k, leb→le n (length fs) o.0), omega (arith, k, leb→le (length fs) m o'.0), ap bytes q.0 ∙ p.form)

-- ---- a lent piece under a limit
pub tested_some : {A : Type 0} (n : ℕ) (b : List ℕ) (x : Option A) (a : A) → tested n b x ≡ accepted a → x ≡ some a
unfolding tested well_formed
tested_some n b x a e = go (leb (length b) n) x e
  where
    go : {A : Type 0} {a : A} (c : Bool) (x : Option A) → cond c (well_formed x) overlong ≡ accepted a → x ≡ some a
    go true none e = let z : ◌≡◌ {A = ℕ} 0 1 = cc in absurd (omega arith)
    go true (some a) e = cc
    go false x e = let z : ◌≡◌ {A = ℕ} 0 1 = cc in absurd (omega arith)

-- where the reader tests the limit itself
pub tested_only : {A : Type 0} (n : ℕ) (b : List ℕ) (y : Option A) (a : A) → (tested n b (only (leb (length b) n) y) ≡ accepted a) ↔ (only (leb (length b) n) y ≡ some a)
unfolding tested well_formed
tested_only n b y a = (
  tested_some n b (only (leb (length b) n) y) a,
  λ e. let o = only_some (leb (length b) n) y e in rw (e, leb_yes (length b) n (leb→le (length b) n o.0)) refl,
)

-- over the limit, whatever it reads as; malformed, if it is short enough and reads as nothing
module _ {A : Type 0} (n : ℕ) (b : List ℕ) where
  pub tested_overlong : (x : Option A) → (tested n b x ≡ overlong) ↔ (n < length b)
  unfolding tested well_formed
  tested_overlong x = (out x (leb (length b) n) refl, λ l. rw (leb_no (length b) n l) refl)
    where
      out : (x : Option A) (c : Bool) → leb (length b) n ≡ c → cond (leb (length b) n) (well_formed x) overlong ≡ overlong → n < length b
      out none true e h = let z : malformed ≡ overlong = rw e at h in let y : ◌≡◌ {A = ℕ} 0 1 = cc in absurd (omega arith)
      out (some a) true e h = let z : accepted a ≡ overlong = rw e at h in let y : ◌≡◌ {A = ℕ} 0 1 = cc in absurd (omega arith)
      out x false e h = leb-false (length b) n e

  pub tested_malformed : (x : Option A) → (tested n b x ≡ malformed) ↔ ((length b ≤ n) × (x ≡ none))
  unfolding tested well_formed
  tested_malformed x = (out x (leb (length b) n) refl, λ p. rw (leb_yes (length b) n p.0, p.1) refl)
    where
      out : (x : Option A) (c : Bool) → leb (length b) n ≡ c → cond (leb (length b) n) (well_formed x) overlong ≡ malformed → (length b ≤ n) × (x ≡ none)
      out none true e h = (leb-true (length b) n e, refl)
      out (some a) true e h = let z : accepted a ≡ malformed = rw e at h in let y : ◌≡◌ {A = ℕ} 0 1 = cc in absurd (omega arith)
      out x false e h = let z : ◌≡◌ {A = Tested A} overlong malformed = rw e at h in let y : ◌≡◌ {A = ℕ} 0 1 = cc in absurd (omega arith)

  -- so where x is just what has b as its form and is allowed, malformed is what is short enough and no such form
  pub malformed_form : (x : Option A) (form : A → List ℕ) (P : A → Type 0) → ((a : A) → (x ≡ some a) ↔ ((form a ≡ b) × P a))
      → (tested n b x ≡ malformed) ↔ ((length b ≤ n) × ((a : A) → P a → form a ≡ b → ⊥))
  malformed_form x form P k = (
    λ e. let p = (tested_malformed x).0 e in (p.0, λ a o f. none_some a (sym p.1 ∙ (k a).1 (f, o))),
    λ p. (tested_malformed x).1 (p.0, nothing x refl p.1),
  )
    where
      none_some : (a : A) → none ≡ some a → ⊥
      none_some a e = let z : ◌≡◌ {A = ℕ} 0 1 = cc in omega arith

      nothing : (y : Option A) → x ≡ y → ((a : A) → P a → form a ≡ b → ⊥) → x ≡ none
      nothing none e h = e
      nothing (some a) e h = let q = (k a).0 e in absurd (h a q.1 q.0)
