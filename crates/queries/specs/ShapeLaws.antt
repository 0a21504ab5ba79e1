-- Readers of just one, two or three fields, or of many, and the rules that say so: both pass the same contents. Shown
-- once for each shape, over all readers and kinds; `TableLaws` cites it.
use Rattle.std.specs.Prelude.{◌≡◌, Bool, ◌&&◌, drop, ltb}
use Rattle.std.proofs.Math.Path.{refl, sym, ap}
use Rattle.std.proofs.Common.{ap₂, ◌∙◌, add-zero}
use mathlib.Core.List.{List, [], ◌∷◌}
use Rattle.std.proofs.Math.Bool.{true, false, and-true, and-false}
use Rattle.std.proofs.Math.Option.{Option, none, some, map}
use Prim.Native.Nat.{ℕ, zero, suc, ◌+◌, ◌*◌, ◌≤◌, ◌<◌}
use Rattle.std.proofs.Math.Nat.{zero-add}
use native.Mathlib.Omega.{arith}
use Rattle.std.proofs.Math.ListN.{length, take}
use Rattle.std.proofs.Math.Dec.{leb}
use borrow.Author.Tests.{le-leb, lt-leb, lt-ltb, le-ltb, leb-true, leb-false}
use Rattle.spec_trees.specs.Options.{◌>>=◌, only, maybe, some?}
use Rattle.spec_trees.specs.Lists.{each}
use Rattle.spec_trees.specs.Bytes.{Field}
use Rattle.spec_trees.specs.Readers.{Reader, split, fields, inside, one, two, three, many, emptied}
use Rattle.format.specs.HeadLaws.{some_map}
use Rattle.queries.specs.declared.table.Child.{Child}
use Rattle.queries.specs.declared.table.Rule.{Rule}
use Rattle.queries.specs.declared.table.Kind.{Kind}
use Rattle.queries.specs.Table.{child_by, child_at, rule, holds_nothing, holds_one, holds_two, holds_three, holds_many, never}
use Rattle.queries.specs.Accept.{child_ok, children_ok, content_ok}

-- ---- tests
pub some_only : {A : Type 0} (b : Bool) (x : Option A) → some? (only b x) ≡ b && some? x
unfolding some? only
some_only true x = refl
some_only false x = refl

-- what is read, and what then
some_bind : {A B : Type 0} (x : Option A) (g : A → Option B) (b : Bool) → ((a : A) → some? (g a) ≡ b) → some? (x >>= g) ≡ some? x && b
unfolding some? ◌>>=◌
some_bind none g b h = refl
some_bind (some a) g b h = h a

and_same : (a b : Bool) {c d : Bool} → a ≡ c → b ≡ d → a && b ≡ c && d
and_same a b p q = ap₂ ◌&&◌ p q

-- one test goes behind two others
and_behind : (a b c d : Bool) → a && (b && (c && d)) ≡ b && (c && (a && d))
and_behind true b c d = refl
and_behind false true true d = refl
and_behind false true false d = refl
and_behind false false c d = refl

-- ---- the shapes: a reader of just one, two or three fields, or of many, and the rule that says so
module _ (ok : Field → Bool) where
  -- a reader reads what may stand as a child
  abbrev pub Takes : {A : Type 0} → Reader A → Child → Type 0
  Takes r ch = (f : Field) → some? (r f) ≡ child_ok ok ch f

  -- the same of a kind of the table
  pub record Reads {A : Type 0} (r : Reader A) (k : Kind) : Type 0 where
    pub takes : Takes r (child_by k)

  -- n children behind others, and no more; one_at is the last of them
  module _ (i j k : Kind) where
    abbrev exact : ℕ → Rule
    exact n = rule i j k n n

    one_at : {A D : Type 0} (g : A → D) (r : Reader A) (n : ℕ) → Takes r (child_at (exact (suc n)) n)
        → (fs : List Field) → some? (one g r fs) ≡ children_ok ok (exact (suc n)) n fs
    unfolding one children_ok some?
    one_at g r n h [] = sym (lt-leb (suc n) n (omega arith))
    one_at g r n h (f ∷ []) = some_map g (r f) ∙ (h f ∙ rw (lt-ltb n (suc n) (omega arith)) (sym (and-true (child_ok ok (child_at (exact (suc n)) n) f))))
    one_at g r n h (f ∷ f' ∷ fs) = rw (lt-ltb n (suc n) (omega arith), le-ltb (suc n) (suc n) (omega arith)) (sym (and-false (child_ok ok (child_at (exact (suc n)) n) f)))

    two_at_lem : {A B D : Type 0} (g : A → B → D) (r : Reader A) (s : Reader B) (n : ℕ)
        → Takes r (child_at (exact (suc (suc n))) n) → Takes s (child_at (exact (suc (suc n))) (suc n))
        → (fs : List Field) → some? (two g r s fs) ≡ children_ok ok (exact (suc (suc n))) n fs
    unfolding two children_ok some?
    two_at_lem g r s n h e [] = sym (lt-leb (suc (suc n)) n (omega arith))
    two_at_lem g r s n h e (f ∷ fs) =
        some_bind (r f) _ (children_ok ok (exact (suc (suc n))) (suc n) fs) (λ a. one_at (g a) s (suc n) e fs)
        ∙ rw (lt-ltb n (suc (suc n)) (omega arith)) (and_same _ _ (h f) refl)

    three_at : {A B C D : Type 0} (g : A → B → C → D) (r : Reader A) (s : Reader B) (t : Reader C) (n : ℕ)
        → Takes r (child_at (exact (suc (suc (suc n)))) n) → Takes s (child_at (exact (suc (suc (suc n)))) (suc n)) → Takes t (child_at (exact (suc (suc (suc n)))) (suc (suc n)))
        → (fs : List Field) → some? (three g r s t fs) ≡ children_ok ok (exact (suc (suc (suc n)))) n fs
    unfolding three children_ok some?
    three_at g r s t n h e p [] = sym (lt-leb (suc (suc (suc n))) n (omega arith))
    three_at g r s t n h e p (f ∷ fs) =
        some_bind (r f) _ (children_ok ok (exact (suc (suc (suc n)))) (suc n) fs) (λ a. two_at_lem (g a) s t (suc n) e p fs)
        ∙ rw (lt-ltb n (suc (suc (suc n))) (omega arith)) (and_same _ _ (h f) refl)

  module _ {A : Type 0} (r : Reader A) (k : Kind) (n m : ℕ) (h : Takes r (child_by k)) where
    kind_same : (i : ℕ) → child_at (holds_many k n m) i ≡ child_by k
    unfolding child_at
    kind_same zero = refl
    kind_same (suc zero) = refl
    kind_same (suc (suc i)) = refl

    -- how many, and each of them
    counted : ℕ → List Field → Bool
    counted i fs = leb n (i + length fs) && (leb (i + length fs) m && some? (each r fs))

    many_step : (i : ℕ) (f : Field) (fs : List Field) → (i < m → counted (suc i) fs ≡ children_ok ok (holds_many k n m) (suc i) fs)
        → (b : Bool) → ltb i m ≡ b → counted i (f ∷ fs) ≡ b && (child_ok ok (child_at (holds_many k n m) i) f && children_ok ok (holds_many k n m) (suc i) fs)
    unfolding each counted
    many_step i f fs ih true e =
        let q : i + suc (length fs) ≡ suc i + length fs = omega arith in
        let w : some? (r f >>= λ y. map (λ ys. y ∷ ys) (each r fs)) ≡ some? (r f) && some? (each r fs) = some_bind (r f) _ (some? (each r fs)) (λ y. some_map _ (each r fs)) in
        rw (w, q, kind_same i, ← h f, ← ih (leb-true (suc i) m e)) (sym (and_behind (some? (r f)) (leb n (suc i + length fs)) (leb (suc i + length fs) m) (some? (each r fs))))
    many_step i f fs ih false e =
        let w : m < i + suc (length fs) = omega (arith, leb-false (suc i) m e) in
        rw (lt-leb (i + suc (length fs)) m w) (and-false (leb n (i + suc (length fs))))

    many_from : (i : ℕ) → i ≤ m → (fs : List Field) → counted i fs ≡ children_ok ok (holds_many k n m) i fs
    unfolding children_ok each some? counted
    many_from i l [] = rw (add-zero i, le-leb i m l) (and-true (leb n i))
    many_from i l (f ∷ fs) = many_step i f fs (λ w. many_from (suc i) w fs) (ltb i m) refl

    many_at : {D : Type 0} (g : List A → D) (fs : List Field) → some? (many g n m r fs) ≡ children_ok ok (holds_many k n m) 0 fs
    unfolding many counted
    many_at g fs =
        some_only (leb n (length fs)) _
        ∙ (ap (λ x. leb n (length fs) && x) (some_only (leb (length fs) m) _ ∙ ap (λ x. leb (length fs) m && x) (some_map g (each r fs)))
        ∙ rw (← zero-add (length fs)) (many_from 0 (omega arith) fs))

  -- ---- contents
  from_fields : {A : Type 0} (p : List Field → Option A) (g : List Field → Bool) → ((fs : List Field) → some? (p fs) ≡ g fs) → (o : Option (List Field)) → some? (o >>= p) ≡ maybe false g o
  unfolding some? maybe ◌>>=◌
  from_fields p g h none = refl
  from_fields p g h (some fs) = h fs

  content_at_lem : {A : Type 0} (x : Rule) (p : List Field → Option A) → ((fs : List Field) → some? (p fs) ≡ children_ok ok x 0 fs) → (c : List ℕ) → some? (inside p c) ≡ content_ok ok x 0 c
  unfolding inside content_ok
  content_at_lem x p h c = from_fields p (children_ok ok x 0) h (fields c)

-- ---- the five shapes
module _ {ok : Field → Bool} where
  pub one_ok : {A D : Type 0} {r : Reader A} {a : Kind} (g : A → D) → Reads ok r a → (c : List ℕ) → some? (inside (one g r) c) ≡ content_ok ok (holds_one a) 0 c
  unfolding child_at
  one_ok {r = r} {a = a} g h = content_at_lem ok (holds_one a) (one g r) (one_at ok a Kind.Nothing Kind.Nothing g r 0 h.takes)

  pub two_ok : {A B D : Type 0} {r : Reader A} {s : Reader B} {a b : Kind} (g : A → B → D) → Reads ok r a → Reads ok s b
      → (c : List ℕ) → some? (inside (two g r s) c) ≡ content_ok ok (holds_two a b) 0 c
  unfolding child_at
  two_ok {r = r} {s = s} {a = a} {b = b} g h e = content_at_lem ok (holds_two a b) (two g r s) (two_at_lem ok a b Kind.Nothing g r s 0 h.takes e.takes)

  pub three_ok : {A B C D : Type 0} {r : Reader A} {s : Reader B} {t : Reader C} {i j k : Kind} (g : A → B → C → D) → Reads ok r i → Reads ok s j → Reads ok t k
      → (c : List ℕ) → some? (inside (three g r s t) c) ≡ content_ok ok (holds_three i j k) 0 c
  unfolding child_at
  three_ok {r = r} {s = s} {t = t} {i = i} {j = j} {k = k} g h e p =
      content_at_lem ok (holds_three i j k) (three g r s t) (three_at ok i j k g r s t 0 h.takes e.takes p.takes)

  pub many_ok : {A D : Type 0} {r : Reader A} {a : Kind} (g : List A → D) (n m : ℕ) → Reads ok r a → (c : List ℕ) → some? (inside (many g n m r) c) ≡ content_ok ok (holds_many a n m) 0 c
  many_ok {r = r} {a = a} g n m h = content_at_lem ok (holds_many a n m) (many g n m r) (many_at ok r a n m h.takes g)

-- no content
module _ (ok : Field → Bool) where
  cons_false : (g : List Field → Bool) (b : Bool) (f : Field) (o : Option (List Field)) → ((fs : List Field) → g (f ∷ fs) ≡ false) → maybe false g (only b (map (λ fs. f ∷ fs) o)) ≡ false
  unfolding maybe only
  cons_false g true f none h = refl
  cons_false g true f (some fs) h = h fs
  cons_false g false f o h = refl

  pub none_ok : {A : Type 0} (a : A) (c : List ℕ) → some? (emptied a c) ≡ content_ok ok holds_nothing 0 c
  unfolding some? emptied content_ok children_ok fields split maybe
  none_ok a [] = refl
  none_ok a (t ∷ []) = refl
  none_ok a (t ∷ x ∷ []) = refl
  none_ok a (t ∷ x ∷ y ∷ c) = sym (cons_false (children_ok ok holds_nothing 0) (leb (x * 256 + y) (length c)) (t, take (x * 256 + y) c) (split (suc (suc (length c))) (drop (x * 256 + y) c)) (λ fs. refl))

  -- no content passes
  never_from : (o : Option (List Field)) → maybe false (children_ok ok never 0) o ≡ false
  unfolding children_ok maybe
  never_from none = refl
  never_from (some []) = refl
  never_from (some (f ∷ fs)) = refl

  pub never_ok : (c : List ℕ) → content_ok ok never 0 c ≡ false
  unfolding content_ok
  never_ok c = never_from (fields c)
