-- Bytes read as fields, and fields read by tag and count. A reader takes a field.
use Rattle.std.specs.Prelude.{List, [], ◌∷◌, reverse, cond, ℕ, zero, suc, ◌+◌, ◌*◌, length, take, drop, eqb, leb}
use Rattle.std.proofs.Math.Option.{Option, none, some, map}
use Rattle.spec_trees.specs.Options.{◌>>=◌, only}
use Rattle.spec_trees.specs.Lists.{each}
use Rattle.spec_trees.specs.Bytes.{Field}

abbrev pub Reader : Type 0 → Type 0
Reader A = Field → Option A

-- at most n fields that take all the bytes
unfoldable pub split : ℕ → List ℕ → Option (List Field)
split zero [] = some []
split zero (t ∷ b) = none
split (suc n) [] = some []
split (suc n) (t ∷ []) = none
split (suc n) (t ∷ h ∷ []) = none
split (suc n) (t ∷ h ∷ l ∷ c) =
    only (leb (h * 256 + l) (length c))
    (map (λ fs. (t, take (h * 256 + l) c) ∷ fs) (split n (drop (h * 256 + l) c)))

-- there are no more fields than bytes
unfoldable pub fields : List ℕ → Option (List Field)
fields b = split (length b) b

-- a content that is fields
unfoldable pub inside : {A : Type 0} → (List Field → Option A) → List ℕ → Option A
inside p c = fields c >>= p

-- just one, two or three fields
unfoldable pub one : {A D : Type 0} → (A → D) → Reader A → List Field → Option D
one g r [] = none
one g r (f ∷ []) = map g (r f)
one g r (f ∷ f' ∷ fs) = none

unfoldable pub two : {A B D : Type 0} → (A → B → D) → Reader A → Reader B → List Field → Option D
two g r s [] = none
two g r s (f ∷ fs) = r f >>= λ a. one (g a) s fs

unfoldable pub three : {A B C D : Type 0} → (A → B → C → D) → Reader A → Reader B → Reader C → List Field → Option D
three g r s t [] = none
three g r s t (f ∷ fs) = r f >>= λ a. two (g a) s t fs

-- n to m fields of one kind
unfoldable pub many : {A D : Type 0} → (List A → D) → ℕ → ℕ → Reader A → List Field → Option D
many g n m r fs = only (leb n (length fs)) (only (leb (length fs) m) (map g (each r fs)))

-- by tag: how the content is read
abbrev pub Table : Type 0 → Type 0
Table A = List (ℕ × (List ℕ → Option A))

-- the first entry that has the tag
unfoldable pub chosen : {A : Type 0} → Table A → ℕ → List ℕ → Option A
chosen [] t = λ c. none
chosen (x ∷ xs) t = cond (eqb t x.0) x.1 (chosen xs t)

unfoldable pub among : {A : Type 0} → Table A → Reader A
among xs f = chosen xs f.0 f.1

unfoldable pub tagged : {A : Type 0} → ℕ → (List ℕ → Option A) → Reader A
tagged k p f = only (eqb f.0 k) (p f.1)

-- no content
unfoldable pub emptied : {A : Type 0} → A → List ℕ → Option A
emptied a [] = some a
emptied a (b ∷ bs) = none

-- bytes as a number, low byte first; and high byte first
unfoldable pub low_value : List ℕ → ℕ
low_value [] = 0
low_value (b ∷ bs) = b + 256 * low_value bs

unfoldable pub big_value : List ℕ → ℕ
big_value c = low_value (reverse c)

-- What the test of a lent piece comes to: its value; or that it is over its limit; or that it is malformed, which is
-- tested after its length.
pub data Tested (A : Type 0) : Type 0 where
  accepted : A → Tested A
  overlong : Tested A
  malformed : Tested A

unfoldable pub well_formed : {A : Type 0} → Option A → Tested A
well_formed none = malformed
well_formed (some a) = accepted a

-- a piece of b's length under the limit n, which reads as x
unfoldable pub tested : {A : Type 0} → ℕ → List ℕ → Option A → Tested A
tested n b x = cond (leb (length b) n) (well_formed x) overlong
