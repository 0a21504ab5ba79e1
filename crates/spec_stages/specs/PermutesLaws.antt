-- Laws of permutations, for lists of any elements.
use Rattle.std.specs.Prelude.{◌≡◌, refl, Bool, true, false, cond, ◌&&◌}
use Rattle.std.proofs.Common.{sym, ap, subst, ◌∙◌}
use mathlib.Core.List.{List, [], ◌∷◌, ◌++◌, reverse, reverse_aux, append-nil}
use Rattle.spec_trees.specs.Lists.{filter, all, All, gather}
use Rattle.spec_stages.specs.Permutes.{Permutes, empty, behind, swapped, through, Parts, left, right, neither}

module _ {A : Type 0} where
  -- ---- an equivalence
  pub permutes_self : (xs : List A) → Permutes xs xs
  permutes_self [] = empty
  permutes_self (x ∷ xs) = behind x (permutes_self xs)

  pub permutes_back : {xs ys : List A} → Permutes xs ys → Permutes ys xs
  permutes_back empty = empty
  permutes_back (behind x p) = behind x (permutes_back p)
  permutes_back (swapped x y) = swapped y x
  permutes_back (through p q) = through (permutes_back q) (permutes_back p)

  -- equal lists before it, and behind it
  pub equal_permutes : {xs ys zs : List A} → xs ≡ ys → Permutes ys zs → Permutes xs zs
  equal_permutes {zs = zs} e p = subst (λ l. Permutes l zs) (sym e) p

  pub permutes_equal : {xs ys zs : List A} → Permutes xs ys → ys ≡ zs → Permutes xs zs
  permutes_equal {xs = xs} p e = subst (Permutes xs) e p

  -- ---- joined lists
  before : {xs ys : List A} (zs : List A) → Permutes xs ys → Permutes (xs ++ zs) (ys ++ zs)
  before zs empty = permutes_self zs
  before zs (behind x p) = behind x (before zs p)
  before zs (swapped x y) = swapped x y
  before zs (through p q) = through (before zs p) (before zs q)

  after : (xs : List A) {ys zs : List A} → Permutes ys zs → Permutes (xs ++ ys) (xs ++ zs)
  after [] p = p
  after (x ∷ xs) p = behind x (after xs p)

  pub permutes_append : {ws xs ys zs : List A} → Permutes ws xs → Permutes ys zs → Permutes (ws ++ ys) (xs ++ zs)
  permutes_append {xs = xs} {ys = ys} p q = through (before ys p) (after xs q)

  -- an element inside goes to the front
  pub permutes_inside : (xs : List A) (y : A) (zs : List A) → Permutes (xs ++ (y ∷ zs)) (y ∷ (xs ++ zs))
  permutes_inside [] y zs = permutes_self (y ∷ zs)
  permutes_inside (x ∷ xs) y zs = through (behind x (permutes_inside xs y zs)) (swapped x y)

  -- from the back
  onto : (xs ys : List A) → Permutes (reverse_aux xs ys) (xs ++ ys)
  onto [] ys = permutes_self ys
  onto (x ∷ xs) ys = through (onto xs (x ∷ ys)) (permutes_inside xs x ys)

  pub permutes_reverse : (xs : List A) → Permutes (reverse xs) xs
  permutes_reverse xs = permutes_equal (onto xs []) (append-nil xs)

-- ---- what f gives of each
pub permutes_gather : {A B : Type 0} (f g : A → List B) → ((x : A) → Permutes (f x) (g x)) → (xs : List A)
    → Permutes (gather f xs) (gather g xs)
unfolding gather
permutes_gather f g h [] = empty
permutes_gather f g h (x ∷ xs) = permutes_append (h x) (permutes_gather f g h xs)

-- ---- what holds of all, and whether all pass
pub All-permutes : {A : Type 0} (P : A → Type 0) {xs ys : List A} → Permutes xs ys → All P xs → All P ys
All-permutes P empty h = h
All-permutes P (behind x p) h = (h.0, All-permutes P p h.1)
All-permutes P (swapped x y) h = (h.1.0, (h.0, h.1.1))
All-permutes P (through p q) h = All-permutes P q (All-permutes P p h)

pub test_permutes : {A : Type 0} (f : A → Bool) {xs ys : List A} → Permutes xs ys → all f xs ≡ all f ys
unfolding all
test_permutes f empty = refl
test_permutes f (behind x p) = ap (λ b. f x && b) (test_permutes f p)
test_permutes f (swapped x y {zs = zs}) = turned (f x) (f y) (all f zs)
  where
    turned : (a b c : Bool) → (a && (b && c)) ≡ (b && (a && c))
    turned true b c = refl
    turned false true c = refl
    turned false false c = refl
test_permutes f (through p q) = test_permutes f p ∙ test_permutes f q

-- ---- a list parted by two tests
pub filter_parts : {A : Type 0} (f g h : A → Bool) → ((x : A) → Parts (f x) (g x) (h x)) → (xs : List A)
    → Permutes (filter f xs ++ filter g xs) (filter h xs)
unfolding filter
filter_parts f g h p [] = empty
filter_parts f g h p (x ∷ xs) = go (p x) (filter_parts f g h p xs)
  where
    go : {a b c : Bool} → Parts a b c → Permutes (filter f xs ++ filter g xs) (filter h xs)
        → Permutes (cond a (x ∷ filter f xs) (filter f xs) ++ cond b (x ∷ filter g xs) (filter g xs)) (cond c (x ∷ filter h xs) (filter h xs))
    go left q = behind x q
    go right q = through (permutes_inside (filter f xs) x (filter g xs)) (behind x q)
    go neither q = q
