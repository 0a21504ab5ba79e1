-- Every tree of the array that enters a group is a member of exactly one class.
use Rattle.std.specs.Prelude.{◌≡◌, Bool, eqb}
use Rattle.std.proofs.Math.Path.{refl, sym, ap, ap₂}
use Rattle.std.proofs.Common.{◌∙◌, arith}
use mathlib.Core.List.{List, [], ◌∷◌, ◌++◌}
use Rattle.std.proofs.Math.Bool.{true, false, not, ◌&&◌}
use Prim.Native.Nat.{ℕ, zero, suc, ◌+◌, ◌^◌, ◌<◌}
use Rattle.std.proofs.Math.ListN.{length}
use Rattle.std.proofs.Math.Dec.{ltb}
use borrow.Author.Tests.{ltb-true, ltb-false, eqb-true, eqb-false, lt-ltb, le-ltb, ne_eqb}
use Rattle.spec_trees.specs.OptionLaws.{split}
use Rattle.spec_trees.specs.Lists.{filter, all, gather}
use Rattle.spec_trees.specs.ListLaws.{All-every}
use Rattle.spec_trees.specs.FilterLaws.{filter_same, filter_constant, gather_gather}
use Rattle.spec_trees.specs.Tree.{Tree, trees}
use Rattle.spec_trees.specs.Size.{size, size_a, array_size}
use Rattle.spec_queries.specs.Query.{Pair}
use Rattle.spec_stages.specs.Group.{key, alike, sum, having, Class, classes, upto, grouped}
use Rattle.spec_stages.specs.Permutes.{Permutes, empty, behind, through, Parts, left, right, neither}
use Rattle.spec_stages.specs.Sums.{Adding, numbers, added}
use Rattle.spec_stages.specs.Equivalence.{Equivalence}
use Rattle.spec_stages.specs.Flat.{members, flat}
use Rattle.spec_stages.specs.PermutesLaws.{permutes_self, equal_permutes, permutes_equal, permutes_append, permutes_gather, filter_parts}
use Rattle.spec_stages.specs.SumsLaws.{added_permutes, added_gather}
use Rattle.spec_stages.specs.EquivalenceLaws.{same_right}
use Rattle.spec_stages.proofs.AlikeLaws.{alike_equivalence, sum_below}
use Rattle.spec_stages.specs.OnceLaws.{gather_upto}

-- ---- the classes of an equivalence hold the trees that are unlike those seen before
module _ (e : Tree → Tree → Bool) (q : Equivalence e) where
  abbrev unlike : List Tree → Tree → Bool
  unlike seen t = all (λ u. not (e u t)) seen

  unlike_same : (seen : List Tree) (t x : Tree) → e t x ≡ true → unlike seen t ≡ unlike seen x
  unfolding all
  unlike_same [] t x h = refl
  unlike_same (u ∷ seen) t x h = ap₂ ◌&&◌ (ap not (same_right e q t x h u)) (unlike_same seen t x h)

  -- a tree that is unlike those seen begins a class, which the others like it belong to
  begun : (seen : List Tree) (t : Tree) → unlike seen t ≡ true → (x : Tree) → Parts (e t x) (unlike (t ∷ seen) x) (unlike seen x)
  unfolding all
  begun seen t p x =
      split (e t x)
      (λ h. rw (h, sym (unlike_same seen t x h) ∙ p) left)
      (λ h. rw h (other (unlike seen x)))
    where
      other : (b : Bool) → Parts false b b
      other true = right
      other false = neither

  -- one that is like a tree seen says nothing new
  passed : (seen : List Tree) (t : Tree) → unlike seen t ≡ false → (x : Tree) → unlike (t ∷ seen) x ≡ unlike seen x
  unfolding all
  passed seen t p x = split (e t x) (λ h. rw (h, sym (unlike_same seen t x h) ∙ p) refl) (λ h. rw h refl)

  module _ (seen : List Tree) (t : Tree) (ts : List Tree) {us : List Tree} (h : Permutes us (filter (unlike (t ∷ seen)) ts)) where
    with_class : unlike seen t ≡ true → Permutes (filter (e t) ts ++ us) (filter (unlike seen) ts)
    with_class p =
        through (permutes_append (permutes_self (filter (e t) ts)) h)
        (filter_parts (e t) (unlike (t ∷ seen)) (unlike seen) (begun seen t p) ts)

    without_class : unlike seen t ≡ false → Permutes us (filter (unlike seen) ts)
    without_class p = permutes_equal h (filter_same (unlike (t ∷ seen)) (unlike seen) (passed seen t p) ts)

  pub classes_permutes : (seen ts : List Tree) → Permutes (flat (classes e seen ts)) (filter (unlike seen) ts)
  unfolding classes filter flat gather
  classes_permutes seen [] = empty
  classes_permutes seen (t ∷ ts) =
      let ih = classes_permutes (t ∷ seen) ts in
      split (unlike seen t) (λ p. rw p (behind t (with_class seen t ts ih p))) (λ p. rw p (without_class seen t ts ih p))

-- ---- a list parted by a number that each element has
below : (a n : ℕ) → Parts (ltb a n) (eqb a n) (ltb a (suc n))
below a n = split (ltb a n) less (λ p. split (eqb a n) equal (more p))
  where
    less : ltb a n ≡ true → Parts (ltb a n) (eqb a n) (ltb a (suc n))
    less p = let l = ltb-true a n p in rw (p, ne_eqb a n (λ z. omega arith), lt-ltb a (suc n) (omega arith)) left

    equal : eqb a n ≡ true → Parts (ltb a n) (eqb a n) (ltb a (suc n))
    equal z = let s = eqb-true a n z in rw (z, le-ltb a n (omega arith), lt-ltb a (suc n) (omega arith)) right

    more : ltb a n ≡ false → eqb a n ≡ false → Parts (ltb a n) (eqb a n) (ltb a (suc n))
    more p z =
        let l = ltb-false a n p in
        let d = eqb-false a n z in
        rw (p, z, le-ltb a (suc n) (omega arith)) neither

module _ {A : Type 0} (f : A → ℕ) (xs : List A) where
  abbrev numbered : ℕ → List A
  numbered m = filter (λ x. eqb (f x) m) xs

  -- those with a number below n
  abbrev lower : ℕ → List A
  lower n = filter (λ x. ltb (f x) n) xs

  upto_permutes : (n : ℕ) → Permutes (gather numbered (upto n)) (lower n)
  unfolding upto gather
  upto_permutes zero = permutes_equal empty (sym (filter_constant (λ x. ltb (f x) 0) false xs (All-every (λ x. le-ltb (f x) 0 (omega arith)) xs)))
  upto_permutes (suc n) =
      equal_permutes (gather_upto numbered n)
      (through (permutes_append (upto_permutes n) (permutes_self (numbered n))) (filter_parts _ _ _ (λ x. below (f x) n) xs))

  -- all numbers are below n
  numbered_permutes : (n : ℕ) → ((x : A) → f x < n) → Permutes (gather numbered (upto n)) xs
  numbered_permutes n h = permutes_equal (upto_permutes n) (filter_constant (λ x. ltb (f x) n) true xs (All-every (λ x. lt-ltb (f x) n (h x)) xs))

-- ---- the classes of a group
size_added : (ts : List Tree) → size_a (trees ts) ≡ added numbers size ts
unfolding size added
size_added [] = refl
size_added (t ∷ ts) = ap (λ n. size t + n) (size_added ts)

module _ (gs : List Pair) (ts : List Tree) where
  -- the classes of the subset m
  abbrev subset : ℕ → List Class
  subset m = classes (alike gs) [] (having gs m ts)

  subset_permutes : (m : ℕ) → Permutes (flat (subset m)) (having gs m ts)
  unfolding all
  subset_permutes m =
      permutes_equal (classes_permutes (alike gs) (alike_equivalence gs) [] (having gs m ts))
      (filter_constant (λ t. true) true (having gs m ts) (All-every (λ t. refl) (having gs m ts)))

  pub grouped_permutes : Permutes (flat (grouped gs ts)) ts
  unfolding flat grouped having
  grouped_permutes =
      let ms = upto (2 ^ length gs) in
      equal_permutes (gather_gather members subset ms)
      (through (permutes_gather (λ m. flat (subset m)) (λ m. having gs m ts) subset_permutes ms)
      (numbered_permutes (λ t. sum (key gs t)) ts (2 ^ length gs) (sum_below gs)))

  -- so every sum over the array is the sum over the classes of their members' sums
  pub grouped_once : {M : Type 0} (k : Adding M) (f : Tree → M) → added k (λ c. added k f (members c)) (grouped gs ts) ≡ added k f ts
  unfolding flat
  grouped_once k f = sym (added_gather k f members (grouped gs ts)) ∙ added_permutes k f grouped_permutes

  -- arranged class by class, the array has its size
  pub flat_size : array_size (flat (grouped gs ts)) ≡ array_size ts
  unfolding array_size
  flat_size = ap (λ n. 3 + n) (size_added (flat (grouped gs ts)) ∙ added_permutes numbers size grouped_permutes ∙ sym (size_added ts))
