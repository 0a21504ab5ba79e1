-- Laws of keys: their computed equality is `≡`, trees are alike exactly if theirs are equal, and what follows of their
-- sums.
use Rattle.std.specs.Prelude.{◌≡◌, refl, List, [], ◌∷◌, Bool, true, false, cond, ◌&&◌, ◌↔◌, ℕ, ◌+◌, ◌*◌, ◌^◌, ◌<◌, length}
use Rattle.std.proofs.Common.{sym, ap, ap₂, ◌∙◌, arith}
use Rattle.std.proofs.Math.Nat.{pow-succ'}
use Rattle.spec_trees.specs.OptionLaws.{apart, both_true}
use Rattle.spec_trees.specs.Tree.{Tree}
use Rattle.spec_queries.specs.Query.{Pair}
use Rattle.spec_stages.specs.Paths.{Given, present, apply}
use Rattle.spec_stages.specs.Equality.{same_given}
use Rattle.spec_stages.specs.Group.{key, same_key, alike, sum}
use Rattle.spec_stages.specs.Equivalence.{Equivalence}
use Rattle.spec_stages.specs.EqualityLaws.{same_given_lem}

equal_keys : (xs ys : List Given) → same_key xs ys ≡ true → xs ≡ ys
unfolding same_key
equal_keys [] [] e = refl
equal_keys [] (y ∷ ys) e = apart e refl
equal_keys (x ∷ xs) [] e = apart e refl
equal_keys (x ∷ xs) (y ∷ ys) e = let h = both_true (same_given x y) (same_key xs ys) e in ap₂ ◌∷◌ ((same_given_lem x y).0 h.0) (equal_keys xs ys h.1)

key_itself : (xs : List Given) → same_key xs xs ≡ true
unfolding same_key
key_itself [] = refl
key_itself (x ∷ xs) = ap₂ ◌&&◌ ((same_given_lem x x).1 refl) (key_itself xs)

-- the computed equality of keys is `≡`
pub same_key_lem : (xs ys : List Given) → (same_key xs ys ≡ true) ↔ (xs ≡ ys)
same_key_lem xs ys = (equal_keys xs ys, λ z. ap (same_key xs) (sym z) ∙ key_itself xs)

-- what is made of the key alone is equal for trees that are alike: their subset of pairs, or a number for a search
pub alike_keys : {B : Type 0} (f : List Given → B) (gs : List Pair) (t u : Tree) → alike gs t u ≡ true → f (key gs t) ≡ f (key gs u)
unfolding alike
alike_keys f gs t u e = ap f (equal_keys (key gs t) (key gs u) e)

pub alike_equivalence : (gs : List Pair) → Equivalence (alike gs)
unfolding alike
alike_equivalence gs = record {
  self = λ t. key_itself (key gs t);
  same = λ t u h z. ap (λ k. same_key k (key gs z)) (equal_keys (key gs t) (key gs u) h);
}

-- the sums of n pairs lie below 2 to the power n
pub sum_below : (gs : List Pair) (t : Tree) → sum (key gs t) < 2 ^ length gs
unfolding key sum
sum_below [] t = omega arith
sum_below (p ∷ gs) t = rw (pow-succ' 2 (length gs)) (go (present (apply p.source t)) (sum (key gs t)) (2 ^ length gs) (sum_below gs t))
  where
    go : (b : Bool) (m n : ℕ) → m < n → cond b 1 0 + 2 * m < 2 * n
    go true m n h = omega arith
    go false m n h = omega arith
