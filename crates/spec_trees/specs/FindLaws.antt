-- A label that is searched among others, or put in the place of what stood there: by the first of them, what is found
-- after one was put, and where they rise.
use Rattle.std.specs.Prelude.{◌≡◌, refl, List, Bool, true, false, cond, ℕ, ◌<◌, eqb, ltb}
use Rattle.std.proofs.Common.{sym, ap, subst, ◌∙◌, arith, eq-eqb, ne_eqb, eqb-true}
use Rattle.std.proofs.Math.Option.{some}
use Rattle.std.proofs.lemmas.Bool.{eqb-false}
use Rattle.spec_trees.specs.Tree.{Tree, Trees, Labels, bare, label, list, trees, find, put}
use Rattle.spec_trees.specs.Within.{OkA, OkL}
use Rattle.spec_trees.specs.OptionLaws.{ltb_no, split, apart, some_equal}
use Rattle.spec_trees.specs.SizeLaws.{trees_list}

-- ---- by the first label
pub find_first : (k j : ℕ) (a : Trees) (ls : Labels) → k ≡ j → find k (label j a ls) ≡ some (list a)
unfolding find
find_first k j a ls q = rw (eq-eqb k j q) refl

pub find_later : (k j : ℕ) (a : Trees) (ls : Labels) → (k ≡ j → ⊥) → find k (label j a ls) ≡ find k ls
unfolding find
find_later k j a ls q = rw (ne_eqb k j q) refl

pub put_first : (k j : ℕ) (b a : Trees) (ls : Labels) → k ≡ j → put k b (label j a ls) ≡ label k b ls
unfolding put
put_first k j b a ls q = rw (ltb_no k j (omega arith), eq-eqb k j q) refl

pub put_later : (k j : ℕ) (b a : Trees) (ls : Labels) → j < k → put k b (label j a ls) ≡ label j a (put k b ls)
unfolding put
put_later k j b a ls q = let n : k ≡ j → ⊥ = λ z. omega arith in rw (ltb_no k j (omega arith), ne_eqb k j n) refl

pub no_label : (k : ℕ) (a : List Tree) → find k bare ≡ some a → ⊥
unfolding find
no_label k a e = let z : ◌≡◌ {A = ℕ} 0 1 = cc in omega arith

-- ---- among all labels
pub find_put : (i k : ℕ) (a : Trees) (ls : Labels) → find i (put k a ls) ≡ cond (eqb i k) (some (list a)) (find i ls)
unfolding find put
find_put i k a bare = refl
find_put i k a (label j b ls) =
    split (ltb k j)
    (λ z. rw z refl)
    (λ z. rw z (split (eqb k j)
    (λ y. let e = ap (eqb i) (sym (eqb-true k j y)) in rw (y, e) (split (eqb i k) (λ q. rw q refl) (λ q. rw q refl)))
    (λ y. rw (y, find_put i k a ls) (split (eqb i k)
    (λ q. let e = ne_eqb i j (λ p. apart (eq-eqb k j (sym (eqb-true i k q) ∙ p)) y) in rw (q, e) refl)
    (λ q. rw q refl)))))

-- ---- among rising labels
-- one that is found: here, or later, and then it is above the first
module _ (k : ℕ) (a : List Tree) where
  pub find_above : (ls : Labels) (m : ℕ) → OkL ls m → find k ls ≡ some a → m < k
  find_above bare m o e = absurd (no_label k a e)
  find_above (label j c ls) m o e = go (eqb k j) refl (find_above ls j o.3)
    where
      go : (x : Bool) → eqb k j ≡ x → (find k ls ≡ some a → j < k) → m < k
      go true q r = omega (arith, eqb-true k j q, o.0)
      go false q r = omega (arith, o.0, r (sym (find_later k j c ls (eqb-false k j q)) ∙ e))

  pub found_cases : {P : Type 0} (j : ℕ) (c : Trees) (ls : Labels) (m : ℕ) → OkL (label j c ls) m → find k (label j c ls) ≡ some a
      → (k ≡ j → list c ≡ a → P) → (j < k → find k ls ≡ some a → P) → P
  found_cases {P} j c ls m o e f g = go (eqb k j) refl
    where
      go : (x : Bool) → eqb k j ≡ x → P
      go true q = f (eqb-true k j q) (some_equal (list c) a (sym (find_first k j c ls (eqb-true k j q)) ∙ e))
      go false q = let z : find k ls ≡ some a = sym (find_later k j c ls (eqb-false k j q)) ∙ e in g (find_above ls j o.3 z) z

  -- the trees under it are well formed
  pub found_ok : (ls : Labels) (m : ℕ) → OkL ls m → find k ls ≡ some a → OkA (trees a)
  found_ok bare m o e = absurd (no_label k a e)
  found_ok (label j c ls) m o e = found_cases j c ls m o e
      (λ q z. subst (λ l. OkA l) (sym (trees_list c) ∙ ap trees z) o.2)
      (λ q z. found_ok ls j o.3 z)
