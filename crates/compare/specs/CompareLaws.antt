-- How bytes are compared from the end on, a word or a byte a step.
use Rattle.std.specs.Prelude.{◌≡◌, refl, List, ◌∷◌, ◌++◌, Bool, true, false, ℕ, suc, ◌+◌, ◌%◌, ◌<◌, length, drop, get_or}
use Rattle.std.proofs.Common.{sym, ap, ap₂, subst, ◌∙◌, add-one, arith, drop_of_length-le, take-append-drop, drop-cons, drop-drop}
use Rattle.spec_trees.specs.Lists.{same_bytes}
use Rattle.spec_trees.specs.ListLaws.{equal_same, same_equal}
use Rattle.spec_trees.specs.Within.{AllBytes}
use Rattle.compare.specs.Compare.{low_at, IsComparison, SameFrom}
use Rattle.compare.specs.WordLaws.{low_same}

-- what is not the same compares as different
other_bytes : (a b : List ℕ) → (a ≡ b → ⊥) → same_bytes a b ≡ false
other_bytes a b n = go (same_bytes a b) refl
  where
    go : (t : Bool) → same_bytes a b ≡ t → t ≡ false
    go true q = absurd (n (same_equal a b q))
    go false q = refl

-- ---- step by step, from the end on

pub none_compared : (a b : List ℕ) → length a ≡ length b → SameFrom a b (length a) 0
none_compared a b q = record {
  lengths = q;
  inside = omega arith;
  same = drop_of_length-le a {i = length a} (omega arith) ∙ sym (drop_of_length-le b {i = length a} (omega arith));
  left = omega arith;
}

module _ {a b : List ℕ} {i s : ℕ} (h : SameFrom a b i s) where
  -- a byte, left over at the end
  pub byte_compared : (j : ℕ) → i ≡ j + 1 → (i % 8 ≡ 0 → ⊥) → get_or a j 0 ≡ get_or b j 0 → SameFrom a b j (s + 1)
  byte_compared j z n e =
      let behind : drop (suc j) a ≡ drop (suc j) b = subst (λ k. drop k a ≡ drop k b) (z ∙ add-one j) h.same in
      record {
        lengths = h.lengths;
        inside = omega (arith, h.inside);
        same = drop-cons a j 0 (omega (arith, h.inside)) ∙ ap₂ ◌∷◌ e behind ∙ sym (drop-cons b j 0 (omega (arith, h.inside, h.lengths)));
        left = omega (arith, h.left, n);
      }

  -- a word
  pub word_compared : (j : ℕ) → i ≡ j + 8 → AllBytes a → AllBytes b → low_at 8 a j ≡ low_at 8 b j → SameFrom a b j (s + 1)
  word_compared j z ba bb e =
      let q : drop (j + 8) a ≡ drop (j + 8) b = subst (λ k. drop k a ≡ drop k b) z h.same in
      let behind : drop 8 (drop j a) ≡ drop 8 (drop j b) = drop-drop 8 j a ∙ q ∙ sym (drop-drop 8 j b) in
      let same_word = low_same 8 j a b ba bb (omega (arith, h.inside)) (omega (arith, h.inside, h.lengths)) e in
      record {
        lengths = h.lengths;
        inside = omega (arith, h.inside);
        same = sym (take-append-drop 8 (drop j a)) ∙ ap₂ ◌++◌ same_word behind ∙ take-append-drop 8 (drop j b);
        left = omega (arith, h.left);
      }

  -- no word is left
  pub all_compared : i % 8 ≡ 0 → i < 8 → IsComparison a b (record { same = true; steps = s })
  all_compared m n =
      let z : i ≡ 0 = omega (arith, m, n) in
      let e : a ≡ b = subst (λ k. drop k a ≡ drop k b) z h.same in
      record {
        outcome = sym (equal_same a b e);
        equal = λ _. omega (arith, h.left);
        most = (omega (arith, h.left), omega (arith, h.left, h.lengths));
      }

  -- one more step tells them apart
  pub told_apart : 0 < i → (a ≡ b → ⊥) → IsComparison a b (record { same = false; steps = s + 1 })
  told_apart z n = record {
    outcome = sym (other_bytes a b n);
    equal = λ e. absurd (n e);
    most = (omega (arith, h.left), omega (arith, h.left, h.lengths));
  }

-- no step tells them apart
pub lengths_apart : (a b : List ℕ) → (length a ≡ length b → ⊥) → IsComparison a b (record { same = false; steps = 0 })
lengths_apart a b n = record {
  outcome = sym (other_bytes a b (λ e. n (ap length e)));
  equal = λ e. absurd (n (ap length e));
  most = (omega arith, omega arith);
}
