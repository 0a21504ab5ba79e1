-- The merge by two places is the merge, for well formed trees; and its steps.
use Rattle.std.specs.Prelude.{◌≡◌, Bool, true, false, cond, ℕ, ◌≤◌, ◌<◌, ltb}
use Rattle.std.proofs.Math.Path.{refl, sym, ap}
use Rattle.std.proofs.Common.{ap₂, ◌∙◌, arith}
use Rattle.std.proofs.Math.Option.{none}
use borrow.Author.Tests.{lt-ltb, le-ltb, ltb-true, ltb-false, eq-eqb, ne_eqb}
use Rattle.spec_trees.specs.Options.{maybe}
use Rattle.spec_trees.specs.Tree.{void, Tree, node, Trees, ε, ◌▹◌, Labels, bare, label, trees, root, labels, find, put}
use Rattle.spec_trees.specs.Within.{Ok, OkA, OkL}
use Rattle.spec_trees.specs.SizeLaws.{trees_list}
use Rattle.spec_stages.specs.Merge.{merge_root, merge, merge_a, merge_l}
use Rattle.spec_stages.specs.MergeLaws.{merge_bare}
use Rattle.spec_stages.specs.MergeTwo.{into, merge_two, merge_two_a, merge_two_l, Entry, merge_entry, merge_first}

-- ---- labels that begin above k
abbrev Above : ℕ → Labels → Type 0
Above k bare = Unit {0}
Above k (label j a ls) = k < j

ok_above : (k : ℕ) (ls : Labels) → OkL ls k → Above k ls
ok_above k bare o = tt
ok_above k (label j a ls) o = o.0

-- rising labels above k are rising labels above less
ok_less : (k m : ℕ) (ls : Labels) → m ≤ k → OkL ls k → OkL ls m
ok_less k m bare b o = tt
ok_less k m (label j a ls) b o = (omega (arith, o.0), o.1, o.2, o.3)

put_above : (k : ℕ) (a : Trees) (ls : Labels) → Above k ls → put k a ls ≡ label k a ls
unfolding put
put_above k a bare o = refl
put_above k a (label j b ls) o = rw (lt-ltb k j o) refl

find_above : (k m : ℕ) (ls : Labels) → k ≤ m → OkL ls m → find k ls ≡ none
unfolding find
find_above k m bare b o = refl
find_above k m (label j a ls) b o =
    rw (ne_eqb k j (λ q. omega (arith, o.0))) (find_above k j ls (omega (arith, o.0)) o.3)

two_above : (k : ℕ) (ls ms : Labels) → Above k ls → Above k ms → Above k (merge_two_l ls ms)
unfolding merge_two into
two_above k bare ms p q = q
two_above k (label j a ls) bare p q = p
two_above k (label j a ls) (label i b ms) p q = go (ltb j i) (ltb i j)
  where
    go : (x y : Bool) → Above k (cond x (label j a (merge_two_l ls (label i b ms))) (cond y (label i b (into j a ls (λ z. merge_two_a a z) (λ z. merge_two_l ls z) ms)) (label j (merge_two_a a b) (merge_two_l ls ms))))
    go true y = p
    go false true = q
    go false false = p

-- ---- a first label that is less than all others comes first
two_first : (j : ℕ) (b : Trees) (ls ms : Labels) → Above j ls → merge_two_l ls (label j b ms) ≡ label j b (merge_two_l ls ms)
unfolding merge_two into
two_first j b bare ms o = refl
two_first j b (label k a ls) ms o = rw (le-ltb k j (omega arith), lt-ltb j k o) refl

merge_none : (ls : Labels) (k : ℕ) → OkL ls k → merge_l ls bare ≡ ls
unfolding merge merge_root
merge_none ls k o = ap labels (merge_bare (node void ls) (tt, ok_less k 0 ls (omega arith) o))

-- by the order of two numbers
by_order : {P : Type 0} (k j : ℕ) → (k < j → P) → (j < k → P) → (k ≡ j → P) → P
by_order {P} k j f g h = go (ltb k j) (ltb j k) refl refl
  where
    go : (x y : Bool) → ltb k j ≡ x → ltb j k ≡ y → P
    go true y p q = f (ltb-true k j p)
    go false true p q = g (ltb-true j k q)
    go false false p q = h (omega (arith, ltb-false k j p, ltb-false j k q))

-- ---- label k, its array a and the labels ls behind it, merged with labels: by the laws for a and for ls
module _ (k : ℕ) (a : Trees) (ls : Labels) (o : OkL ls k)
    (ha : (b : Trees) → OkA b → merge_two_a a b ≡ merge_a a b)
    (hl : (ms : Labels) (m : ℕ) → OkL ms m → merge_two_l ls ms ≡ merge_l ls ms) where
  abbrev Same : Labels → Type 0
  Same ms = merge_two_l (label k a ls) ms ≡ merge_l (label k a ls) ms

  before : (j : ℕ) (b : Trees) (ms : Labels) (m : ℕ) → OkL (label j b ms) m → k < j → Same (label j b ms)
  unfolding merge_two into merge find maybe
  before j b ms m p l =
      let f : find k ms ≡ none = find_above k j ms (omega arith) p.3 in
      rw (lt-ltb k j l, ne_eqb k j (λ q. omega arith), f)
      (sym (ap (put k a) (sym (hl (label j b ms) m p)) ∙ put_above k a (merge_two_l ls (label j b ms)) (two_above k ls (label j b ms) (ok_above k ls o) l)))

  behind : (j : ℕ) (b : Trees) (ms : Labels) (m : ℕ) → OkL (label j b ms) m → j < k → Same ms → Same (label j b ms)
  unfolding merge_two into merge find put
  behind j b ms m p l h =
      let x = maybe a (λ b. merge_a a (trees b)) (find k ms) in
      let e : merge_l ls (label j b ms) ≡ label j b (merge_l ls ms)
      = sym (hl (label j b ms) m p) ∙ two_first j b ls ms (ok_above j ls (ok_less k j ls (omega arith) o)) ∙ ap (label j b) (hl ms j p.3) in
      let q : put k x (label j b (merge_l ls ms)) ≡ label j b (put k x (merge_l ls ms)) = rw (le-ltb k j (omega arith), ne_eqb k j (λ q. omega arith)) refl in
      rw (le-ltb k j (omega arith), lt-ltb j k l, ne_eqb k j (λ q. omega arith))
      (ap (label j b) h ∙ sym (ap (put k x) e ∙ q))

  beside : (j : ℕ) (b : Trees) (ms : Labels) (m : ℕ) → OkL (label j b ms) m → k ≡ j → Same (label j b ms)
  unfolding merge_two into merge find put maybe
  beside j b ms m p l =
      let e : merge_l ls (label j b ms) ≡ label j b (merge_two_l ls ms)
      = sym (hl (label j b ms) m p) ∙ two_first j b ls ms (ok_above j ls (ok_less k j ls (omega arith) o)) in
      let q : put k (merge_a a b) (label j b (merge_two_l ls ms)) ≡ label k (merge_a a b) (merge_two_l ls ms) = rw (le-ltb k j (omega arith), eq-eqb k j l) refl in
      rw (le-ltb k j (omega arith), le-ltb j k (omega arith), eq-eqb k j l, trees_list)
      (ap (λ z. label k z (merge_two_l ls ms)) (ha b p.2) ∙ sym (ap (put k (merge_a a b)) e ∙ q))

  same : (ms : Labels) (m : ℕ) → OkL ms m → Same ms
  unfolding merge_two into merge find maybe
  same bare m p = sym (ap (put k a) (merge_none ls k o) ∙ put_above k a ls (ok_above k ls o))
  same (label j b ms) m p = by_order k j (before j b ms m p) (λ l. behind j b ms m p l (same ms j p.3)) (beside j b ms m p)

-- ---- the merge by two places is the merge
pub root_labels : (t : Tree) → Ok t → OkL (labels t) 0
root_labels (node r ls) o = o.1

mutual
  unfolding merge_two merge

  pub two_merge : (s t : Tree) → Ok s → Ok t → merge_two s t ≡ merge s t
  two_merge (node r ls) t p q = ap (node (merge_root r (root t))) (two_merge_l ls 0 p.1 (labels t) 0 (root_labels t q))

  two_merge_a : (a b : Trees) → OkA a → OkA b → merge_two_a a b ≡ merge_a a b
  two_merge_a ε b p q = refl
  two_merge_a (s ▹ ss) ε p q = refl
  two_merge_a (s ▹ ss) (t ▹ ts) p q = ap₂ ◌▹◌ (two_merge s t p.0 q.0) (two_merge_a ss ts p.1 q.1)

  two_merge_l : (ls : Labels) (k : ℕ) → OkL ls k → (ms : Labels) (m : ℕ) → OkL ms m → merge_two_l ls ms ≡ merge_l ls ms
  two_merge_l bare k p ms m q = refl
  two_merge_l (label j a ls) k p ms m q = same j a ls p.3 (λ b o. two_merge_a a b p.2 o) (λ x n o. two_merge_l ls j p.3 x n o) ms m q

-- ---- its steps
pub two_bare : (ls : Labels) → merge_two_l ls bare ≡ ls
unfolding merge_two into
two_bare bare = refl
two_bare (label k a ls) = refl

pub bare_two : (ms : Labels) → merge_two_l bare ms ≡ ms
unfolding merge_two
bare_two ms = refl

pub two_none : (a : Trees) → merge_two_a a ε ≡ a
unfolding merge_two
two_none ε = refl
two_none (t ▹ ts) = refl

pub none_two : (b : Trees) → merge_two_a ε b ≡ b
unfolding merge_two
none_two b = refl

-- what remains of labels that begin with x, once the first entry of their merge with labels that begin with y is made
abbrev pub remain : Entry → Entry → Labels → Labels
remain x y ls = cond (ltb y.0 x.0) (label x.0 x.1 ls) ls

pick_step : (p q : Bool) → (p ≡ true → q ≡ true → ⊥) → (x y z : Entry) (g : Labels → Labels → Labels) (ls ms ls' ms' : Labels)
    → cond p (label x.0 x.1 (g ls ms')) (cond q (label y.0 y.1 (g ls' ms)) (label z.0 z.1 (g ls ms)))
    ≡ label (cond p x (cond q y z)).0 (cond p x (cond q y z)).1 (g (cond q ls' ls) (cond p ms' ms))
pick_step true true n x y z g ls ms ls' ms' = absurd (n refl refl)
pick_step true false n x y z g ls ms ls' ms' = refl
pick_step false true n x y z g ls ms ls' ms' = refl
pick_step false false n x y z g ls ms ls' ms' = refl

pub not_both : (a b : ℕ) → ltb a b ≡ true → ltb b a ≡ true → ⊥
not_both a b p q = omega (arith, ltb-true a b p, ltb-true b a q)

pub two_step : (x y : Entry) (ls ms : Labels)
    → merge_two_l (label x.0 x.1 ls) (label y.0 y.1 ms)
    ≡ label (merge_first x y).0 (merge_first x y).1 (merge_two_l (remain x y ls) (remain y x ms))
unfolding merge_two into merge_first merge_entry
two_step x y ls ms =
    pick_step (ltb x.0 y.0) (ltb y.0 x.0) (not_both x.0 y.0)
    x y (merge_entry x y) merge_two_l ls ms (label x.0 x.1 ls) (label y.0 y.1 ms)
