-- Laws of adding integer roots: one tree, trees one behind another, and how many integers there are.
use Rattle.std.specs.Prelude.{◌≡◌, List, [], ◌∷◌, ◌++◌, ℕ, ◌+◌, ◌≤◌, ◌<◌, ℤ, length, get_or}
use Rattle.std.proofs.Math.Path.{refl, ap, subst}
use Rattle.std.proofs.Common.{sym, ◌∙◌, arith}
use Rattle.std.proofs.Math.Option.{Option, none, some}
use Rattle.std.proofs.Math.IntN.{+ℤ_idr}
use Rattle.spec_trees.specs.Tree.{Root, void, boolean, integer, text, Tree, node, list, root}
use Rattle.spec_trees.specs.Bytes.{big, pattern, root_f, tree_bytes}
use Rattle.spec_trees.specs.Decode.{signed}
use Rattle.spec_trees.specs.NumberLaws.{length_big, signed_back, pattern_lt}
use Rattle.spec_trees.specs.Within.{OkR, Ok}
use Rattle.spec_trees.specs.Lists.{gather}
use Rattle.spec_trees.specs.ListLaws.{All-left, All-right}
use Rattle.spec_trees.specs.FilterLaws.{gather_append}
use Rattle.areas.specs.Area.{Is, field_end, span}
use Rattle.areas.specs.AreaLaws.{is_tag, is_content}
use Rattle.areas.specs.Number.{word_at}
use Rattle.areas.specs.NumberLaws.{word_is}
use Rattle.format.specs.Stand.{root_bytes, Holds}
use Rattle.format.specs.StandLaws.{tree_parts, trees_parts, trees_none, tree_places}
use Rattle.spec_stages.specs.Sums.{added}
use Rattle.spec_stages.specs.Totals.{root_integers, tree_integers, sum_of}
use Rattle.spec_stages.proofs.TotalsLaws.{sum_append}
use Rattle.totals.specs.declared.exact.Total.{Total}
use Rattle.totals.specs.Exact.{middle, IsTotal, Sound, Adds}
use Rattle.totals.specs.ExactLaws.{adds_none, adds_seq, adds_sound}
use Rattle.totals.specs.Sum.{Ready, Summed, AddsTrees, AddsTree, AddsPart}

-- ---- how many integers
pub ready_empty : {t : Total} (a b : ℕ) → (t.count ≡ 0) × IsTotal t none → b ≤ middle → Ready t (span a b)
ready_empty a b h l = let n = h.0 in record { sound = record { sum = none; sum_is = h.1 }; room = omega arith }

pub summed_same : {t : Total} (a b : ℕ) → Sound t → a ≤ b → Summed t t (span a b)
summed_same a b s l = record { sound = s; count = omega arith }

-- one, in so many bytes
pub summed_one : {t r : Total} {x : Option ℤ} (a b : ℕ) → Sound t → a < b → r.count ≡ t.count + 1 → Adds t r x → Summed t r (span a b)
summed_one a b s l n f = record { sound = adds_sound s f; count = omega arith }

-- a part of the part
module _ {t : Total} {a b x y : ℕ} (l : (a ≤ x) × (x ≤ y) × (y ≤ b)) where
  pub ready_within : Ready t (span a b) → Ready t (span x y)
  ready_within h = let n = h.room in record { sound = h.sound; room = omega (arith, l) }

  pub summed_within : {r : Total} → Summed t r (span x y) → Summed t r (span a b)
  summed_within h = let n = h.count in record { sound = h.sound; count = omega (arith, l) }

-- two parts, one behind the other
pub summed_seq : {t r v : Total} {a m b : ℕ} → Summed t r (span a m) → Summed r v (span m b) → Summed t v (span a b)
summed_seq h g = let n = h.count in let k = g.count in record { sound = g.sound; count = omega arith }

pub summed_end : {t r : Total} {a m b : ℕ} → m ≡ b → Summed t r (span a m) → Summed t r (span a b)
summed_end z h = let n = h.count in record { sound = h.sound; count = omega arith }

pub ready_next : {t r : Total} {a m b : ℕ} → Ready t (span a b) → Summed t r (span a m) → Ready r (span m b)
ready_next h g = let n = h.room in let k = g.count in record { sound = g.sound; room = omega arith }

pub ready_first : {t : Total} {a m b : ℕ} → m ≤ b → Ready t (span a b) → Ready t (span a m)
ready_first l h = let n = h.room in record { sound = h.sound; room = omega arith }

-- ---- which integers: none, and of trees behind others
pub trees_same : (t : Total) → AddsTrees t t []
unfolding tree_integers gather sum_of
trees_same t o = adds_none t

pub trees_seq : {t r v : Total} (xs ys : List Tree) → AddsTrees t r xs → AddsTrees r v ys → AddsTrees t v (xs ++ ys)
unfolding tree_integers
trees_seq {t} {r} {v} xs ys f g o =
    let e = ap sum_of (gather_append (λ u. root_integers (root u)) xs ys) ∙ sum_append (tree_integers xs) (tree_integers ys) in
    subst (Adds t v) (sym e) (adds_seq (f (All-left Ok xs ys o)) (g (All-right Ok xs ys o)))

-- ---- one tree: the root's tag tells, and the bits of an integer stand behind the root's head
record IntegerIs (s : List ℕ) (p e : ℕ) (x : Root) : Type 0 where
  pub value : ℤ
  pub same : x ≡ integer value
  pub ends : e ≡ p + 11
  pub bits_is : Is s (p + 3) (p + 3 + 8) (big 8 (pattern value))

module _ {s : List ℕ} {p e : ℕ} where
  root_integer : (x : Root) → Is s p e (root_bytes x) → get_or s p 0 ≡ 5 → IntegerIs s p e x
  unfolding root_f
  root_integer void h n = absurd (omega (arith, is_tag (root_f void) h))
  root_integer (boolean b) h n = absurd (omega (arith, is_tag (root_f (boolean b)) h))
  root_integer (integer z) h n =
      let c = is_content (root_f (integer z)) h in
      let l : e ≡ p + 3 + 8 = omega (arith, c.ends, length_big 8 (pattern z)) in
      record { value = z; same = refl; ends = omega arith; bits_is = subst (λ m. Is s (p + 3) m (big 8 (pattern z))) l c }
  root_integer (text b) h n = absurd (omega (arith, is_tag (root_f (text b)) h))

  root_other : (x : Root) → Is s p e (root_bytes x) → (get_or s p 0 ≡ 5 → ⊥) → root_integers x ≡ []
  unfolding root_f root_integers
  root_other void h n = refl
  root_other (boolean b) h n = refl
  root_other (integer z) h n = absurd (n (is_tag (root_f (integer z)) h))
  root_other (text b) h n = refl

  -- an integer in range is that of its bits
  bits_signed : {x : Root} {k : ℕ} (i : IntegerIs s p e x) → OkR x → k ≡ word_at s (p + 3) → root_integers x ≡ signed k ∷ []
  unfolding root_integers
  bits_signed {x} {k} i o q =
      let z = i.value in
      let r = subst OkR i.same o in
      let w = word_is (pattern z) (omega (arith, pattern_lt z r)) i.bits_is in
      ap root_integers i.same ∙ ap (λ y. y ∷ []) (sym (ap signed (q ∙ w) ∙ signed_back z r))

-- the sum of one tree
root_ok_lem : (u : Tree) → Ok u → OkR (root u)
root_ok_lem (node x ls) o = o.0

sum_one : (u : Tree) {z : ℤ} → root_integers (root u) ≡ z ∷ [] → sum_of (tree_integers (u ∷ [])) ≡ some z
unfolding tree_integers gather sum_of added
sum_one u {z} e = ap (λ l. sum_of (l ++ [])) e ∙ ap some (+ℤ_idr z)

sum_nothing : (u : Tree) → root_integers (root u) ≡ [] → sum_of (tree_integers (u ∷ [])) ≡ none
unfolding tree_integers gather sum_of
sum_nothing u e = ap (λ l. sum_of (l ++ [])) e

module _ (s : List ℕ) (p e : ℕ) where
  -- where its root stands, and the bits of an integer
  pub tree_room : Holds tree_bytes s p e → (p + 6 ≤ e) × (e ≤ length s)
  tree_room h = let a = tree_places h refl in (omega (arith, a), a.2)

  pub integer_room : Holds tree_bytes s p e → get_or s (p + 3) 0 ≡ 5 → p + 14 ≤ e
  integer_room h n =
      let a = tree_parts {l = field_end s (p + 3)} h.value refl h.value_is in
      omega (arith, (root_integer (root h.value) a.root_is n).ends, a.within)

  pub tree_integer : {t r : Total} {x : ℕ} → get_or s (p + 3) 0 ≡ 5 → x ≡ word_at s (p + 6) → Adds t r (some (signed x)) → AddsTree s (span p e) t r
  tree_integer {t} {r} n z f u h o =
      let a = tree_parts {l = field_end s (p + 3)} u refl h in
      let k : p + 6 ≡ p + 3 + 3 = omega arith in
      let i = bits_signed (root_integer (root u) a.root_is n) (root_ok_lem u o.0) (z ∙ ap (word_at s) k) in
      subst (Adds t r) (sym (sum_one u i)) f

  pub tree_other : (t : Total) → (get_or s (p + 3) 0 ≡ 5 → ⊥) → AddsTree s (span p e) t t
  tree_other t n u h o =
      let a = tree_parts {l = field_end s (p + 3)} u refl h in
      subst (Adds t t) (sym (sum_nothing u (root_other (root u) a.root_is n))) (adds_none t)

-- ---- trees: none, or the first and the rest
module _ (s : List ℕ) (p e : ℕ) (t : Total) where
  pub trees_end : p ≡ e → AddsPart s (span p e) t t
  trees_end z ts h = subst (λ x. AddsTrees t t (list x)) (sym (trees_none ts z h)) (trees_same t)

  pub trees_next : {m : ℕ} {r : Total} → (p ≡ e → ⊥) → m ≡ field_end s p → AddsTree s (span p m) t r
      → (k : Total) → AddsPart s (span m e) r k → AddsPart s (span p e) t k
  trees_next n z f k g ts h =
      let a = trees_parts ts z n h in
      subst (λ x. AddsTrees t k (list x)) (sym a.same)
      (trees_seq (a.first ∷ []) (list a.rest) (f a.first a.first_is) (g a.rest a.rest_is))
