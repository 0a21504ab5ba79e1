-- How many trees a path gives, and where each of them stands, tree by tree.
use Rattle.std.specs.Prelude.{◌≡◌, refl, List, [], ◌∷◌, ◌++◌, ℕ, ◌+◌, ◌-◌, ◌≤◌, length, get_or, Ok, Err}
use Rattle.std.proofs.Common.{sym, ap, ◌∙◌, arith, length-append, get_or-append-add}
use Rattle.std.proofs.Math.Path.{subst}
use Rattle.std.proofs.Math.Option.{none, some}
use Rattle.std.proofs.Math.ListN.{get_or-append}
use Rattle.spec_trees.specs.Tree.{Tree, bare_void}
use Rattle.spec_trees.specs.Bytes.{tree_bytes}
use Rattle.areas.specs.Area.{Is, field_end, IsAt, span}
use Rattle.areas.specs.declared.span.Span.{Span}
use Rattle.paths.specs.Walk.{given, Walk, Tells, TellsJoined, PartIs, ElementIs, Element}
use Rattle.paths.specs.WalkLaws.{given_join, joined_end, joined_next}

-- ---- how many
pub count_one : (t : Tree) → 1 ≡ length (given (some (t ∷ [])))
unfolding given
count_one t = refl

pub count_none : 0 ≡ length (given none)
unfolding given
count_none = refl

-- n trees were passed, and c are given by the first tree that is left
module _ (q : List ℕ) (p : Span) (i : ℕ) (s : List ℕ) (a b n : ℕ) where
  pub count_end : a ≡ b → TellsJoined q p i s (span a b) (λ x. n ≡ n + length (given x))
  count_end z = joined_end q p i s a b (λ x. n ≡ n + length (given x)) z (omega (arith, count_none))

  pub count_next : {m c : ℕ} → (a ≡ b → ⊥) → m ≡ field_end s a → Tells q p i s (span a m) (λ x. c ≡ length (given x))
      → (k : ℕ) → TellsJoined q p i s (span m b) (λ x. k ≡ n + c + length (given x)) → TellsJoined q p i s (span a b) (λ x. k ≡ n + length (given x))
  count_next {m} {c} z g f k =
      joined_next q p i s a b (λ x. c ≡ length (given x)) (λ x. k ≡ n + c + length (given x)) (λ x. k ≡ n + length (given x)) z g
      (λ x y u w. omega (arith, u, w, ap length (given_join x y), length-append (given x) (given y))) f

-- ---- where each stands
part_is : {s : List ℕ} {a b j : ℕ} {f : Span} {xs : List Tree} → PartIs s (span a b) j xs f → ElementIs s (span a b) j xs (Ok f)
part_is {s} {a} {b} {j} {f} {xs} h = record {
  part = λ g q. let y : f ≡ g = cc in subst (PartIs s (span a b) j xs) y h;
  fewer = λ n q. let z : ◌≡◌ {A = ℕ} 0 1 = cc in absurd (omega arith);
}

fewer_is : (s : List ℕ) (a b : ℕ) {j n : ℕ} {xs : List Tree} → j ≡ length xs + n → ElementIs s (span a b) j xs (Err n)
fewer_is s a b {j} {n} {xs} h = record {
  part = λ x q. let z : ◌≡◌ {A = ℕ} 0 1 = cc in absurd (omega arith);
  fewer = λ k q. let z : n ≡ k = cc in omega arith;
}

-- of one tree, and of none
module _ (s : List ℕ) (a b j : ℕ) where
  pub element_one : j ≡ 0 → (t : Tree) → Is s a b (tree_bytes t) → ElementIs s (span a b) j (given (some (t ∷ []))) (Ok (span a b))
  unfolding given
  element_one z t h = part_is record {
    below = omega arith;
    tree_is = subst (λ k. Is s a b (tree_bytes (get_or (t ∷ []) k bare_void))) (sym z) h;
    after = omega arith;
    within = omega arith;
  }

  pub element_past : (j ≡ 0 → ⊥) → (t : Tree) → ElementIs s (span a b) j (given (some (t ∷ []))) (Err (j - 1))
  unfolding given
  element_past z t = fewer_is s a b (omega arith)

  pub element_none : ElementIs s (span a b) j (given none) (Err j)
  unfolding given
  element_none = fewer_is s a b (omega arith)

-- a part of a part
pub element_within : {s : List ℕ} {a b x y j : ℕ} {xs : List Tree} {r : Element} → a ≤ x → y ≤ b → ElementIs s (span x y) j xs r → ElementIs s (span a b) j xs r
element_within l u h = record {
  part = λ f q. let c = h.part f q in
      record { below = c.below; tree_is = c.tree_is; after = omega (arith, c.after); within = omega (arith, c.within) };
  fewer = h.fewer;
}

-- among the first trees, or behind them
module _ {s : List ℕ} {a b j : ℕ} (xs ys : List Tree) where
  element_left : {f : Span} → PartIs s (span a b) j xs f → PartIs s (span a b) j (xs ++ ys) f
  element_left {f} c = record {
    below = omega (arith, length-append xs ys, c.below);
    tree_is = subst (λ u. IsAt s f (tree_bytes u)) (sym (get_or-append xs ys bare_void j c.below)) c.tree_is;
    after = c.after;
    within = c.within;
  }

  element_right : {n : ℕ} {r : Element} → j ≡ length xs + n → ElementIs s (span a b) n ys r → ElementIs s (span a b) j (xs ++ ys) r
  element_right {n} {r} z h = record {
    part = λ f q. let c = h.part f q in record {
      below = omega (arith, length-append xs ys, c.below);
      tree_is = subst (λ u. IsAt s f (tree_bytes u)) (sym (ap (λ k. get_or (xs ++ ys) k bare_void) z ∙ get_or-append-add xs ys n bare_void)) c.tree_is;
      after = c.after;
      within = c.within;
    };
    fewer = λ k q. omega (arith, length-append xs ys, h.fewer k q);
  }

module _ (q : List ℕ) (p : Span) (i : ℕ) (s : List ℕ) (a b j : ℕ) where
  pub element_end : a ≡ b → TellsJoined q p i s (span a b) (λ x. ElementIs s (span a b) j (given x) (Err j))
  element_end z = joined_end q p i s a b (λ x. ElementIs s (span a b) j (given x) (Err j)) z (element_none s a b j)

  module _ {m : ℕ} (z : a ≡ b → ⊥) (g : m ≡ field_end s a) (l : a ≤ m) (u : m ≤ b) {o : Element} (k : Tells q p i s (span a m) (λ x. ElementIs s (span a m) j (given x) o)) where
    pub element_here : (r : Element) {f : Span} → o ≡ r → o ≡ Ok f → TellsJoined q p i s (span a b) (λ x. ElementIs s (span a b) j (given x) r)
    element_here r {f} d w =
        joined_next q p i s a b (λ x. ElementIs s (span a m) j (given x) o) (λ x. Unit {0}) (λ x. ElementIs s (span a b) j (given x) r) z g
        (λ x y c _. subst (λ n. ElementIs s (span a b) j n r) (sym (given_join x y))
        (subst (ElementIs s (span a b) j (given x ++ given y)) (sym w ∙ d) (part_is (element_left (given x) (given y) ((element_within {a = a} {b = b} (omega arith) u c).part f w)))))
        k (λ path ts h c. tt)

    pub element_next : {n : ℕ} → o ≡ Err n → (r : Element) → TellsJoined q p i s (span m b) (λ x. ElementIs s (span m b) n (given x) r) → TellsJoined q p i s (span a b) (λ x. ElementIs s (span a b) j (given x) r)
    element_next {n} w r =
        joined_next q p i s a b (λ x. ElementIs s (span a m) j (given x) o) (λ x. ElementIs s (span m b) n (given x) r) (λ x. ElementIs s (span a b) j (given x) r) z g
        (λ x y c d. subst (λ l. ElementIs s (span a b) j l r) (sym (given_join x y))
        (element_right (given x) (given y) (c.fewer n w) (element_within l (omega arith) d))) k

-- the part is inside
pub element_span : {q : List ℕ} {p : Span} {i : ℕ} {s : List ℕ} {a b j : ℕ} {f : Span} {r : Element} → Walk tree_bytes q p i s (span a b)
    → Tells q p i s (span a b) (λ x. ElementIs s (span a b) j (given x) r) → r ≡ Ok f → (f.from ≤ f.to) × (f.to ≤ length s)
element_span {f = f} w h z =
    let c = ((h w.path.value w.stands.value w.path.value_is w.stands.value_is).part f z).tree_is in
    (omega (arith, c.ends), c.inside)
