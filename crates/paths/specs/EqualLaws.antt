-- Applications compared by their bytes, and by the bytes of their trees.
use Rattle.std.specs.Prelude.{◌≡◌, refl, List, Bool, true, false, not, ◌&&◌, ℕ, ◌+◌, ◌-◌, ◌≤◌, ◌<◌, length, take, drop, get_or, eqb, Some, None, Ok, Err, is_none}
use Rattle.std.proofs.Math.Path.{sym, ap, subst}
use Rattle.std.proofs.Common.{ap₂, ◌∙◌, arith, eqb-true}
use Rattle.std.proofs.Math.Option.{none, some}
use Rattle.std.proofs.Math.Seq.{slice, take-length}
use Rattle.std.proofs.lemmas.Bool.{eqb-false}
use Rattle.spec_trees.specs.Tree.{Tree, list, trees, bare_void}
use Rattle.spec_trees.specs.Bytes.{tree_bytes}
use Rattle.areas.specs.Area.{Is, span}
use Rattle.areas.specs.declared.span.Span.{Span}
use Rattle.areas.specs.AreaLaws.{is_part_lem}
use Rattle.spec_trees.specs.Lists.{same_bytes}
use Rattle.spec_trees.specs.ListLaws.{equal_same, same_equal}
use Rattle.spec_trees.specs.SizeLaws.{trees_list}
use Rattle.format.specs.Stand.{trees_bytes, ArrayIs, FoundIs}
use Rattle.spec_trees.specs.Within.{AllowedA}
use Rattle.spec_stages.specs.Paths.{Given, present}
use Rattle.spec_stages.specs.Equality.{same_given}
use Rattle.paths.specs.Walk.{given, given_bytes, is_array, Walk, Tells, FoundInside, ElementIs, ComparedIs, OperandIs, Element, Compared}
use Rattle.paths.specs.WalkLaws.{present_some, present_none}
use Rattle.paths.specs.SameLaws.{absent_same, other_absent, present_same, length_equal, element_equal, elements_equal}
use Rattle.format.specs.Labels.{Found}

-- ---- bytes that are or are not the same
module _ (xs ys : List ℕ) where
  pub bytes_differ : (xs ≡ ys → ⊥) → false ≡ same_bytes xs ys
  bytes_differ n = go (same_bytes xs ys) refl
    where
      go : (b : Bool) → same_bytes xs ys ≡ b → false ≡ b
      go true q = absurd (n (same_equal xs ys q))
      go false q = refl

  pub bytes_other : false ≡ same_bytes xs ys → xs ≡ ys → ⊥
  bytes_other f q =
      let w : ◌≡◌ {A = Bool} true false = sym (equal_same xs ys q) ∙ sym f in
      let y : ◌≡◌ {A = ℕ} 0 1 = cc in
      omega arith

-- ---- all of o, looked for from its beginning
module _ {o xs : List ℕ} {r : Compared} (h : ComparedIs o 0 xs r) where
  pub gives_other : r ≡ None → false ≡ same_bytes xs o
  gives_other z = bytes_differ xs o (λ q. h.differs z (length o)
      record { lies = take-length o ∙ sym q; ends = omega (arith, ap length q); inside = omega arith })

  pub gives_same : {n : ℕ} → r ≡ Some n → eqb n (length o) ≡ same_bytes xs o
  gives_same {n} z = go (eqb n (length o)) refl
    where
      c : Is o 0 n xs
      c = h.same n z

      go : (b : Bool) → eqb n (length o) ≡ b → b ≡ same_bytes xs o
      go true q = sym (equal_same xs o (sym c.lies ∙ ap (λ m. slice 0 m o) (eqb-true n (length o) q) ∙ take-length o))
      go false q = bytes_differ xs o (λ e. eqb-false n (length o) q (omega (arith, c.ends, ap length e)))

-- ---- an application and an array's bytes
module _ (x : Given) (o : List ℕ) where
  pub array_absent : present x ≡ false → false ≡ is_array x o
  array_absent q = sym (ap (λ b. b && same_bytes (given_bytes x) o) q)

  pub array_missing : x ≡ none → false ≡ is_array x o
  array_missing q = array_absent (ap present q ∙ sym present_none)

  pub array_given : {r : Bool} → present x ≡ true → r ≡ same_bytes (given_bytes x) o → r ≡ is_array x o
  array_given q e = e ∙ sym (ap (λ b. b && same_bytes (given_bytes x) o) q)

  pub array_part : {s : List ℕ} {a b f t : ℕ} {r : Bool} → ArrayIs s (span a b) x (span f t) → r ≡ same_bytes (take (t - f) (drop f s)) o → r ≡ is_array x o
  unfolding given
  array_part c e =
      let k : given_bytes x ≡ trees_bytes c.array = ap given_bytes c.same ∙ ap trees_bytes (trees_list c.array) in
      array_given (ap present c.same ∙ sym (present_some (list c.array))) (e ∙ ap (λ l. same_bytes l o) (is_part_lem c.array_is ∙ sym k))

-- an application is an array that stands as o
pub is_array_lem : (x : Given) (a : List Tree) {o : List ℕ} {r : Bool} → AllowedA (given x) → AllowedA a → o ≡ trees_bytes (trees a) → r ≡ is_array x o
    → r ≡ same_given x (some a)
unfolding given
is_array_lem x a {o} {r} ox oa q e = go (present x) refl
  where
    go : (b : Bool) → present x ≡ b → r ≡ same_given x (some a)
    go true p = e ∙ ap (λ b. b && same_bytes (given_bytes x) o) p ∙ ap (same_bytes (given_bytes x)) q ∙ present_same x (some a) p (sym (present_some a)) ox oa
    go false p = e ∙ ap (λ b. b && same_bytes (given_bytes x) o) p ∙ ap not (present_some a) ∙ absent_same x (some a) p

-- an application beside one that stands in one piece, or is absent
module _ (x : Given) {y : Given} {s : List ℕ} {a b : ℕ} {found : Found} (h : FoundIs s (span a b) y found) where
  pub piece_missing : {r : Bool} → found ≡ None → r ≡ present x → not r ≡ same_given x y
  piece_missing z e = ap not e ∙ other_absent x y (ap present (h.missing z) ∙ sym present_none)

  pub piece_same : {f t : ℕ} {o : List ℕ} {r : Bool} → found ≡ Some (span f t) → OperandIs s (span f t) o → AllowedA (given x) → AllowedA (given y) → r ≡ is_array x o → r ≡ same_given x y
  unfolding given
  piece_same {f} {t} {o} {r} z k ox oy e =
      let c = h.part (span f t) z in
      subst (λ i. r ≡ same_given x i) (sym c.same)
      (is_array_lem x (list c.array) ox (subst (λ i. AllowedA (given i)) c.same oy) (k c.array c.array_is ∙ sym (ap trees_bytes (trees_list c.array))) e)

-- two that stand in one piece, or are absent
none_absent : {x : Given} {s : List ℕ} {a b : ℕ} (found : Found) → FoundIs s (span a b) x found → is_none found ≡ not (present x)
none_absent (Some at) h = ap not (present_some (list (h.part at refl).array) ∙ sym (ap present (h.part at refl).same))
none_absent None h = ap not (present_none ∙ sym (ap present (h.missing refl)))

module _ {x y : Given} {s : List ℕ} {a b : ℕ} {s2 : List ℕ} {a2 b2 : ℕ} {one other : Found} (h : FoundIs s (span a b) x one) (k : FoundIs s2 (span a2 b2) y other) where
  pub pieces_missing : {r : Bool} → other ≡ None → r ≡ is_none one → r ≡ same_given x y
  pieces_missing z e = e ∙ none_absent one h ∙ piece_missing x k z refl

  module _ {g u : ℕ} (z : other ≡ Some (span g u)) (ox : AllowedA (given x)) (oy : AllowedA (given y)) where
    pub pieces_other : one ≡ None → false ≡ same_given x y
    pieces_other m = piece_same x k z (λ ts i. is_part_lem i) ox oy (array_missing x (take (u - g) (drop g s2)) (h.missing m))

    pub pieces_same : {f t : ℕ} {r : Bool} → one ≡ Some (span f t) → r ≡ same_bytes (take (t - f) (drop f s)) (take (u - g) (drop g s2)) → r ≡ same_given x y
    pieces_same {f} {t} m e = piece_same x k z (λ ts i. is_part_lem i) ox oy (array_part x (take (u - g) (drop g s2)) (h.part (span f t) m) e)

-- what a walk finds stands within the area
pub walk_found : {q s : List ℕ} {p at : Span} {found : Found} (w : Walk tree_bytes q p 0 s at) → Tells q p 0 s at (λ x. FoundIs s at x found) → FoundInside s found
walk_found w k one z =
    let i = ((k w.path.value w.stands.value w.path.value_is w.stands.value_is).part one z).array_is in
    (omega (arith, i.ends), i.inside)

-- ---- tree by tree
module _ (xs ys : List Tree) where
  pub elements_count : (length ys ≡ length xs → ⊥) → false ≡ same_bytes (trees_bytes (trees xs)) (trees_bytes (trees ys))
  elements_count n = bytes_differ _ _ (λ q. n (sym (length_equal xs ys q)))

  pub elements_other : (j : ℕ) → false ≡ same_bytes (tree_bytes (get_or xs j bare_void)) (tree_bytes (get_or ys j bare_void)) → false ≡ same_bytes (trees_bytes (trees xs)) (trees_bytes (trees ys))
  elements_other j f = bytes_differ _ _ (λ q. bytes_other _ _ f (element_equal xs ys j q))

  pub elements_more : (j : ℕ) → ((k : ℕ) → k < j → tree_bytes (get_or xs k bare_void) ≡ tree_bytes (get_or ys k bare_void)) → true ≡ same_bytes (tree_bytes (get_or xs j bare_void)) (tree_bytes (get_or ys j bare_void))
      → (k : ℕ) → k < j + 1 → tree_bytes (get_or xs k bare_void) ≡ tree_bytes (get_or ys k bare_void)
  elements_more j h e k l = go (eqb k j) refl
    where
      go : (b : Bool) → eqb k j ≡ b → tree_bytes (get_or xs k bare_void) ≡ tree_bytes (get_or ys k bare_void)
      go true q =
          let z = eqb-true k j q in
          ap (λ n. tree_bytes (get_or xs n bare_void)) z ∙ same_equal _ _ (sym e) ∙ sym (ap (λ n. tree_bytes (get_or ys n bare_void)) z)
      go false q = h k (omega (arith, eqb-false k j q))

  pub elements_all : (j : ℕ) → length xs ≡ length ys → length xs ≤ j → ((k : ℕ) → k < j → tree_bytes (get_or xs k bare_void) ≡ tree_bytes (get_or ys k bare_void))
      → true ≡ same_bytes (trees_bytes (trees xs)) (trees_bytes (trees ys))
  elements_all j q l h = sym (equal_same _ _ (elements_equal xs ys q (λ k m. h k (omega arith))))

-- the two trees, where they stand
pub nth_same : {s s2 : List ℕ} {a b a2 b2 j : ℕ} {f g : Span} {xs ys : List Tree} {o o2 : Element} {r : Bool}
    → ElementIs s (span a b) j xs o → ElementIs s2 (span a2 b2) j ys o2 → o ≡ Ok f → o2 ≡ Ok g
    → r ≡ same_bytes (take (f.to - f.from) (drop f.from s)) (take (g.to - g.from) (drop g.from s2)) → r ≡ same_bytes (tree_bytes (get_or xs j bare_void)) (tree_bytes (get_or ys j bare_void))
nth_same {f = f} {g = g} h k z y e =
    e ∙ ap₂ same_bytes (is_part_lem (h.part f z).tree_is) (is_part_lem (k.part g y).tree_is)

pub nth_fewer : {s : List ℕ} {a b j n : ℕ} {xs : List Tree} {o : Element} → ElementIs s (span a b) j xs o → o ≡ Err n → j < length xs → ⊥
nth_fewer {n = n} h z l = omega (arith, h.fewer n z)
