-- Bytes that are looked for in others, one behind another; and the bytes of the trees that a path gives.
use Rattle.std.specs.Prelude.{◌≡◌, refl, List, [], ◌∷◌, ◌++◌, Bool, true, false, ℕ, ◌+◌, ◌-◌, ◌≤◌, ◌<◌, length, take, drop, Some, None}
use Rattle.std.proofs.Common.{sym, ap, subst, ◌∙◌, append_assoc, append-nil, arith}
use Rattle.std.proofs.Math.Option.{none, some}
use Rattle.std.proofs.Math.Seq.{slice, length-slice, slice_empty}
use Rattle.spec_trees.specs.Tree.{Tree, trees}
use Rattle.spec_trees.specs.Bytes.{field_bytes, bytes, tree_f, tree_fs, tree_bytes}
use Rattle.areas.specs.Area.{Is, field_end, span}
use Rattle.areas.specs.declared.span.Span.{Span}
use Rattle.areas.specs.AreaLaws.{is_part_lem, is_left, is_right, is_join}
use Rattle.format.specs.Stand.{trees_bytes, Holds}
use Rattle.spec_trees.specs.Lists.{same_bytes}
use Rattle.spec_trees.specs.ListLaws.{equal_same, same_equal}
use Rattle.spec_stages.specs.Paths.{Given, join}
use Rattle.paths.specs.Walk.{given, given_bytes, Walk, Tells, TellsJoined, ComparedIs, Compared}
use Rattle.paths.specs.WalkLaws.{given_join, joined_end, joined_next}

-- ---- bytes that stand in an area

-- what stands there is known by its place
pub is_slice : {w : List ℕ} {p e : ℕ} → p ≤ e → e ≤ length w → Is w p e (slice p e w)
is_slice {w} {p} {e} l u = record { lies = refl; ends = omega (arith, length-slice p e w u); inside = u }

pub is_none : {w : List ℕ} {p : ℕ} → p ≤ length w → Is w p p []
is_none {w} {p} l = record { lies = slice_empty p w; ends = omega arith; inside = l }

-- equal bytes stand at equal places
pub is_same : {w : List ℕ} {p e : ℕ} {xs ys : List ℕ} → xs ≡ ys → Is w p e xs → Is w p e ys
is_same {w} {p} {e} q h = subst (Is w p e) q h

-- ---- answers
same_is : {o : List ℕ} {at n : ℕ} {xs : List ℕ} → Is o at n xs → ComparedIs o at xs (Some n)
same_is {o} {at} {n} {xs} h = record {
  same = λ k q. let z : n ≡ k = cc in subst (λ m. Is o at m xs) z h;
  differs = λ q. let z : ◌≡◌ {A = ℕ} 0 1 = cc in absurd (omega arith);
}

differs_is : {o : List ℕ} {at : ℕ} {xs : List ℕ} → ((n : ℕ) → Is o at n xs → ⊥) → ComparedIs o at xs None
differs_is h = record { same = λ k q. let z : ◌≡◌ {A = ℕ} 0 1 = cc in absurd (omega arith); differs = λ q. h }

-- ---- one part against another
module _ (s : List ℕ) (a b : ℕ) (o : List ℕ) (at : ℕ) (l : a ≤ b) (u : b ≤ length s) (c : at ≤ length o) where
  pub stands_short : length o - at < b - a → ComparedIs o at (slice a b s) None
  stands_short k = differs_is (λ n h. omega (arith, length-slice a b s u, h.ends, h.inside))

  module _ (k : b - a ≤ length o - at) {r : Bool} (e : r ≡ same_bytes (take (b - a) (drop a s)) (take (at + (b - a) - at) (drop at o))) where
    other : Is o at (at + (b - a)) (slice at (at + (b - a)) o)
    other = is_slice (omega arith) (omega arith)

    pub stands_same : r ≡ true → ComparedIs o at (slice a b s) (Some (at + (b - a)))
    stands_same z =
        let q = same_equal _ _ (sym e ∙ z) in
        same_is (is_same (sym (is_part_lem other) ∙ sym q ∙ is_part_lem (is_slice l u)) other)

    pub stands_other : r ≡ false → ComparedIs o at (slice a b s) None
    stands_other z = differs_is (λ n h.
        let g : n ≡ at + (b - a) = omega (arith, length-slice a b s u, h.ends) in
        let q = is_part_lem (is_slice l u) ∙ sym (is_part_lem (subst (λ m. Is o at m (slice a b s)) g h)) in
        let w : ◌≡◌ {A = Bool} true false = sym (equal_same _ _ q) ∙ sym e ∙ z in
        let y : ◌≡◌ {A = ℕ} 0 1 = cc in
        omega arith)

-- ---- one behind another
module _ {o : List ℕ} {at : ℕ} (xs ys : List ℕ) where
  pub compared_next : {k : ℕ} {d r : Compared} → ComparedIs o at xs d → d ≡ Some k → ComparedIs o k ys r → ComparedIs o at (xs ++ ys) r
  compared_next {k} {d} {r} h z g =
      let f = h.same k z in record {
        same = λ n q. is_join f (g.same n q);
        differs = λ q n w. g.differs q n (is_right xs ys f.ends w);
      }

  pub compared_stop : {d : Compared} → ComparedIs o at xs d → d ≡ None → ComparedIs o at (xs ++ ys) None
  compared_stop h z = differs_is (λ n w. h.differs z (at + length xs) (is_left xs ys refl w))

-- ---- the trees that a path gives
pub trees_append : (xs ys : List Tree) → trees_bytes (trees (xs ++ ys)) ≡ trees_bytes (trees xs) ++ trees_bytes (trees ys)
unfolding bytes tree_fs
trees_append [] ys = refl
trees_append (t ∷ ts) ys = ap (λ l. field_bytes (tree_f t) ++ l) (trees_append ts ys) ∙ sym (append_assoc (field_bytes (tree_f t)) (trees_bytes (trees ts)) (trees_bytes (trees ys)))

pub join_bytes : (x y : Given) → given_bytes (join x y) ≡ given_bytes x ++ given_bytes y
join_bytes x y = ap (λ l. trees_bytes (trees l)) (given_join x y) ∙ trees_append (given x) (given y)

-- one tree, and none
pub one_bytes : (t : Tree) → tree_bytes t ≡ given_bytes (some (t ∷ []))
unfolding given bytes tree_fs tree_bytes
one_bytes t = sym (append-nil (field_bytes (tree_f t)))

pub none_bytes : [] ≡ given_bytes none
unfolding given bytes tree_fs
none_bytes = refl

module _ {s : List ℕ} {a b : ℕ} {o : List ℕ} {at : ℕ} where
  pub compared_one : {r : Compared} → ComparedIs o at (slice a b s) r → (t : Tree) → Is s a b (tree_bytes t) → ComparedIs o at (given_bytes (some (t ∷ []))) r
  compared_one {r} h t k = subst (λ xs. ComparedIs o at xs r) (k.lies ∙ one_bytes t) h

pub compared_none : {o : List ℕ} {at : ℕ} → at ≤ length o → ComparedIs o at (given_bytes none) (Some at)
compared_none {o} {at} l = subst (λ xs. ComparedIs o at xs (Some at)) none_bytes (same_is (is_none l))

-- an array, tree by tree
module _ (q : List ℕ) (p : Span) (i : ℕ) (s : List ℕ) (a b : ℕ) (o : List ℕ) (at : ℕ) where
  pub compared_end : at ≤ length o → a ≡ b → TellsJoined q p i s (span a b) (λ x. ComparedIs o at (given_bytes x) (Some at))
  compared_end l z = joined_end q p i s a b (λ x. ComparedIs o at (given_bytes x) (Some at)) z (compared_none l)

  module _ {m : ℕ} (z : a ≡ b → ⊥) (g : m ≡ field_end s a) {d : Compared} (f : Tells q p i s (span a m) (λ x. ComparedIs o at (given_bytes x) d)) where
    pub compared_here : d ≡ None → TellsJoined q p i s (span a b) (λ x. ComparedIs o at (given_bytes x) None)
    compared_here w =
        joined_next q p i s a b (λ x. ComparedIs o at (given_bytes x) d) (λ x. Unit {0}) (λ x. ComparedIs o at (given_bytes x) None) z g
        (λ x y h _. subst (λ l. ComparedIs o at l None) (sym (join_bytes x y)) (compared_stop (given_bytes x) (given_bytes y) h w))
        f (λ path ts h c. tt)

    pub compared_on : {k : ℕ} → d ≡ Some k → (r : Compared) → TellsJoined q p i s (span m b) (λ x. ComparedIs o k (given_bytes x) r)
        → TellsJoined q p i s (span a b) (λ x. ComparedIs o at (given_bytes x) r)
    compared_on {k} w r =
        joined_next q p i s a b (λ x. ComparedIs o at (given_bytes x) d) (λ x. ComparedIs o k (given_bytes x) r) (λ x. ComparedIs o at (given_bytes x) r) z g
        (λ x y h c. subst (λ l. ComparedIs o at l r) (sym (join_bytes x y)) (compared_next (given_bytes x) (given_bytes y) h w c)) f

-- an answer is a place in the other bytes
pub compared_room : {q : List ℕ} {p : Span} {i : ℕ} {s : List ℕ} {a b : ℕ} {o : List ℕ} {at k : ℕ} {d : Compared} → Walk tree_bytes q p i s (span a b)
    → Tells q p i s (span a b) (λ x. ComparedIs o at (given_bytes x) d) → d ≡ Some k → k ≤ length o
compared_room {k = k} w h z = ((h w.path.value w.stands.value w.path.value_is w.stands.value_is).same k z).inside

-- what stands there stands inside
pub holds_span : {A : Type 0} {f : A → List ℕ} {s : List ℕ} {a b : ℕ} → Holds f s a b → (a ≤ b) × (b ≤ length s)
holds_span h = (omega (arith, h.value_is.ends), h.value_is.inside)
