-- Laws of copying a class: the links lead from its first tree through all of them.
use Rattle.std.specs.Prelude.{◌≡◌, ◌≢◌, ℕ, ◌+◌, ◌-◌, ◌≤◌, ◌<◌, length}
use Rattle.std.proofs.Math.Path.{sym, ap, subst}
use Rattle.std.proofs.Common.{◌∙◌, arith}
use mathlib.Core.List.{List, [], ◌∷◌, ◌++◌, append-nil, append_assoc}
use Rattle.spec_trees.specs.Limits.{work_min}
use Rattle.spec_trees.specs.Tree.{Tree}
use Rattle.spec_trees.specs.Bytes.{two_limit, tree_bytes}
use Rattle.areas.specs.Area.{Is, field_end, span}
use Rattle.areas.specs.AreaLaws.{is_beyond}
use Rattle.areas.specs.Number.{two_at}
use Rattle.queries.specs.TreesLaws.{six, length_cons, length_none}
use Rattle.queries.specs.Places.{array_trees, HoldsAt}
use Rattle.map.specs.Map.{trees_max, position_at}
use Rattle.key_index.specs.declared.front.Reached.{Reached}
use Rattle.key_index.specs.Links.{Spot, elements, up, Walk}
use Rattle.key_index.specs.IndexLaws.{walk_ended, walk_on}
use Rattle.key_index.specs.Index.{base, next_at, size_of}
use Rattle.key_index.specs.Entering.{Stood}
use Rattle.arrange.specs.Arrange.{headed, index_at, Room, Grows, Placed, Following}
use Rattle.areas.specs.NumberLaws.{two_above}
use Rattle.key_index.specs.StandingLaws.{tree_end}
use Rattle.arrange.specs.FrontLaws.{grows_none, grows_then}

-- some trees are copied, and the links lead through those that are left
pub record Copying (w₀ : List ℕ) (x : ℕ) (f₀ : Reached) (l : Following w₀ x f₀) (w : List ℕ) (f : Reached) (n at : ℕ) : Type 0 where
  pub done : List (ℕ × Tree)
  pub grows : Grows w₀ w f₀ f done
  pub left : List (Spot Tree)
  pub below : ℕ
  pub walk : Walk (Stood w₀) (up 6) (λ a. two_at w₀ (next_at a)) below at left
  pub whole : done ++ headed n (elements left) ≡ headed (two_at w₀ (position_at (x - base))) (elements l.left)
  pub room : f.to + length (array_trees (elements left)) ≤ trees_max
  pub small : n < two_limit

module _ {w₀ : List ℕ} {x : ℕ} {f₀ : Reached} (l : Following w₀ x f₀) where
  -- the first of them is a collected tree, so it bears a position
  pub first_places : (base ≤ x) × (x - base + 6 ≤ trees_max) × (length w₀ ≡ work_min)
  first_places =
      let (t, rest, z, h, r, k) = walk_on (Stood w₀) (up 6) (λ a. two_at w₀ (next_at a)) l.below x l.left l.walk l.some in
      (h.above, omega (arith, h.above, h.within, six t), l.room.size)

  pub copying_begin : {n : ℕ} → n ≡ two_at w₀ (position_at (x - base)) → n < two_limit → Copying w₀ x f₀ l w₀ f₀ n x
  copying_begin z b = record {
    done = [];
    grows = grows_none w₀ f₀;
    left = l.left;
    below = l.below;
    walk = l.walk;
    whole = ap (λ n. headed n (elements l.left)) z;
    room = l.room.fits;
    small = b;
  }

  module _ {w : List ℕ} {f : Reached} {n at : ℕ} (c : Copying w₀ x f₀ l w f n at) where
    pub copying_end : at ≡ 0 → Grows w₀ w f₀ f (headed (two_at w₀ (position_at (x - base))) (elements l.left))
    unfolding headed
    copying_end z =
        let none = walk_ended (Stood w₀) (up 6) (λ a. two_at w₀ (next_at a)) c.below at c.left c.walk (λ s h. omega (arith, h.above)) z in
        subst (Grows w₀ w f₀ f) (sym (append-nil c.done) ∙ ap (λ r. c.done ++ headed n (elements r)) (sym none) ∙ c.whole) c.grows

    module _ (ne : at ≢ 0) where
      one : (t : Tree) × (rest : List (Spot Tree)) × (c.left ≡ (at, t) ∷ rest) × Stood w₀ (at, t) × up 6 c.below at × Walk (Stood w₀) (up 6) (λ a. two_at w₀ (next_at a)) at (two_at w₀ (next_at at)) rest
      one = walk_on (Stood w₀) (up 6) (λ a. two_at w₀ (next_at a)) c.below at c.left c.walk ne

      tree_here : Is w at (at + size_of one.0) (tree_bytes one.0)
      tree_here = let l = one.3.above in is_beyond index_at one.3.stands c.grows.kept c.grows.same (omega arith)

      ends : field_end w at ≡ at + size_of one.0
      ends = tree_end one.0 tree_here

      fits : f.to + size_of one.0 + length (array_trees (elements one.1)) ≤ trees_max
      fits = omega (arith, c.room, ap (λ r. length (array_trees (elements r))) one.2, length_cons one.0 (elements one.1))

      pub copying_places : (base ≤ at) × (at + 6 ≤ field_end w at) × (field_end w at ≤ length w) × (at ≤ base + trees_max) × (length w ≡ work_min)
          × (f.to + (field_end w at - at) ≤ trees_max)
      copying_places =
          let s = one.3 in
          let e = ends in
          let k = six one.0 in
          let i = tree_here.inside in
          let u = s.within in
          let r = fits in
          (s.above, omega arith, omega arith, omega arith, c.grows.same ∙ l.room.size, omega arith)

      pub copying_room : Room w f (field_end w at - at)
      copying_room = let p = copying_places in record { size = p.4; sparse = c.grows.sparse l.room.sparse; fits = p.5 }

      pub copying_tree : HoldsAt tree_bytes w (span at (field_end w at))
      copying_tree = record { value = one.0; value_is = subst (λ e. Is w at e (tree_bytes one.0)) (sym ends) tree_here }

      module _ {m : ℕ} {v : List ℕ} {r : Reached} (z : m ≡ field_end w at) (p : Placed w v (span at m) n f r) where
        placed : Grows w v f r ((n, one.0) ∷ [])
        placed = p one.0 (subst (λ e. Is w at e (tree_bytes one.0)) (sym (z ∙ ends)) tree_here)

        pub grown : r.to ≡ f.to + (m - at)
        grown = omega (arith, placed.to_is, length_cons one.0 [], length_none, ends)

        pub copying_next : {b : ℕ} → b ≡ two_at v (next_at at) → Copying w₀ x f₀ l v r 0 b
        unfolding headed
        copying_next {b} y =
            let a = one.3.above in
            let next : two_at w₀ (next_at at) ≡ b = sym (two_above w₀ v index_at (placed.kept ∙ c.grows.kept) (next_at at) (omega arith)) ∙ sym y in
            record {
              done = c.done ++ ((n, one.0) ∷ []);
              grows = grows_then c.grows placed;
              left = one.1;
              below = at;
              walk = subst (λ o. Walk (Stood w₀) (up 6) (λ a. two_at w₀ (next_at a)) at o one.1) next one.5;
              whole = append_assoc c.done ((n, one.0) ∷ []) (headed 0 (elements one.1))
                  ∙ ap (λ r. c.done ++ headed n (elements r)) (sym one.2) ∙ c.whole;
              room = omega (arith, fits, grown, ends);
              small = omega arith;
            }
