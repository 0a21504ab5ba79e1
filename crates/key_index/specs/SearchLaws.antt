-- Laws of the search for the last tree with the same key: it goes back along the trees of one slot.
use Rattle.std.specs.Prelude.{◌≡◌, List, [], ◌∷◌, ◌++◌, reverse, Bool, true, false, ◌≢◌, ℕ, ◌+◌, ◌%◌, ◌≤◌, ◌<◌, length, eqb, Some, None}
use Rattle.std.proofs.Common.{sym, ap, subst, ◌∙◌, arith}
use Rattle.spec_trees.specs.Limits.{work_min}
use Rattle.spec_trees.specs.Tree.{Tree}
use Rattle.spec_trees.specs.Bytes.{tree_bytes}
use Rattle.areas.specs.Area.{Is, field_end, span}
use Rattle.areas.specs.declared.span.Span.{Span}
use Rattle.areas.specs.Number.{two_at}
use Rattle.spec_queries.specs.Query.{Pair}
use Rattle.queries.specs.TreesLaws.{six}
use Rattle.queries.specs.Places.{pairs_bytes, HoldsAt}
use Rattle.spec_stages.specs.Group.{alike}
use Rattle.spec_stages.proofs.AlikeLaws.{alike_equivalence}
use Rattle.keys.specs.Keys.{AlikeIs}
use Rattle.keys.specs.KeyHashLaws.{hash_alike}
use Rattle.map.specs.Map.{trees_max}
use Rattle.key_index.specs.Links.{Spot, end, down, Rising, passing, first_of, Walk}
use Rattle.key_index.specs.LinksLaws.{search}
use Rattle.key_index.specs.IndexLaws.{index_walk, walk_down, rising_behind, search_ended, search_on}
use Rattle.key_index.specs.Index.{base, back_at, slots, size_of, standing, slot, Entering}
use Rattle.key_index.specs.Entering.{Search, last_like, Noted, Stood, Searching}
use Rattle.key_index.specs.StandingLaws.{end_is, tree_end, all_stood}

-- what a number speaks of: no tree, or that tree
pub noted_none : {n : ℕ} → 0 ≡ n → Noted None n
noted_none z = record { missing = λ e. sym z; there = λ y e. absurd (cc) }

pub noted_some : {x n : ℕ} → x ≡ n → x ≢ 0 → Noted (Some x) n
noted_some {x} {n} z k = record {
  missing = λ e. absurd (cc);
  there = λ y e. (cc, λ o. k (cc));
}

-- the number of a slot is below their count
pub slot_below : (gs : List Pair) (t : Tree) → slot gs t < slots
slot_below gs t = omega arith

-- trees that are alike have the same slot
slot_alike : (gs : List Pair) (t u : Tree) → alike gs t u ≡ true → slot gs t ≡ slot gs u
slot_alike gs t u e = ap (λ n. n % slots) (hash_alike gs t u e)

module _ {w q : List ℕ} {keys_at tree_at : Span} (e : Entering w q keys_at tree_at) where
  pub end_seen : end size_of base e.seen ≡ tree_at.from
  end_seen = end_is base e.seen ∙ sym e.seen_is.ends

  pub rising : Rising 6 0 (standing e.seen ++ ((tree_at.from, e.tree) ∷ []))
  rising =
      subst (λ b. Rising 6 0 (standing e.seen ++ ((b, e.tree) ∷ []))) end_seen
      (rising_behind (alike e.grouping) (alike_equivalence e.grouping) size_of 6 (omega arith) six base (omega arith) e.seen e.tree)

  pub places : (base ≤ tree_at.from) × (tree_at.from + 6 ≤ tree_at.to) × (tree_at.to ≤ base + trees_max) × (length w ≡ work_min)
  places = (omega (arith, e.seen_is.ends), omega (arith, e.tree_is.ends, six e.tree), e.high, e.size)

  pub keys_stand : HoldsAt pairs_bytes q keys_at
  keys_stand = record { value = e.grouping; value_is = e.grouping_is }

  pub tree_stands : HoldsAt tree_bytes w tree_at
  tree_stands = record { value = e.tree; value_is = e.tree_is }

abbrev pub At : {w q : List ℕ} {keys_at tree_at : Span} {last : ℕ} → Search w q keys_at tree_at last → ℕ → Type 0
At {w = w} s at = Searching w s.entering.grouping s.entering.seen s.entering.tree at

-- one tree of the search: it is the one, or the search goes on behind it
record One {w q : List ℕ} {keys_at tree_at : Span} {last : ℕ} (s : Search w q keys_at tree_at last) (at : ℕ) : Type 0 where
  other : Tree
  others : List (Spot Tree)
  stood : Stood w (at, other)
  walk : Walk (Stood w) (down 6) (λ a. two_at w (back_at a)) at (two_at w (back_at at)) others
  same : alike s.entering.grouping other s.entering.tree ≡ true → last_like s.entering.grouping s.entering.seen s.entering.tree ≡ at
  differs : alike s.entering.grouping other s.entering.tree ≡ false
      → first_of (λ u. alike s.entering.grouping u s.entering.tree) others ≡ last_like s.entering.grouping s.entering.seen s.entering.tree

module _ {w q : List ℕ} {keys_at tree_at : Span} {last : ℕ} (s : Search w q keys_at tree_at last) where
  pub search_begin : At s last
  search_begin =
      let e = s.entering in
      let gs = e.grouping in
      let l = places e in
      record {
        below = tree_at.from;
        left = passing (λ t. eqb (slot gs t) (slot gs e.tree)) (reverse (standing e.seen));
        walk =
            subst (λ o. Walk (Stood w) (down 6) (λ a. two_at w (back_at a)) tree_at.from o (passing (λ t. eqb (slot gs t) (slot gs e.tree)) (reverse (standing e.seen))))
            (sym s.last_is)
            (index_walk (alike gs) (alike_equivalence gs) (slot gs) slots 6 (standing e.seen) e.tree (slot_below gs e.tree) _ _ _ e.index.links
            (Stood w) (all_stood e.seen e.seen_ok e.seen_is (omega arith) (omega arith)) tree_at.from (rising e));
        rest = search (slot gs) (alike gs) (slot_alike gs) e.tree (reverse (standing e.seen));
      }

  positive : (r : Spot Tree) → Stood w r → 0 < r.0
  positive r h = omega (arith, h.above)

  module _ {at : ℕ} (h : At s at) where
    -- no tree is left
    pub search_none : at ≡ 0 → 0 ≡ last_like s.entering.grouping s.entering.seen s.entering.tree
    search_none z =
        sym (search_ended (Stood w) (down 6) (λ a. two_at w (back_at a)) h.below at h.left h.walk
        (λ u. alike s.entering.grouping u s.entering.tree) _ h.rest positive z)

    -- the tree at `at` is the next
    module _ (n : at ≢ 0) where
      one : One s at
      one =
          let (x, rest, t, r, k, found, passed) =
          search_on (Stood w) (down 6) (λ a. two_at w (back_at a)) h.below at h.left h.walk
          (λ u. alike s.entering.grouping u s.entering.tree) _ h.rest n
          in
          record { other = x; others = rest; stood = t; walk = k; same = found; differs = passed }

      pub other_places : (base ≤ at) × (field_end w at ≤ length w) × (at ≤ base + trees_max) × (length w ≡ work_min)
      other_places =
          let t = one.stood in
          (t.above, omega (arith, tree_end one.other t.stands, t.stands.inside), omega (arith, t.within), s.entering.size)

      pub other_stands : {b : ℕ} → b ≡ field_end w at → HoldsAt tree_bytes w (span at b)
      other_stands z = record { value = one.other; value_is = subst (λ b. Is w at b (tree_bytes one.other)) (sym (z ∙ tree_end one.other one.stood.stands)) one.stood.stands }

      pub goes_down : two_at w (back_at at) < at
      goes_down =
          let l = one.stood.above in
          walk_down (Stood w) 6 (λ a. two_at w (back_at a)) at (two_at w (back_at at)) one.others one.walk (omega arith) (omega arith)

      module _ {b : ℕ} {r : Bool} (z : b ≡ field_end w at) (k : AlikeIs q keys_at w (span at b) w tree_at r) where
        same_is : r ≡ alike s.entering.grouping one.other s.entering.tree
        same_is =
            let e = one.stood in
            k s.entering.grouping one.other s.entering.tree s.entering.grouping_is e.ok
            (subst (λ b. Is w at b (tree_bytes one.other)) (sym (z ∙ tree_end one.other e.stands)) e.stands) s.entering.tree_ok_lem s.entering.tree_is

        pub search_found : r ≡ true → at ≡ last_like s.entering.grouping s.entering.seen s.entering.tree
        search_found y = sym (one.same (sym same_is ∙ y))

        pub search_again : r ≡ false → At s (two_at w (back_at at))
        search_again y = record { below = at; left = one.others; walk = one.walk; rest = one.differs (sym same_is ∙ y) }
