-- Laws of lookup: the joined trees that match, one by one, and their place, added to the tree.
use Rattle.std.specs.Prelude.{◌≡◌, List, [], ◌∷◌, ◌++◌, Bool, true, false, cond, ℕ, ◌+◌, ◌-◌, ◌≤◌, length, take, drop, Some, Ok as At, Err}
use Rattle.std.proofs.Math.Path.{refl, ap, subst}
use Rattle.std.proofs.Common.{sym, ◌∙◌, arith}
use Rattle.std.proofs.Math.Option.{some}
use Rattle.spec_trees.specs.Limits.{tree_max, depth_max}
use Rattle.spec_trees.specs.Lists.{All, filter}
use Rattle.spec_trees.specs.ListLaws.{All-imply}
use Rattle.spec_trees.specs.Tree.{Tree}
use Rattle.spec_trees.specs.SizeLaws.{length_tree}
use Rattle.spec_trees.specs.Bytes.{bytes, tree_fs, tree_bytes}
use Rattle.spec_trees.specs.Within.{Ok, Allowed, AllowedA}
use Rattle.areas.specs.Area.{Is, Wrote, field_end, IsAt, span, Out, too_large}
use Rattle.areas.specs.AreaLaws.{is_part_lem, is_keep, wrote_none, wrote_fail, wrote_seq, wrote_keep}
use Rattle.spec_queries.specs.Query.{Path, Route}
use Rattle.spec_queries.specs.Rules.{OkP⁺}
use Rattle.queries.specs.Places.{path_bytes, route_bytes, array_trees}
use Rattle.queries.specs.declared.stage.LookupAt.{LookupAt}
use Rattle.queries.specs.TreesLaws.{array_parts, array_none}
use Rattle.queries.specs.Steps.{step_count}
use Rattle.spec_stages.proofs.KeepLaws.{partners_ok}
use Rattle.spec_stages.specs.Project.{place_at, placed}
use Rattle.spec_stages.specs.Lookup.{matches, partners, looked}
use Rattle.paths.specs.Walk.{given}
use Rattle.paths.specs.ComparedLaws.{trees_append, one_bytes}
use Rattle.lookup.specs.Matching.{JoinsIs}
use Rattle.place.specs.Place.{place_room, room_at}
use Rattle.place.specs.PlaceLaws.{room_all}
use Rattle.build.specs.Build.{Standing}
use Rattle.data.specs.Value.{Value, WroteFound, value_of}
use Rattle.data.specs.ValueLaws.{value_array}
use Rattle.build.specs.Made.{Adding, Adds, ValueReady, PlacesValue}
use Rattle.lookup.specs.Lookup.{LookupReady, Looks, Matching, CopiesMatch, CopiesPartners}
use Rattle.build.specs.MadeLaws.{target_along, target_room, made_one, part_adding}

-- ---- the joined trees, one behind another

-- those that match: of the first, and of the rest
partners_first : (own other : Route) (y : Tree) (ys : List Tree) (t : Tree)
    → array_trees (partners own other (y ∷ ys) t) ≡ array_trees (partners own other (y ∷ []) t) ++ array_trees (partners own other ys t)
unfolding partners filter
partners_first own other y ys t =
    ap array_trees (go (matches own other t y)) ∙ trees_append (filter (matches own other t) (y ∷ [])) (filter (matches own other t) ys)
  where
    go : (b : Bool) → cond b (y ∷ filter (matches own other t) ys) (filter (matches own other t) ys) ≡ cond b (y ∷ []) [] ++ filter (matches own other t) ys
    go true = refl
    go false = refl

partners_none : (own other : Route) (t : Tree) → array_trees (partners own other [] t) ≡ []
unfolding partners filter bytes tree_fs
partners_none own other t = refl

partner_yes : (own other : Route) (y t : Tree) → matches own other t y ≡ true → array_trees (partners own other (y ∷ []) t) ≡ tree_bytes y
unfolding partners filter given
partner_yes own other y t q = ap (λ b. array_trees (cond b (y ∷ []) [])) q ∙ sym (one_bytes y)

partner_no : (own other : Route) (y t : Tree) → matches own other t y ≡ false → array_trees (partners own other (y ∷ []) t) ≡ []
unfolding partners filter bytes tree_fs
partner_no own other y t q = ap (λ b. array_trees (cond b (y ∷ []) [])) q

-- ---- one joined tree
module _ {w q : List ℕ} (at : LookupAt) {a b : ℕ} {j : List ℕ} {x xe d stop : ℕ} where
  module _ {o : Bool} (k : JoinsIs q at.own at.theirs w (span a b) j (span x xe) o) where
    pub match_copied : {v : List ℕ} {r : Out} → o ≡ true → Wrote w v d stop (take (xe - x) (drop x j)) r → CopiesMatch w v q at (span a b) j (span x xe) (span d stop) r
    match_copied {v} {r} z m own other tree y ho hr ot ht oy hy =
        let e = k own other tree y ho hr ot ht oy hy in
        subst (λ l. Wrote w v d stop l r) (is_part_lem hy ∙ sym (partner_yes own other y tree (sym e ∙ z))) m

    pub match_left : o ≡ false → d ≤ stop → CopiesMatch w w q at (span a b) j (span x xe) (span d stop) (At d)
    match_left z l own other tree y ho hr ot ht oy hy =
        let e = k own other tree y ho hr ot ht oy hy in
        subst (λ l. Wrote w w d stop l (At d)) (sym (partner_no own other y tree (sym e ∙ z))) (wrote_none w d stop l)

-- ---- the joined trees, one by one
module _ {w q : List ℕ} (at : LookupAt) {a b : ℕ} {j : List ℕ} {x xe d stop : ℕ} where
  pub partners_done : x ≡ xe → d ≤ stop → CopiesPartners w w q at (span a b) j (span x xe) (span d stop) (At d)
  partners_done z l own other tree ys ho hr ot ht oy hy =
      subst (λ n. Wrote w w d stop (array_trees (partners own other n tree)) (At d)) (sym (array_none ys z hy))
      (subst (λ n. Wrote w w d stop n (At d)) (sym (partners_none own other tree)) (wrote_none w d stop l))

  module _ {m : ℕ} (n : x ≡ xe → ⊥) (z : m ≡ field_end j x) where
    module _ (h : Matching AllowedA array_trees w q at (span a b) j (span x xe) (span d stop)) where
      pub partners_places : (x + 3 ≤ m) × (m ≤ xe) × (xe ≤ length j)
      partners_places = let c = array_parts h.joined.value z n h.joined.value_is in (omega (arith, c.after), c.within, h.joined.value_is.inside)

      pub partners_match : Matching (Allowed depth_max) tree_bytes w q at (span a b) j (span x m) (span d stop)
      partners_match =
          let c = array_parts h.joined.value z n h.joined.value_is in
          record {
            own = h.own;
            other = h.other;
            tree = h.tree;
            joined = record { value = c.first; allowed = (subst AllowedA c.same h.joined.allowed).0; value_is = c.first_is };
            below = h.below;
            room = h.room;
            area = h.area;
          }

      pub partners_rest : {v : List ℕ} {o : Out} {e : ℕ} → CopiesMatch w v q at (span a b) j (span x m) (span d stop) o → o ≡ At e → length v ≡ length w
          → Matching AllowedA array_trees v q at (span a b) j (span m xe) (span e stop)
      partners_rest {v} {o} {e} k y l =
          let c = array_parts h.joined.value z n h.joined.value_is in
          let oj = subst AllowedA c.same h.joined.allowed in
          let tr = h.tree in
          let i = k h.own.value h.other.value tr.value c.first h.own.value_is h.other.value_is tr.allowed tr.value_is oj.0 c.first_is in
          let p = i.fits e y in
          record {
            own = h.own;
            other = h.other;
            tree = record { value = tr.value; allowed = tr.allowed; value_is = is_keep tr.value_is (wrote_keep i (omega (arith, h.room, h.area))) h.below };
            joined = record { value = c.rest; allowed = oj.1; value_is = c.rest_is };
            below = omega (arith, h.below, p.ends);
            room = p.room;
            area = omega (arith, h.area);
          }

    module _ {v : List ℕ} {o : Out} (k : CopiesMatch w v q at (span a b) j (span x m) (span d stop) o) where
      pub partners_stop : o ≡ Err too_large → CopiesPartners w v q at (span a b) j (span x xe) (span d stop) (Err too_large)
      partners_stop y own other tree ys ho hr ot ht oy hy =
          let c = array_parts ys z n hy in
          let oj = subst AllowedA c.same oy in
          let i = k own other tree c.first ho hr ot ht oj.0 c.first_is in
          subst (λ l. Wrote w v d stop (array_trees (partners own other l tree)) (Err too_large)) (sym c.same)
          (subst (λ l. Wrote w v d stop l (Err too_large)) (sym (partners_first own other c.first c.rest tree))
          (wrote_fail i (array_trees (partners own other c.rest tree)) y))

      pub partners_next : {e : ℕ} → b ≤ d → d ≤ length w → o ≡ At e → (v2 : List ℕ) (r : Out)
          → CopiesPartners v v2 q at (span a b) j (span m xe) (span e stop) r → CopiesPartners w v2 q at (span a b) j (span x xe) (span d stop) r
      partners_next {e} l l2 y v2 r k2 own other tree ys ho hr ot ht oy hy =
          let c = array_parts ys z n hy in
          let oj = subst AllowedA c.same oy in
          let i = k own other tree c.first ho hr ot ht oj.0 c.first_is in
          subst (λ l. Wrote w v2 d stop (array_trees (partners own other l tree)) r) (sym c.same)
          (subst (λ l. Wrote w v2 d stop l r) (sym (partners_first own other c.first c.rest tree))
          (wrote_seq i l2 y (k2 own other tree c.rest ho hr ot (is_keep ht (wrote_keep i l2) l) oj.1 c.rest_is)))

-- ---- the place of those that match, added to the tree
value_at : {e : ℕ} (r : Out) → value_of r ≡ At (Some e) → r ≡ At e
value_at (At e) q = cc
value_at (Err _) q = let y : ◌≡◌ {A = ℕ} 0 1 = cc in absurd (omega arith)

tree_within : {w : List ℕ} {a b : ℕ} (t : Tree) → Allowed depth_max t → Is w a b (tree_bytes t) → b ≤ a + tree_max
tree_within t o h = omega (arith, h.ends, length_tree t, o.small)

all_ok : (ts : List Tree) → AllowedA ts → All Ok ts
all_ok ts o = All-imply (Allowed depth_max) Ok (λ t p. p.ok) ts o

module _ {w q : List ℕ} {at : LookupAt} {a b : ℕ} {j : List ℕ} {x xe : ℕ} (k : LookupReady w q at (span a b) j (span x xe)) where
  module _ {n : ℕ} (z : n ≡ room_at q at.target (step_count q at.target)) where
    pub lookup_matching : Matching AllowedA array_trees w q at (span a b) j (span x xe) (span (a + tree_max + n) (a + tree_max + tree_max))
    lookup_matching =
        let m = target_room k.target in
        let l = tree_within k.tree.value k.tree.allowed k.tree.value_is in
        record {
          own = k.own;
          other = k.other;
          tree = k.tree;
          joined = k.joined;
          below = omega arith;
          room = omega arith;
          area = omega (arith, k.room);
        }

    module _ {w2 : List ℕ} {r : Out} (l : length w2 ≡ length w) (c : CopiesPartners w w2 q at (span a b) j (span x xe) (span (a + tree_max + n) (a + tree_max + tree_max)) r) where
      -- whatever stands there
      lookup_copied : Wrote w w2 (a + tree_max + n) (a + tree_max + tree_max) (array_trees (partners k.own.value k.other.value k.joined.value k.tree.value)) r
      lookup_copied =
          c k.own.value k.other.value k.tree.value k.joined.value k.own.value_is k.other.value_is
          k.tree.allowed k.tree.value_is k.joined.allowed k.joined.value_is

      pub lookup_value : {s : Value} → s ≡ value_of r → ValueReady w2 q at.target (span (a + tree_max) (a + tree_max + tree_max)) s
      lookup_value {s} y =
          let m = target_room k.target in
          record {
            along = target_along k.target;
            room = omega arith;
            inside = omega (arith, k.room);
            small = omega (arith, k.small);
            behind = λ e i. let p = lookup_copied.fits e (value_at r (sym y ∙ i)) in (omega (arith, p.ends), omega (arith, p.room, k.room));
          }

      module _ {s : Value} (y : s ≡ value_of r) {w3 : List ℕ} {o : Out} (l3 : length w3 ≡ length w2) (p : PlacesValue w2 w3 q at.target (span (a + tree_max) (a + tree_max + tree_max)) s o) where
        lookup_placed : (own other : Route) (target : Path) (tree : Tree) (joined : List Tree) → IsAt q at.own (route_bytes own) → IsAt q at.theirs (route_bytes other) → OkP⁺ target → IsAt q at.target (path_bytes target)
            → Allowed depth_max tree → Is w a b (tree_bytes tree) → AllowedA joined → Is j x xe (array_trees joined)
            → Wrote w w3 (a + tree_max) (a + tree_max + tree_max) (tree_bytes (place_at target (partners own other joined tree))) o
        unfolding placed
        lookup_placed own other target tree joined h1 h2 o3 h3 o4 h4 o5 h5 =
            let ps = partners own other joined tree in
            let i : a + tree_max + n ≡ a + tree_max + place_room target = ap (λ m. a + tree_max + m) (z ∙ room_all target h3) in
            let e = subst (λ m. Wrote w w2 m (a + tree_max + tree_max) (array_trees ps) r) i (c own other tree joined h1 h2 o4 h4 o5 h5) in
            p w target (some ps) (sym l) h3 o3.1
            (subst (λ s2. WroteFound w w2 (a + tree_max + place_room target) (a + tree_max + tree_max) (some ps) s2) (sym y) (value_array ps r refl e))

        pub lookup_adding : Adding w3 (span a b) o
        lookup_adding =
            let ps = partners_ok k.own.value k.other.value k.target.value k.joined.value k.target.allowed.0 (all_ok k.joined.value k.joined.allowed) k.tree.value in
            let st : Standing w (span a b) = record { tree = k.tree.value; ok = k.tree.allowed.ok; tree_is = k.tree.value_is } in
            part_adding (place_at k.target.value (partners k.own.value k.other.value k.joined.value k.tree.value)) ps st
            (tree_within k.tree.value k.tree.allowed k.tree.value_is) k.room k.small (l3 ∙ l)
            (lookup_placed k.own.value k.other.value k.target.value k.tree.value k.joined.value k.own.value_is k.other.value_is
            k.target.allowed k.target.value_is k.tree.allowed k.tree.value_is k.joined.allowed k.joined.value_is)

        pub lookup_made : {w4 : List ℕ} {o2 : Out} → Adds w3 w4 (span a b) o o2 → Looks w w4 q at (span a b) j (span x xe) o2
        unfolding looked
        lookup_made m own other target tree joined o1 h1 o2 h2 o3 h3 o4 h4 o5 h5 =
            made_one (m w tree (place_at target (partners own other joined tree)) (sym (l3 ∙ l)) o4.ok
            (partners_ok own other target joined o3.0 (all_ok joined o5) tree) h4
            (lookup_placed own other target tree joined h1 h2 o3 h3 o4 h4 o5 h5))
