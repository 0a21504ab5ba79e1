-- Laws of arranging the classes of a subset: the mark of each tree tells whether it begins one.
use Rattle.std.specs.Prelude.{◌≡◌, Bool, true, false, ◌&&◌, ℕ, ◌+◌, ◌-◌, ◌≤◌, ◌<◌}
use Rattle.std.proofs.Math.Path.{refl, ap, subst}
use Rattle.std.proofs.Common.{sym, ◌∙◌, arith, eq-eqb, ne_eqb}
use mathlib.Core.List.{List, [], ◌∷◌, ◌++◌, append-nil, append_assoc}
use Rattle.std.proofs.Math.Bool.{not, and-true, and-false}
use Rattle.std.proofs.Math.ListN.{length}
use Rattle.std.proofs.Math.Dec.{eqb}
use Rattle.spec_trees.specs.Limits.{work_min}
use Rattle.spec_trees.specs.OptionLaws.{both_true}
use Rattle.spec_trees.specs.Lists.{All, all, filter, gather}
use Rattle.spec_trees.specs.Tree.{Tree}
use Rattle.spec_trees.specs.Within.{AllowedA}
use Rattle.areas.specs.Area.{Is, field_end}
use Rattle.areas.specs.AreaLaws.{is_beyond}
use Rattle.areas.specs.Number.{two_at}
use Rattle.spec_queries.specs.Query.{Pair}
use Rattle.queries.specs.Places.{array_trees}
use Rattle.queries.specs.TreesLaws.{ArrayParts, array_parts, array_none, six, length_cons, length_none}
use Rattle.spec_stages.specs.Group.{key, alike, sum, Class}
use Rattle.spec_stages.specs.Classes.{unlike, begins, scan}
use Rattle.spec_stages.specs.Flat.{members, flat}
use Rattle.spec_stages.proofs.AlikeLaws.{alike_equivalence}
use Rattle.spec_stages.specs.Positions.{unmarked, origin}
use Rattle.map.specs.Map.{trees_max, position_at}
use Rattle.key_index.specs.declared.front.Reached.{Reached}
use Rattle.key_index.specs.Links.{Spot, spots, end, elements, up, passing, Walk}
use Rattle.key_index.specs.SpotsLaws.{spots_append, spots_elements}
use Rattle.key_index.specs.IndexLaws.{class_walk, class_elements}
use Rattle.key_index.specs.Index.{base, next_at, mark_at, subsets_max, count_at, size_of, standing, mark, Marks, Index}
use Rattle.key_index.specs.Entering.{Stood}
use Rattle.arrange.specs.Arrange.{headed, arranged, index_at, Grows, Following, Follows, Subset}
use Rattle.key_index.specs.StandingLaws.{end_is, all_stood}
use Rattle.arrange.specs.KeptLaws.{index_kept}
use Rattle.positions.specs.BearingLaws.{bears_beyond}
use Rattle.arrange.specs.OriginLaws.{origin_stands}
use Rattle.arrange.specs.FrontLaws.{length_both, headed_trees, arranged_behind, grows_none, grows_then}
use Rattle.key_index.specs.EnteringLaws.{sum_small}

-- ---- the mark tells whether a tree begins a class of the subset
mark_begins : (m k : ℕ) (first : Bool) → m < subsets_max → k < subsets_max → eqb (mark m first) k ≡ (eqb m k && first)
unfolding mark
mark_begins m k true h l = sym (and-true (eqb m k))
mark_begins m k false h l = ne_eqb subsets_max k (λ z. omega arith) ∙ sym (and-false (eqb m k))

-- the mark of the tree behind ss
marks_behind : (gs : List Pair) (marks : ℕ → ℕ) (seen : List Tree) (ss rs : List (Spot Tree)) → Marks gs marks seen (ss ++ rs) → Marks gs marks (seen ++ elements ss) rs
marks_behind gs marks seen [] rs m = subst (λ l. Marks gs marks l rs) (sym (append-nil seen)) m
marks_behind gs marks seen (s ∷ ss) rs m =
    subst (λ l. Marks gs marks l rs) (append_assoc seen (s.1 ∷ []) (elements ss)) (marks_behind gs marks (seen ++ (s.1 ∷ [])) ss rs m.1)

-- ---- what is scanned, by whether the first tree begins a class
module _ (gs : List Pair) (m : ℕ) (seen : List Tree) (t : Tree) (ts : List Tree) where
  scan_yes : begins gs m seen t ≡ true → scan gs m seen (t ∷ ts) ≡ (t, filter (alike gs t) ts) ∷ scan gs m (seen ++ (t ∷ [])) ts
  unfolding scan
  scan_yes e = rw e refl

  scan_no : begins gs m seen t ≡ false → scan gs m seen (t ∷ ts) ≡ scan gs m (seen ++ (t ∷ [])) ts
  unfolding scan
  scan_no e = rw e refl

none_left : (cs : List Class) → length cs ≡ 0 → cs ≡ []
none_left [] z = refl
none_left (c ∷ cs) z = absurd (omega arith)

flat_cons : (c : Class) (cs : List Class) → flat (c ∷ cs) ≡ members c ++ flat cs
unfolding flat gather
flat_cons c cs = refl

-- the position of the first tree that has the key of t
abbrev pub position_in : {w : List ℕ} {n m : ℕ} {f : Reached} → Subset w n m f → Tree → ℕ
position_in s t = origin s.grouping t s.borne

-- ---- some trees were asked, and some are left, in which k classes begin
pub record Scanning (w₀ : List ℕ) (n m : ℕ) (f₀ : Reached) (s : Subset w₀ n m f₀) (w : List ℕ) (f : Reached) (at k : ℕ) : Type 0 where
  pub done : List Class
  pub grows : Grows w₀ w f₀ f (arranged (position_in s) done)
  pub seen : List Tree
  pub left : List Tree
  pub both : seen ++ left ≡ unmarked s.borne
  pub whole : done ++ scan s.grouping m seen left ≡ scan s.grouping m [] (unmarked s.borne)
  pub at_is : at ≡ base + length (array_trees seen)
  pub left_is : Is w at (base + n) (array_trees left)
  pub room : f.to + length (array_trees (flat (scan s.grouping m seen left))) ≤ trees_max
  pub count : k ≡ length (scan s.grouping m seen left)

module _ {w₀ : List ℕ} {n m : ℕ} {f₀ : Reached} (s : Subset w₀ n m f₀) where
  pub scanning_begin : {k : ℕ} → k ≡ two_at w₀ (count_at m) → Scanning w₀ n m f₀ s w₀ f₀ base k
  unfolding arranged gather
  scanning_begin z = record {
    done = [];
    grows = grows_none w₀ f₀;
    seen = [];
    left = unmarked s.borne;
    both = refl;
    whole = refl;
    at_is = omega (arith, length_none);
    left_is = s.trees_is;
    room = s.room.fits;
    count = z ∙ s.index.counts m s.below;
  }

  module _ {w : List ℕ} {f : Reached} {at k : ℕ} (c : Scanning w₀ n m f₀ s w f at k) where
    pub scanning_end : k ≡ 0 → Grows w₀ w f₀ f (arranged (position_in s) (scan s.grouping m [] (unmarked s.borne)))
    scanning_end z =
        subst (λ l. Grows w₀ w f₀ f (arranged (position_in s) l))
        (sym (append-nil c.done) ∙ ap (λ l. c.done ++ l) (sym (none_left _ (sym c.count ∙ z))) ∙ c.whole) c.grows

    module _ (more : k ≡ 0 → ⊥) {e : ℕ} (z : e ≡ field_end w at) where
      -- a class begins, so a tree is left
      ne : at ≡ base + n → ⊥
      unfolding scan
      ne y = more (c.count ∙ ap (λ l. length (scan s.grouping m c.seen l)) (array_none c.left y c.left_is))

      abbrev gs : List Pair
      gs = s.grouping

      abbrev parts : ArrayParts w at e (base + n) c.left
      parts = array_parts c.left z ne c.left_is

      trees_are : unmarked s.borne ≡ c.seen ++ (parts.first ∷ parts.rest)
      trees_are = sym c.both ∙ ap (λ l. c.seen ++ l) parts.same

      pub scanning_places : (base ≤ at) × (at + 6 ≤ e) × (e ≤ base + n) × (n ≤ trees_max) × (length w ≡ work_min)
      scanning_places = (omega (arith, c.at_is), parts.after, parts.within, s.short, c.grows.same ∙ s.room.size)

      at_end : end size_of base c.seen ≡ at
      at_end = end_is base c.seen ∙ sym c.at_is

      index_here : Index w gs (c.seen ++ (parts.first ∷ parts.rest))
      index_here = subst (Index w gs) trees_are (index_kept w₀ w c.grows.kept gs (unmarked s.borne) s.index)

      mark_here : two_at w (mark_at at) ≡ mark (sum (key gs parts.first)) (unlike gs c.seen parts.first)
      unfolding spots
      mark_here =
          let split_spots = spots_append size_of base c.seen (parts.first ∷ parts.rest) in
          let ms = marks_behind gs (λ a. two_at w (mark_at a)) [] (standing c.seen) _ (subst (Marks gs (λ a. two_at w (mark_at a)) []) split_spots index_here.marks) in
          ap (λ a. two_at w (mark_at a)) (sym at_end) ∙ ms.0 ∙ ap (λ l. mark (sum (key gs parts.first)) (unlike gs l parts.first)) (spots_elements size_of base c.seen)

      begins_is : eqb (two_at w (mark_at at)) m ≡ begins gs m c.seen parts.first
      unfolding begins unlike
      begins_is = ap (λ k. eqb k m) mark_here ∙ mark_begins (sum (key gs parts.first)) m (unlike gs c.seen parts.first) (sum_small gs parts.first s.few) s.below

      at_next : e ≡ base + length (array_trees (c.seen ++ (parts.first ∷ [])))
      at_next = omega (arith, c.at_is, length_both c.seen (parts.first ∷ []), length_cons parts.first [], length_none, parts.first_is.ends)

      -- the tree bears the position of its class, if it begins one
      position_here : unlike gs c.seen parts.first ≡ true → two_at w (position_at (at - base)) ≡ position_in s parts.first
      position_here u =
          let z : at - base ≡ 0 + length (array_trees c.seen) = omega (arith, c.at_is) in
          ap (λ i. two_at w (position_at i)) z
          ∙ sym (origin_stands w 0 gs s.borne c.seen parts.first parts.rest trees_are u
          (bears_beyond w₀ w index_at (omega arith) c.grows.kept 0 s.borne s.bears))

      both_next : (c.seen ++ (parts.first ∷ [])) ++ parts.rest ≡ unmarked s.borne
      both_next = append_assoc c.seen (parts.first ∷ []) parts.rest ∙ sym trees_are

      -- it begins no class of the subset
      pub scanning_passed : (two_at w (mark_at at) ≡ m → ⊥) → Scanning w₀ n m f₀ s w f e k
      scanning_passed other =
          let same = ap (scan gs m c.seen) parts.same ∙ scan_no gs m c.seen parts.first parts.rest (sym begins_is ∙ ne_eqb _ m other) in
          record {
            done = c.done;
            grows = c.grows;
            seen = c.seen ++ (parts.first ∷ []);
            left = parts.rest;
            both = both_next;
            whole = ap (λ l. c.done ++ l) (sym same) ∙ c.whole;
            at_is = at_next;
            left_is = parts.rest_is;
            room = subst (λ l. f.to + length (array_trees (flat l)) ≤ trees_max) same c.room;
            count = c.count ∙ ap length same;
          }

      module _ (it : two_at w (mark_at at) ≡ m) where
        abbrev class : Class
        class = (parts.first, filter (alike gs parts.first) parts.rest)

        begins_here : begins gs m c.seen parts.first ≡ true
        begins_here = sym begins_is ∙ eq-eqb _ m it

        first_here : unlike gs c.seen parts.first ≡ true
        unfolding begins unlike
        first_here = (both_true (eqb (sum (key gs parts.first)) m) (all (λ u. not (alike gs u parts.first)) c.seen) begins_here).1

        same : scan gs m c.seen c.left ≡ class ∷ scan gs m (c.seen ++ (parts.first ∷ [])) parts.rest
        same = ap (scan gs m c.seen) parts.same ∙ scan_yes gs m c.seen parts.first parts.rest begins_here

        room_both : f.to + length (array_trees (members class)) + length (array_trees (flat (scan gs m (c.seen ++ (parts.first ∷ [])) parts.rest))) ≤ trees_max
        room_both =
            let rest = scan gs m (c.seen ++ (parts.first ∷ [])) parts.rest in
            omega (arith, c.room, ap (λ l. length (array_trees (flat l))) same, ap (λ l. length (array_trees l)) (flat_cons class rest), length_both (members class) (flat rest))

        abbrev its_spots : List (Spot Tree)
        its_spots = (end size_of base c.seen, parts.first) ∷ passing (alike gs parts.first) (spots size_of (end size_of base c.seen + size_of parts.first) parts.rest)

        its_trees : elements its_spots ≡ members class
        its_trees = class_elements (alike gs) (alike_equivalence gs) size_of 6 (omega arith) six base (omega arith) c.seen parts.first parts.rest

        stood_here : All (Stood w) (standing (c.seen ++ (parts.first ∷ parts.rest)))
        stood_here =
            all_stood (c.seen ++ (parts.first ∷ parts.rest)) (subst AllowedA trees_are s.trees_ok_lem)
            (subst (λ l. Is w base (base + n) (array_trees l)) trees_are (is_beyond index_at s.trees_is c.grows.kept c.grows.same (omega arith)))
            (omega arith) (omega (arith, s.short))

        pub scanning_class : Following w at f
        scanning_class = record {
          some = λ z. omega (arith, scanning_places);
          left = its_spots;
          below = 0;
          walk =
              subst (λ o. Walk (Stood w) (up 6) (λ a. two_at w (next_at a)) 0 o its_spots) at_end
              (class_walk (alike gs) (alike_equivalence gs) size_of 6 (omega arith) six base (omega arith) c.seen parts.first parts.rest
              (λ a. two_at w (next_at a)) (Stood w) stood_here index_here.links.nexts);
          room = record {
            size = c.grows.same ∙ s.room.size;
            sparse = c.grows.sparse s.room.sparse;
            fits = omega (arith, room_both, ap (λ l. length (array_trees l)) its_trees);
          };
        }

        pub scanning_next : {v : List ℕ} {r : Reached} → Follows w v at f r → Scanning w₀ n m f₀ s v r e (k - 1)
        unfolding scanning_class
        scanning_next {v} {r} p =
            let copied = subst (λ l. Grows w v f r (headed (two_at w (position_at (at - base))) l)) its_trees (p scanning_class) in
            let g = subst (λ i. Grows w v f r (headed i (members class))) (position_here first_here) copied in
            let i = scanning_places in
            record {
              done = c.done ++ (class ∷ []);
              grows = subst (Grows w₀ v f₀ r) (sym (arranged_behind (position_in s) c.done class)) (grows_then c.grows g);
              seen = c.seen ++ (parts.first ∷ []);
              left = parts.rest;
              both = both_next;
              whole = append_assoc c.done (class ∷ []) (scan gs m (c.seen ++ (parts.first ∷ [])) parts.rest) ∙ ap (λ l. c.done ++ l) (sym same) ∙ c.whole;
              at_is = at_next;
              left_is = is_beyond index_at parts.rest_is g.kept g.same (omega arith);
              room = omega (arith, room_both, g.to_is, ap (λ l. length (array_trees l)) (headed_trees (position_in s parts.first) (members class)));
              count = omega (arith, c.count, ap length same);
            }
