-- Laws of building: a part that was written and added, and a value that was placed.
use Rattle.std.proofs.Math.Path.{◌≡◌, refl, subst}
use Rattle.std.proofs.Common.{sym, ap, ◌∙◌, arith}
use Rattle.std.specs.Prelude.{List, [], ◌∷◌, ℕ, ◌+◌, ◌*◌, ◌≤◌, ◌<◌, take, drop, Some, None, Err, Ok as At}
use Rattle.std.proofs.Math.Option.{Option}
use Rattle.std.proofs.Math.ListN.{length}
use Rattle.std.proofs.lemmas.Bool.{lt-leb}
use Rattle.areas.specs.declared.span.Span.{Span}
use Rattle.spec_trees.specs.Limits.{tree_max, work_min}
use Rattle.spec_trees.specs.Tree.{Tree, bare_void, trees}
use Rattle.spec_trees.specs.Size.{size, root_size, fits}
use Rattle.spec_trees.specs.SizeLaws.{length_tree}
use Rattle.spec_trees.specs.Bytes.{tree_bytes}
use Rattle.spec_trees.specs.Within.{Ok}
use Rattle.areas.specs.Area.{Is, span, Wrote, too_large, Out}
use Rattle.areas.specs.AreaLaws.{take_less, drop_more, is_keep, wrote_keep, written}
use Rattle.spec_trees.specs.OptionLaws.{true_T, T_and}
use Rattle.format.specs.Stand.{trees_bytes, Behind}
use Rattle.format.specs.HeadedLaws.{headed_large}
use Rattle.spec_queries.specs.Rules.{OkP⁺}
use Rattle.queries.specs.Places.{path_bytes, OkAt}
use Rattle.queries.specs.Steps.{step_count}
use Rattle.spec_stages.specs.Project.{placed}
use Rattle.spec_stages.specs.Merge.{merge, build}
use Rattle.spec_stages.proofs.KeepLaws.{merge_ok, fits_allowed}
use Rattle.build.specs.Build.{Standing, Addable, Added}
use Rattle.build.specs.BuildLaws.{added_next, added_large, standing_keep, standing_written}
use Rattle.data.specs.Value.{Value}
use Rattle.place.specs.Writers.{Along}
use Rattle.place.specs.Place.{Placed, place_bytes, place_room, room_at}
use Rattle.place.specs.PlaceLaws.{room_all, room_small, length_place, placed_tree, place_bytes_lem}
use Rattle.build.specs.Made.{Made, Adding, AddedAt, Adds, ValueReady, PlacesValue}

-- ---- the bare void tree, with which a build begins
void_size : size bare_void ≡ 6
unfolding size root_size
void_size = refl

pub begun : {w u : List ℕ} {s : ℕ} {r : Out} → Wrote w u s (s + tree_max) (tree_bytes bare_void) r → Wrote w u s (s + tree_max) (tree_bytes bare_void) (At (s + 6))
begun {w} {u} {s} {r} h =
    let l : length (tree_bytes bare_void) ≡ 6 = length_tree bare_void ∙ void_size in
    subst (λ o. Wrote w u s (s + tree_max) (tree_bytes bare_void) o) (go r refl l) h
  where
    go : (o : Out) → r ≡ o → length (tree_bytes bare_void) ≡ 6 → r ≡ At (s + 6)
    go (At e) z l = z ∙ ap At ((h.fits e z).ends ∙ ap (λ n. s + n) l)
    go (Err _) z l = absurd (omega (arith, (h.large z).over))

-- ---- a part
module _ {w : List ℕ} {s se : ℕ} {r : Out} (h : Adding w (span s se) r) where
  pub adding_ready : {e : ℕ} → r ≡ At e → Addable w (span s se) (span (s + tree_max) e)
  adding_ready {e} z = record {
    whole = h.whole;
    part = h.part e z;
    above = h.within;
    part_room = h.part_room e z;
    room = omega (arith, h.part_room e z, h.room);
    small = h.small;
  }

  -- it was added
  pub adds_part : {x : List ℕ} {e : ℕ} {o : Out} → r ≡ At e → Added w x (span s se) (span (s + tree_max) e) o → Adds w x (span s se) r o
  adds_part {x} {e} {o} z k u a b l oa ob ha hb =
      let keep : take (s + tree_max) w ≡ take (s + tree_max) u = wrote_keep hb (omega (arith, h.room)) in
      let ends = (hb.fits e z).ends in
      let room = (hb.fits e z).room in
      let p = k a b oa ob (is_keep ha keep h.within) (written hb (omega (arith, h.room)) z) in
      record {
        fit = p.fit;
        merge_is = p.merge_is;
        ends = p.ends;
        large = p.large;
        below = p.below ∙ take_less u w s (s + tree_max) (omega arith) keep;
        beyond = λ top t. p.beyond top (omega arith) ∙ drop_more u w e top (omega arith) (hb.fits e z).beyond;
      }

  -- it is too large
  pub adds_none : r ≡ Err too_large → Adds w w (span s se) r (Err too_large)
  unfolding fits
  adds_none z u a b l oa ob ha hb =
      let g = hb.large z in
      let big : tree_max < size b = omega (arith, g.over, length_tree b) in
      record {
        fit = λ e q. let y : ◌≡◌ {A = ℕ} 0 1 = cc in absurd (omega arith);
        merge_is = λ e q. let y : ◌≡◌ {A = ℕ} 0 1 = cc in absurd (omega arith);
        ends = λ e q. let y : ◌≡◌ {A = ℕ} 0 1 = cc in absurd (omega arith);
        large = λ q. rw (lt-leb (size b) tree_max big) refl;
        below = take_less u w s (s + tree_max) (omega arith) g.below;
        beyond = λ top t. drop_more u w (s + tree_max + tree_max) top (omega arith) g.beyond;
      }

-- ---- a value that is placed
module _ {w q : List ℕ} {p : Span} {d stop : ℕ} {r : Value} (h : ValueReady w q p (span d stop) r) where
  pub placing_behind : {f : ℕ} → r ≡ At (Some f) → Behind w (d + room_at q p (step_count q p)) (At f)
  placing_behind {f} z g k = let y : f ≡ g = cc in omega (arith, h.behind f z)

  pub places_none : {x : List ℕ} {o : Out} → r ≡ At None → Wrote w x d stop (tree_bytes bare_void) o → PlacesValue w x q p (span d stop) r o
  unfolding placed
  places_none {x} {o} z k u path y l hp n g =
      let a = g.absent z in
      subst (λ y2. Wrote u x d stop (tree_bytes (placed path y2)) o) (sym a.0) (subst (λ u2. Wrote u2 x d stop (tree_bytes bare_void) o) a.1 k)

  pub places_at : {x : List ℕ} {f : ℕ} {o : Out} → r ≡ At (Some f) → Placed w x q p d (At f) o → PlacesValue w x q p (span d stop) r o
  unfolding placed
  places_at {x} {f} {o} z k u path y l hp n g =
      let a = g.fits f z in
      let b : d + place_room path ≤ length u = omega (arith, h.room, h.inside, room_all path hp) in
      subst (λ y2. Wrote u x d stop (tree_bytes (placed path y2)) o) (sym a.same) (placed_tree path a.array n k hp b a.wrote)

  pub places_large : r ≡ Err too_large → PlacesValue w w q p (span d stop) r (Err too_large)
  unfolding placed
  places_large z u path y l hp n g =
      let a = g.large z in
      let b : d + place_room path ≤ length u = omega (arith, h.room, h.inside, room_all path hp) in
      let k = headed_large (place_bytes path) (place_room path) {w = w} {d = d} (length_place path) refl in
      subst (λ y2. Wrote u w d stop (tree_bytes (placed path y2)) (Err too_large)) (sym a.same)
      (subst (λ l2. Wrote u w d stop l2 (Err too_large)) (sym (place_bytes_lem path a.array n)) (k.wrote u stop (trees_bytes (trees a.array)) b a.wrote))

-- ---- a path that is placed along
pub target_along : {q : List ℕ} {p : Span} → OkAt OkP⁺ path_bytes q p → Along q p
target_along h = record { path = h.value; path_is = h.value_is; allowed = h.allowed.0 }

-- the heads take at most 112 bytes
pub target_room : {q : List ℕ} {p : Span} → OkAt OkP⁺ path_bytes q p → room_at q p (step_count q p) ≤ 112
target_room {q} {p} h = room_small (target_along h) (step_count q p) (omega arith)

-- ---- what was made, part by part

-- what was changed before, between s and three rooms above it, does not matter
pub made_after : {w w2 u : List ℕ} {s : ℕ} {x : Option Tree} {r : Out} → take s w2 ≡ take s w → drop (s + 3 * tree_max) w2 ≡ drop (s + 3 * tree_max) w
    → Made w2 u s x r → Made w u s x r
made_after a b h = record { tree_is = h.tree_is; large = h.large; below = h.below ∙ a; beyond = h.beyond ∙ b }

-- no part is left
pub made_done : {w : List ℕ} {s se : ℕ} (x : Tree) → Is w s se (tree_bytes x) → Made w w s (build x []) (At se)
unfolding build
made_done {w} {s} {se} x h = record {
  tree_is = λ e q. let z : se ≡ e = cc in record { tree = x; same = refl; stands = subst (λ n. Is w s n (tree_bytes x)) z h };
  large = λ q. let y : ◌≡◌ {A = ℕ} 0 1 = cc in absurd (omega arith);
  below = refl;
  beyond = refl;
}

module _ {w w2 : List ℕ} {s : ℕ} {x y : Tree} {o : Out} (h : AddedAt w w2 s x y o) (ts : List Tree) where
  -- a part was added, and then the others
  pub made_next : {e : ℕ} {u : List ℕ} {r : Out} → o ≡ At e → Made w2 u s (build (merge x y) ts) r → Made w u s (build x (y ∷ ts)) r
  made_next {e} {u} {r} q k =
      subst (λ z. Made w u s z r) (sym (added_next h ts q)) (made_after h.below (h.beyond (s + 3 * tree_max) (omega arith)) k)

  -- a part was too large
  pub made_stop : o ≡ Err too_large → Made w w2 s (build x (y ∷ ts)) (Err too_large)
  made_stop q = record {
    tree_is = λ e z. let y : ◌≡◌ {A = ℕ} 0 1 = cc in absurd (omega arith);
    large = λ z. added_large h ts q;
    below = h.below;
    beyond = h.beyond (s + 3 * tree_max) (omega arith);
  }

-- of one part
pub made_one : {w u : List ℕ} {s : ℕ} {x y : Tree} {o : Out} → AddedAt w u s x y o → Made w u s (build x (y ∷ [])) o
made_one {w} {u} {s} {x} {y} {o} h = go o refl
  where
    go : (r : Out) → o ≡ r → Made w u s (build x (y ∷ [])) o
    go (At e) q = subst (λ r. Made w u s (build x (y ∷ [])) r) (sym q) (made_next h [] q (made_done (merge x y) (h.merge_is e q)))
    go (Err _) q = subst (λ r. Made w u s (build x (y ∷ [])) r) (sym q) (made_stop h [] q)

-- the tree so far, with the part that was added
module _ {w u : List ℕ} {s e : ℕ} {x y : Tree} {o : Out} (h : AddedAt w u s x y o) (ox : Ok x) (oy : Ok y) (q : o ≡ At e) where
  pub added_whole : Standing u (span s e)
  added_whole = record { tree = merge x y; ok = merge_ok x y ox oy; tree_is = h.merge_is e q }

  pub added_within : e ≤ s + tree_max
  added_within =
      let f = fits_allowed (merge x y) (merge_ok x y ox oy) (T_and (fits y) (fits (merge x y)) (true_T (h.fit e q))).1 in
      omega (arith, h.ends e q, f.small)

-- what is asked before a part that was written is added
pub part_adding : {w u : List ℕ} {s se : ℕ} {r : Out} (y : Tree) → Ok y → Standing w (span s se) → se ≤ s + tree_max → s + 3 * tree_max ≤ length w → length w ≤ work_min
    → length u ≡ length w → Wrote w u (s + tree_max) (s + tree_max + tree_max) (tree_bytes y) r → Adding u (span s se) r
part_adding {w} {u} {s} {se} {r} y oy h a b c l k = record {
  whole = standing_keep h (wrote_keep k (omega arith)) a;
  within = a;
  part = λ e q. standing_written y oy (omega arith) k q;
  part_room = λ e q. (k.fits e q).room;
  room = omega arith;
  small = omega arith;
}
