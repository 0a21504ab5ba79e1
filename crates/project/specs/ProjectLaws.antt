-- Laws of project: what each kind of item writes, and the items added one by one.
use Rattle.std.specs.Prelude.{◌≡◌, List, map, ℕ, ◌+◌, ◌*◌, ◌≤◌, length, Ok, Err}
use Rattle.std.proofs.Math.Path.{refl, subst}
use Rattle.std.proofs.Common.{sym, ap, ◌∙◌, arith}
use Rattle.std.proofs.Math.ListN.{take}
use Rattle.spec_trees.specs.Limits.{tree_max, nest_max}
use Rattle.spec_trees.specs.Lists.{All}
use Rattle.spec_trees.specs.Tree.{bare_void}
use Rattle.spec_trees.specs.Bytes.{tree_bytes}
use Rattle.areas.specs.Area.{Wrote, field_end, span, Out, too_large}
use Rattle.areas.specs.declared.span.Span.{Span}
use Rattle.areas.specs.AreaLaws.{is_keep, drop_more, wrote_keep, written}
use Rattle.queries.specs.declared.item.ItemAt.{ItemAt}
use Rattle.spec_queries.specs.Query.{Item}
use Rattle.spec_queries.specs.Bytes.{item_f}
use Rattle.spec_queries.specs.Rules.{NestedD, OkI}
use Rattle.queries.specs.Places.{data_bytes, item_bytes, items_bytes, ReadsItem}
use Rattle.queries.specs.PartLaws.{list_parts, list_none, list_places, holds_of}
use Rattle.queries.specs.Steps.{step_count}
use Rattle.spec_stages.specs.Data.{value}
use Rattle.spec_stages.specs.Merge.{merge, build}
use Rattle.spec_stages.proofs.KeepLaws.{merge_ok, item_ok}
use Rattle.spec_stages.specs.Project.{item, projected}
use Rattle.build.specs.BuildLaws.{standing_void}
use Rattle.data.specs.Value.{Value, WroteFound}
use Rattle.data.specs.Write.{DataReady, Gives}
use Rattle.data.specs.WriteDataLaws.{ready_other}
use Rattle.place.specs.Writers.{WriterReady}
use Rattle.place.specs.Kept.{Keeps}
use Rattle.place.specs.Place.{place_room, room_at}
use Rattle.place.specs.PlaceLaws.{room_all}
use Rattle.build.specs.Made.{Made, Adding, Adds, ValueReady, PlacesValue}
use Rattle.project.specs.Project.{ProjectReady, Projects, PlaceReady, WritesPlace, ItemReady, WritesItem, Building, AddsItem, BuildsFrom}
use Rattle.build.specs.MadeLaws.{target_along, target_room, made_after, made_done, made_next, made_stop, added_whole, added_within, part_adding}

-- ---- the place of data
module _ {w q : List ℕ} {c ce : ℕ} {f : Span} {a b d stop n : ℕ} (h : PlaceReady w q (span c ce) f (span a b) (span d stop)) (z : n ≡ room_at q f (step_count q f)) where
  pub place_data : DataReady (NestedD nest_max) data_bytes q (span c ce) w (span a b) (span (d + n) stop)
  place_data =
      let r = h.ready in
      let m = target_room h.target in
      record {
        asked = r.asked;
        tree = r.tree;
        below = omega (arith, r.below);
        room = omega (arith, h.tree_room);
        area = r.area;
        small = r.small;
      }

  pub place_value_ready : {u : List ℕ} {o : Value} → length u ≡ length w → Gives (NestedD nest_max) data_bytes value q (span c ce) w u (span a b) (span (d + n) stop) o
      → ValueReady u q f (span d stop) o
  place_value_ready {u} {o} l k =
      let r = h.ready in
      let m = target_room h.target in
      let x = k r.asked.value r.tree.value r.asked.allowed r.asked.value_is r.tree.allowed r.tree.value_is in
      record {
        along = target_along h.target;
        room = omega (arith, h.tree_room);
        inside = omega (arith, r.area);
        small = omega (arith, r.small);
        behind = λ e y. let g = (x.fits e y).wrote.fits e refl in (omega (arith, g.ends), omega (arith, g.room, r.area));
      }

  pub place_written : {u u2 : List ℕ} {r : Value} {o : Out} → length u ≡ length w → Gives (NestedD nest_max) data_bytes value q (span c ce) w u (span a b) (span (d + n) stop) r
      → PlacesValue u u2 q f (span d stop) r o → WritesPlace w u2 q (span c ce) f (span a b) (span d stop) o
  place_written {u} {u2} {r} {o} l k p x path tree ox hx op hp ot ht =
      let y : d + n ≡ d + place_room path = ap (λ m. d + m) (z ∙ room_all path hp) in
      p w path (value x tree) (sym l) hp op.1 (subst (λ m. WroteFound w u m stop (value x tree) r) y (k x tree ox hx ot ht))

-- ---- an item, by its kind
module _ {w q : List ℕ} {p e a b d stop : ℕ} {r : ItemAt} (reads : ReadsItem q (span p e) r) where
  module _ (h : ItemReady w q (span p e) (span a b) (span d stop)) where
    abbrev here : Item
    here = h.ready.asked.value

    pub keep_ready : {f : Span} → r ≡ ItemAt.Keep f → WriterReady tree_bytes w q f 0 (span a b) (span d stop)
    keep_ready {f} z =
        let g = h.ready in
        let y = (reads here g.asked.value_is).keep_is f z in
        record {
          along = record { path = y.part; path_is = y.part_is; allowed = subst OkI y.same g.asked.allowed };
          step = omega arith;
          source = record { value = g.tree.value; value_is = g.tree.value_is };
          below = g.below;
          room = g.room;
          inside = g.area;
          small = g.small;
        }

    pub place_ready : {c f : Span} → r ≡ ItemAt.Place c f → PlaceReady w q c f (span a b) (span d stop)
    place_ready {c} {f} z =
        let g = h.ready in
        let y = (reads here g.asked.value_is).place_is c f z in
        let o = subst OkI y.same g.asked.allowed in
        record {
          ready = ready_other g record { value = y.first; allowed = o.0; value_is = y.first_is };
          target = record { value = y.second; allowed = o.1; value_is = y.second_is };
          tree_room = h.tree_room;
        }

  module _ {u : List ℕ} {o : Out} where
    pub item_kept : {f : Span} → r ≡ ItemAt.Keep f → Keeps w u q f 0 (span a b) (span d stop) o → WritesItem w u q (span p e) (span a b) (span d stop) o
    unfolding item
    item_kept {f} z k x tree ox hx ot ht =
        let y = (reads x hx).keep_is f z in
        subst (λ i. Wrote w u d stop (tree_bytes (item tree i)) o) (sym y.same) (k y.part tree y.part_is ht)

    pub item_placed : {c f : Span} → r ≡ ItemAt.Place c f → WritesPlace w u q c f (span a b) (span d stop) o → WritesItem w u q (span p e) (span a b) (span d stop) o
    unfolding item
    item_placed {c} {f} z k x tree ox hx ot ht =
        let y = (reads x hx).place_is c f z in
        let o2 = subst OkI y.same ox in
        subst (λ i. Wrote w u d stop (tree_bytes (item tree i)) o) (sym y.same)
        (k y.first y.second tree o2.0 y.first_is o2.1 y.second_is ot ht)

-- ---- one item, added
module _ {w q : List ℕ} {p e a b s se : ℕ} (h : Building OkI item_bytes w q (span p e) (span a b) (span s se)) where
  pub item_ready : ItemReady w q (span p e) (span a b) (span (s + tree_max) (s + tree_max + tree_max))
  item_ready = record {
    ready = record { asked = h.asked; tree = h.tree; below = omega (arith, h.below); room = omega arith; area = omega (arith, h.room); small = h.small };
    tree_room = omega arith;
  }

  module _ {u : List ℕ} {r : Out} (l : length u ≡ length w) (k : WritesItem w u q (span p e) (span a b) (span (s + tree_max) (s + tree_max + tree_max)) r) where
    pub item_adding : Adding u (span s se) r
    item_adding =
        let x = h.asked in
        let t = h.tree in
        part_adding (item t.value x.value) (item_ok t.value t.allowed.ok x.value x.allowed) h.whole h.within h.room h.small l
        (k x.value t.value x.allowed x.value_is t.allowed t.value_is)

    pub item_added : {u2 : List ℕ} {o : Out} → Adds u u2 (span s se) r o → AddsItem w u2 q (span p e) (span a b) (span s se) o
    item_added m x t z ox hx ot ht oz hz = m w z (item t x) (sym l) oz (item_ok t ot.ok x ox) hz (k x t ox hx ot ht)

-- ---- the items, one by one

-- the build begins with the bare void tree
module _ {w u q : List ℕ} {c ce a b s se : ℕ} (h : ProjectReady w q (span c ce) (span a b) s) (k : Wrote w u s (s + tree_max) (tree_bytes bare_void) (Ok se)) where
  pub project_begun : length u ≡ length w → Building (All OkI) items_bytes u q (span c ce) (span a b) (span s se)
  project_begun l =
      let t = h.tree in
      record {
        asked = h.items;
        tree = record { value = t.value; allowed = t.allowed; value_is = is_keep t.value_is (wrote_keep k (omega (arith, h.room))) h.below };
        below = h.below;
        whole = standing_void (omega (arith, h.room)) k refl;
        within = (k.fits se refl).room;
        room = omega (arith, h.room);
        small = omega (arith, h.small);
      }

  pub project_from : (x : List ℕ) (r : Out) → BuildsFrom u x q (span c ce) (span a b) (span s se) r → Projects w x q (span c ce) (span a b) s r
  unfolding projected
  project_from x r m is t oi hi ot ht =
      let g = k.fits se refl in
      let y : take s u ≡ take s w = wrote_keep k (omega (arith, h.room)) in
      made_after y (drop_more w u se (s + 3 * tree_max) (omega (arith, g.room)) g.beyond)
      (m is t bare_void oi hi ot (is_keep ht y h.below) (tt, tt) (written k (omega (arith, h.room)) refl))

-- none is left
pub items_done : {w q : List ℕ} {at ce a b s se : ℕ} → at ≡ ce → BuildsFrom w w q (span at ce) (span a b) (span s se) (Ok se)
items_done {w} {q} {at} {ce} {a} {b} {s} {se} z is t x oi hi ot ht ox hx =
    subst (λ l. Made w w s (build x (map (item t) l)) (Ok se)) (sym (list_none item_f is z hi)) (made_done x hx)

module _ {w q : List ℕ} {at ce a b s se m : ℕ} (n : at ≡ ce → ⊥) (g : m ≡ field_end q at) where
  module _ (h : Building (All OkI) items_bytes w q (span at ce) (span a b) (span s se)) where
    pub items_places : (at + 3 ≤ m) × (m ≤ ce) × (ce ≤ length q)
    items_places = list_places item_f n g (holds_of h.asked)

    pub items_first : Building OkI item_bytes w q (span at m) (span a b) (span s se)
    items_first =
        let c = list_parts item_f h.asked.value g n h.asked.value_is in
        record {
          asked = record { value = c.first; allowed = (subst (All OkI) c.same h.asked.allowed).0; value_is = c.first_is };
          tree = h.tree;
          below = h.below;
          whole = h.whole;
          within = h.within;
          room = h.room;
          small = h.small;
        }

    pub items_rest : {u : List ℕ} {o : Out} {e : ℕ} → AddsItem w u q (span at m) (span a b) (span s se) o → o ≡ Ok e → length u ≡ length w
        → Building (All OkI) items_bytes u q (span m ce) (span a b) (span s e)
    items_rest {u} {o} {e} k z l =
        let c = list_parts item_f h.asked.value g n h.asked.value_is in
        let oi = subst (All OkI) c.same h.asked.allowed in
        let t = h.tree in
        let x = h.whole in
        let i = item_ok t.value t.allowed.ok c.first oi.0 in
        let y = k c.first t.value x.tree oi.0 c.first_is t.allowed t.value_is x.ok x.tree_is in
        record {
          asked = record { value = c.rest; allowed = oi.1; value_is = c.rest_is };
          tree = record { value = t.value; allowed = t.allowed; value_is = is_keep t.value_is y.below h.below };
          below = h.below;
          whole = added_whole y x.ok i z;
          within = added_within y x.ok i z;
          room = omega (arith, h.room);
          small = omega (arith, h.small);
        }

  module _ {u : List ℕ} {o : Out} (k : AddsItem w u q (span at m) (span a b) (span s se) o) where
    pub items_stop : o ≡ Err too_large → BuildsFrom w u q (span at ce) (span a b) (span s se) (Err too_large)
    items_stop z is t x oi hi ot ht ox hx =
        let c = list_parts item_f is g n hi in
        let oi2 = subst (All OkI) c.same oi in
        subst (λ l. Made w u s (build x (map (item t) l)) (Err too_large)) (sym c.same)
        (made_stop (k c.first t x oi2.0 c.first_is ot ht ox hx) (map (item t) c.rest) z)

    pub items_next : {e : ℕ} → b ≤ s → o ≡ Ok e → (u2 : List ℕ) (r : Out) → BuildsFrom u u2 q (span m ce) (span a b) (span s e) r → BuildsFrom w u2 q (span at ce) (span a b) (span s se) r
    items_next {e} l z u2 r k2 is t x oi hi ot ht ox hx =
        let c = list_parts item_f is g n hi in
        let oi2 = subst (All OkI) c.same oi in
        let y = k c.first t x oi2.0 c.first_is ot ht ox hx in
        let i = item t c.first in
        subst (λ l. Made w u2 s (build x (map (item t) l)) r) (sym c.same)
        (made_next y (map (item t) c.rest) z
        (k2 c.rest t (merge x i) oi2.1 c.rest_is ot (is_keep ht y.below l)
        (merge_ok x i ox (item_ok t ot.ok c.first oi2.0)) (y.merge_is e z)))
