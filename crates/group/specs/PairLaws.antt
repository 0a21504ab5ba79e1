-- Laws of one pair: its value, written and placed, is a part of the class's tree; and the class stands there unchanged.
use Rattle.std.specs.Prelude.{◌≡◌, refl, List, [], ◌∷◌, Bool, false, ℕ, ◌+◌, ◌*◌, ◌≤◌, length, take, Ok as At}
use Rattle.std.proofs.Common.{sym, ◌∙◌, arith}
use Rattle.std.proofs.Math.Path.{ap, subst}
use Rattle.std.proofs.Math.Bool.{true, cond}
use Rattle.spec_trees.specs.Limits.{tree_max, work_min}
use Rattle.spec_trees.specs.Tree.{trees}
use Rattle.spec_trees.specs.SizeLaws.{list_trees}
use Rattle.spec_trees.specs.Bytes.{tree_bytes}
use Rattle.spec_trees.specs.Within.{Ok}
use Rattle.areas.specs.Area.{Is, Wrote, IsAt, span, Out}
use Rattle.areas.specs.AreaLaws.{is_keep, wrote_keep, written}
use Rattle.format.specs.Stand.{trees_bytes, Holds}
use Rattle.spec_queries.specs.Query.{Pair}
use Rattle.queries.specs.Places.{path_bytes, pair_bytes, PairIs, ReadsPair, TotalIs}
use Rattle.queries.specs.declared.item.PairAt.{PairAt}
use Rattle.queries.specs.Steps.{step_count}
use Rattle.spec_stages.specs.Paths.{Given, over, apply}
use Rattle.spec_stages.specs.Project.{placed}
use Rattle.spec_stages.specs.Totals.{total, fits_signed}
use Rattle.spec_stages.specs.Group.{aggregate, total_fits, sourced, Class}
use Rattle.spec_stages.proofs.KeepLaws.{OkF, labelled, placed_ok, apply_ok, over_ok, total_ok, allowed_ok}
use Rattle.paths.specs.Walk.{Walk, Tells, TellsOver}
use Rattle.paths.specs.WalkLaws.{walk_at}
use Rattle.keys.specs.Keys.{SourcedIs}
use Rattle.keys.specs.KeyLaws.{pair_source}
use Rattle.data.specs.Value.{Value, WroteFound}
use Rattle.data.specs.Write.{WalkReady}
use Rattle.totals.specs.declared.exact.Total.{Total}
use Rattle.totals.specs.Sum.{TotalOver}
use Rattle.totals.specs.Write.{WroteTotal}
use Rattle.place.specs.Writers.{Along}
use Rattle.place.specs.Place.{place_room, room_at}
use Rattle.place.specs.PlaceLaws.{room_all, room_small}
use Rattle.build.specs.Made.{Adding, Adds, ValueReady, PlacesValue}
use Rattle.build.specs.BuildLaws.{standing_keep}
use Rattle.group.specs.Grow.{aggregate_value, joined_value, total_value, identity_value, one_part, sourced_part, Always, Fits, TotalFits, Sound, FirstAt, ClassAt, Grown, PairReady, PairGrows, Values}
use Rattle.group.specs.GrowLaws.{grown_none, grown_one}

-- ---- the class stays while all below s does
pub first_keep : {x xe s : ℕ} {w u : List ℕ} (c : Class) → take s u ≡ take s w → FirstAt (span x xe) s w c → FirstAt (span x xe) s u c
first_keep c k h = record { allowed = h.allowed; first_is = is_keep h.first_is k h.below; below = h.below }

pub class_keep : {x b s : ℕ} {w u : List ℕ} (c : Class) → take s u ≡ take s w → ClassAt (span x b) s w c → ClassAt (span x b) s u c
class_keep c k h = record { allowed = h.allowed; members_are = is_keep h.members_are k h.below; below = h.below }

pub first_holds : {x xe s : ℕ} {w : List ℕ} (c : Class) → FirstAt (span x xe) s w c → Holds tree_bytes w x xe
first_holds c h = record { value = c.0; value_is = h.first_is }

-- ---- its values are well formed
pub first_sound : {x xe s : ℕ} (w : List ℕ) (c : Class) (y : Pair) → FirstAt (span x xe) s w c → Always c y → OkF (identity_value c y)
first_sound w c y h o = apply_ok y.source c.0 h.allowed.ok

pub class_sound : {x b s : ℕ} (w : List ℕ) (c : Class) (y : Pair) → ClassAt (span x b) s w c → Always c y → OkF (joined_value c y)
class_sound w c y h o = over_ok (apply y.source) (apply_ok y.source) (c.0 ∷ c.1) (allowed_ok (c.0 ∷ c.1) h.allowed)

pub total_sound : {x b s : ℕ} (w : List ℕ) (c : Class) (y : Pair) → ClassAt (span x b) s w c → TotalFits c y → OkF (total_value c y)
total_sound w c y h o = total_ok (total y.source (c.0 ∷ c.1)) o

-- ---- where the target of a pair stands
pair_target : {q : List ℕ} {p e : ℕ} {y : Pair} {a : PairAt} → PairIs q (span p e) y a → IsAt q a.target (path_bytes y.target)
pair_target {q} {a = a} k = subst (λ y. IsAt q a.target (path_bytes y)) (sym (ap (λ y. y.target) k.same)) k.second_is

module _ (C : List ℕ → Class → Type 0) (Q : Class → Pair → Type 0) {w q : List ℕ} {p e s se : ℕ} (h : PairReady C Q w q (span p e) (span s se)) {a : PairAt} (reads : ReadsPair q (span p e) a) where
  abbrev here : Pair
  here = h.asked.value

  target_is : IsAt q a.target (path_bytes here.target)
  target_is = pair_target (reads here h.asked.value_is)

  pub target_along : Along q a.target
  target_along = record { path = here.target; path_is = target_is; allowed = h.asked.allowed.0.1.0 }

  -- there is room for the heads, behind the room of the tree so far
  pub target_places : (room_at q a.target (step_count q a.target) ≤ 112) × (s + 3 * tree_max ≤ work_min)
  target_places = (room_small target_along (step_count q a.target) (omega arith), omega (arith, h.room, h.small))

  -- ---- a value that f gives was written there, and placed
  module _ (f : Class → Pair → Given) (sound : (w : List ℕ) (c : Class) (y : Pair) → C w c → Q c y → OkF (f c y)) {w1 : List ℕ} {n : ℕ} {r : Value}
      (m : n ≡ room_at q a.target (step_count q a.target)) (l : length w1 ≡ length w) (k : Values C Q f w w1 q (span p e) (span (s + tree_max + n) (s + tree_max + tree_max)) r) where
    pub value_ready : ValueReady w1 q a.target (span (s + tree_max) (s + tree_max + tree_max)) r
    value_ready =
        let j = k h.members here h.there h.asked.allowed.1 h.asked.value_is in
        record {
          along = target_along;
          room = omega (arith, target_places);
          inside = omega (arith, h.room);
          small = omega (arith, h.small);
          behind = λ g z. let i = (j.fits g z).wrote.fits g refl in (omega (arith, i.ends), omega (arith, i.room, h.room));
        }

    module _ {w2 : List ℕ} {o : Out} (places : PlacesValue w1 w2 q a.target (span (s + tree_max) (s + tree_max + tree_max)) r o) where
      part_written : (c : Class) (y : Pair) → C w c → Sound Q c y → Is q p e (pair_bytes y)
          → Wrote w w2 (s + tree_max) (s + tree_max + tree_max) (tree_bytes (placed y.target (f c y))) o
      part_written c y hc oy hy =
          let t = pair_target (reads y hy) in
          let z : s + tree_max + n ≡ s + tree_max + place_room y.target = ap (λ i. s + tree_max + i) (m ∙ room_all y.target t) in
          places w y.target (f c y) (sym l) t oy.0.1.1 (subst (λ i. WroteFound w w1 i (s + tree_max + tree_max) (f c y) r) z (k c y hc oy.1 hy))

      part_sound : (c : Class) (y : Pair) → C w c → Sound Q c y → Ok (placed y.target (f c y))
      part_sound c y hc oy = placed_ok y.target (labelled y.target oy.0.1.0) (f c y) (sound w c y hc oy.1)

      pub part_adding : length w2 ≡ length w → Adding w2 (span s se) o
      part_adding l2 =
          let j = part_written h.members here h.there h.asked.allowed h.asked.value_is in
          let b : s + tree_max ≤ length w = omega (arith, h.room) in
          record {
            whole = standing_keep h.whole (wrote_keep j b) h.within;
            within = h.within;
            part = λ g z. record { tree = placed here.target (f h.members here); ok = part_sound h.members here h.there h.asked.allowed; tree_is = written j b z };
            part_room = λ g z. (j.fits g z).room;
            room = omega (arith, h.room);
            small = omega (arith, h.small);
          }

      pub part_grows : {w3 : List ℕ} {o2 : Out} → length w2 ≡ length w → Adds w2 w3 (span s se) o o2 → PairGrows C Q (one_part f) w w3 q (span p e) (span s se) o2
      part_grows l2 adds c y z hc oy hy oz hz =
          grown_one z (placed y.target (f c y)) oz (part_sound c y hc oy)
          (adds w z (placed y.target (f c y)) (sym l2) oz (part_sound c y hc oy) hz (part_written c y hc oy hy))

-- ---- the value of an aggregate that is no total
module _ {w q : List ℕ} {x b p e s : ℕ} {a : PairAt} (reads : ReadsPair q (span p e) a) where
  pub aggregate_ready : {se : ℕ} → PairReady (ClassAt (span x b) s) Always w q (span p e) (span s se) → (n : ℕ) → n ≤ 112
      → WalkReady trees_bytes q a.source 0 w (span x b) (span (s + tree_max + n) (s + tree_max + tree_max)) 0
  aggregate_ready h n l =
      let y = h.asked.value in
      let c = h.members in
      record {
        walk = record {
          path = record { value = y.source; value_is = pair_source (reads y h.asked.value_is) };
          step = omega arith;
          stands = record { value = trees (c.0 ∷ c.1); value_is = h.there.members_are };
        };
        below = omega (arith, h.there.below);
        room = omega arith;
        area = omega (arith, h.room);
        divisor = omega arith;
      }

  pub aggregate_values : {u : List ℕ} {d stop : ℕ} {r : Value} → TellsOver q a.source 0 w (span x b) (λ y. WroteFound w u d stop y r)
      → Values (ClassAt (span x b) s) Always joined_value w u q (span p e) (span d stop) r
  aggregate_values {u} {d} {stop} {r} k c y hc o hy =
      subst (λ l. WroteFound w u d stop (over (apply y.source) l) r) (list_trees (c.0 ∷ c.1))
      (k y.source (trees (c.0 ∷ c.1)) (pair_source (reads y hy)) hc.members_are)

-- ---- the value of a total
module _ {w q : List ℕ} {x b p e s : ℕ} {a : PairAt} (reads : ReadsPair q (span p e) a) where
  pub total_walk : {se : ℕ} → PairReady (ClassAt (span x b) s) TotalFits w q (span p e) (span s se) → Walk trees_bytes q a.source 0 w (span x b)
  total_walk h =
      let y = h.asked.value in
      let c = h.members in
      record {
        path = record { value = y.source; value_is = pair_source (reads y h.asked.value_is) };
        step = omega arith;
        stands = record { value = trees (c.0 ∷ c.1); value_is = h.there.members_are };
      }

  pub total_values : {t : Total} → TotalOver q a.source w (span x b) t → {u : List ℕ} {d stop : ℕ} {r : Value} → WroteTotal w u (span d stop) t r
      → Values (ClassAt (span x b) s) TotalFits total_value w u q (span p e) (span d stop) r
  total_values is k c y hc o hy =
      let ms = c.0 ∷ c.1 in
      k (total y.source ms) (is.total_is y.source ms (pair_source (reads y hy)) (allowed_ok ms hc.allowed) hc.members_are) o

-- ---- the value of a grouping pair
module _ {w q : List ℕ} {x xe p e s : ℕ} {a : PairAt} (reads : ReadsPair q (span p e) a) where
  pub identity_ready : {se : ℕ} → PairReady (FirstAt (span x xe) s) Always w q (span p e) (span s se) → (n : ℕ) → n ≤ 112
      → WalkReady tree_bytes q a.source 0 w (span x xe) (span (s + tree_max + n) (s + tree_max + tree_max)) 0
  identity_ready h n l = record {
    walk = walk_at h.asked.value.source h.members.0 (pair_source (reads h.asked.value h.asked.value_is)) h.there.first_is;
    below = omega (arith, h.there.below);
    room = omega arith;
    area = omega (arith, h.room);
    divisor = omega arith;
  }

  pub identity_values : {u : List ℕ} {d stop : ℕ} {r : Value} → Tells q a.source 0 w (span x xe) (λ y. WroteFound w u d stop y r)
      → Values (FirstAt (span x xe) s) Always identity_value w u q (span p e) (span d stop) r
  identity_values k c y hc o hy = k y.source c.0 (pair_source (reads y hy)) hc.first_is

-- only a pair of the class's subset adds it
module _ {w q : List ℕ} {x xe p e s : ℕ} {o : Bool} (says : SourcedIs q (span p e) w (span x xe) o) where
  is_sourced : (c : Class) (y : Pair) → FirstAt (span x xe) s w c → Is q p e (pair_bytes y) → o ≡ sourced c y
  unfolding sourced
  is_sourced c y hc hy = says y c.0 hy hc.first_is

  pub sourced_skip : {se : ℕ} → o ≡ false → se ≤ s + tree_max → PairGrows (FirstAt (span x xe) s) Always sourced_part w w q (span p e) (span s se) (At se)
  sourced_skip {se} z l c y t hc oy hy ot ht =
      subst (λ i. Grown w w s t (cond i (one_part identity_value c y) []) (At se)) (sym z ∙ is_sourced c y hc hy) (grown_none t ot ht l)

  pub sourced_add : {se : ℕ} {u : List ℕ} {r : Out} → o ≡ true → PairGrows (FirstAt (span x xe) s) Always (one_part identity_value) w u q (span p e) (span s se) r
      → PairGrows (FirstAt (span x xe) s) Always sourced_part w u q (span p e) (span s se) r
  sourced_add {u = u} {r = r} z k c y t hc oy hy ot ht =
      subst (λ i. Grown w u s t (cond i (one_part identity_value c y) []) r) (sym z ∙ is_sourced c y hc hy) (k c y t hc oy hy ot ht)

-- ---- an aggregate: a total, or not
module _ {q : List ℕ} {p e : ℕ} {o : Bool} (says : TotalIs q (span p e) o) where
  fits_total : (c : Class) (y : Pair) → o ≡ true → Is q p e (pair_bytes y) → Fits c y → TotalFits c y
  unfolding total_fits
  fits_total c y z hy f = subst (λ i. cond i (fits_signed (total y.source (c.0 ∷ c.1))) true ≡ true) (sym (says y hy) ∙ z) f

  value_is : (c : Class) (y : Pair) → Is q p e (pair_bytes y) → aggregate_value c y ≡ cond o (total_value c y) (joined_value c y)
  unfolding aggregate
  value_is c y hy = ap (λ i. cond i (total_value c y) (joined_value c y)) (sym (says y hy))

module _ {w q : List ℕ} {x b p e s : ℕ} {o : Bool} (says : TotalIs q (span p e) o) where
  -- what is asked of it
  pub plain_ready : {se : ℕ} → PairReady (ClassAt (span x b) s) Fits w q (span p e) (span s se) → PairReady (ClassAt (span x b) s) Always w q (span p e) (span s se)
  plain_ready h = record {
    members = h.members;
    there = h.there;
    asked = record { value = h.asked.value; allowed = (h.asked.allowed.0, tt); value_is = h.asked.value_is };
    whole = h.whole;
    within = h.within;
    room = h.room;
    small = h.small;
  }

  pub total_ready : {se : ℕ} → o ≡ true → PairReady (ClassAt (span x b) s) Fits w q (span p e) (span s se) → PairReady (ClassAt (span x b) s) TotalFits w q (span p e) (span s se)
  total_ready z h = record {
    members = h.members;
    there = h.there;
    asked = record {
      value = h.asked.value;
      allowed = (h.asked.allowed.0, fits_total says h.members h.asked.value z h.asked.value_is h.asked.allowed.1);
      value_is = h.asked.value_is;
    };
    whole = h.whole;
    within = h.within;
    room = h.room;
    small = h.small;
  }

  -- what was added
  pub plain_added : {se : ℕ} {u : List ℕ} {r : Out} → o ≡ false → PairGrows (ClassAt (span x b) s) Always (one_part joined_value) w u q (span p e) (span s se) r
      → PairGrows (ClassAt (span x b) s) Fits (one_part aggregate_value) w u q (span p e) (span s se) r
  plain_added {u = u} {r = r} z k c y t hc oy hy ot ht =
      subst (λ i. Grown w u s t (placed y.target i ∷ []) r) (sym (value_is says c y hy ∙ ap (λ i. cond i (total_value c y) (joined_value c y)) z)) (k c y t hc (oy.0, tt) hy ot ht)

  pub total_added : {se : ℕ} {u : List ℕ} {r : Out} → o ≡ true → PairGrows (ClassAt (span x b) s) TotalFits (one_part total_value) w u q (span p e) (span s se) r
      → PairGrows (ClassAt (span x b) s) Fits (one_part aggregate_value) w u q (span p e) (span s se) r
  total_added {u = u} {r = r} z k c y t hc oy hy ot ht =
      subst (λ i. Grown w u s t (placed y.target i ∷ []) r) (sym (value_is says c y hy ∙ ap (λ i. cond i (total_value c y) (joined_value c y)) z))
      (k c y t hc (oy.0, fits_total says c y z hy oy.1) hy ot ht)
