-- Laws of the positions that the collected trees bear: one tree after another gets its own, and no other is touched.
use Rattle.std.specs.Prelude.{◌≡◌, refl, List, [], ◌∷◌, ◌++◌, ℕ, suc, ◌+◌, ◌-◌, ◌*◌, ◌≤◌, take, drop, Ok}
use Rattle.std.proofs.Common.{sym, ap, ◌∙◌, add-zero, arith}
use Rattle.std.proofs.Math.Path.{subst}
use Rattle.std.proofs.Math.ListN.{length}
use Rattle.spec_trees.specs.Limits.{work_min}
use Rattle.spec_trees.specs.Tree.{Tree, trees}
use Rattle.spec_trees.specs.SizeLaws.{length_tree_fs, six_each}
use Rattle.spec_trees.specs.Bytes.{tree_bytes}
use Rattle.areas.specs.Area.{Is, Wrote, field_end}
use Rattle.areas.specs.AreaLaws.{take_less, is_keep, wrote_keep}
use Rattle.areas.specs.Number.{two_at, two_bytes}
use Rattle.areas.specs.NumberLaws.{put, two_below, two_above}
use Rattle.queries.specs.Places.{array_trees}
use Rattle.queries.specs.TreesLaws.{ArrayParts, array_parts, array_none, six, length_cons, length_none}
use Rattle.spec_stages.specs.Positions.{Borne, unmarked, marked, numbered}
use Rattle.map.specs.Map.{trees_max, lent_part, collected_at, position_at}
use Rattle.positions.specs.Bearing.{Bears, stepped, StandFrom, Standing, Bearing, Marks, Numbers}

-- ---- by no step, and by one
pub stepped_none : (k : ℕ) (ts : List Tree) → stepped k 0 ts ≡ marked k ts
unfolding stepped marked
stepped_none k [] = refl
stepped_none k (t ∷ ts) = ap (λ l. record { position = k; tree = t } ∷ l) (ap (λ n. stepped n 0 ts) (add-zero k) ∙ stepped_none k ts)

pub stepped_one : (k : ℕ) (ts : List Tree) → stepped k 1 ts ≡ numbered k ts
unfolding stepped numbered
stepped_one k [] = refl
stepped_one k (t ∷ ts) = let z : k + 1 ≡ suc k = omega arith in ap (λ l. record { position = k; tree = t } ∷ l) (ap (λ n. stepped n 1 ts) z ∙ stepped_one (suc k) ts)

-- ---- one of the trees that stand there: it ends at e
module _ {w : List ℕ} {at b : ℕ} (s : Standing w at b) (n : at ≡ b → ⊥) {e : ℕ} (z : e ≡ field_end w (collected_at + at)) where
  pub standing_parts : (ts : List Tree) → StandFrom w at b ts → ArrayParts w (collected_at + at) e (collected_at + b) ts
  standing_parts ts h = array_parts ts z (λ y. n (omega arith)) h

  abbrev parts : ArrayParts w (collected_at + at) e (collected_at + b) s.trees
  parts = standing_parts s.trees s.trees_are

  pub standing_places : (collected_at + at + 6 ≤ e) × (e ≤ collected_at + b) × (b ≤ trees_max) × (length w ≡ work_min)
  standing_places = (parts.after, parts.within, s.short, s.size)

  -- where the next one begins, counted from the first
  pub next_is : collected_at + (e - collected_at) ≡ e
  next_is = omega (arith, standing_places)

  -- the others, also where the positions have changed
  module _ {v : List ℕ} (k : take lent_part v ≡ take lent_part w) where
    pub others_stand : (ts : List Tree) → Is w e (collected_at + b) (array_trees ts) → StandFrom v (e - collected_at) b ts
    others_stand ts y = subst (λ i. Is v i (collected_at + b) (array_trees ts)) (sym next_is) (is_keep y {d = lent_part} k (omega (arith, s.short)))

    pub standing_next : length v ≡ length w → Standing v (e - collected_at) b
    standing_next l = record { size = l ∙ s.size; trees = parts.rest; trees_are = others_stand parts.rest parts.rest_is; short = s.short }

-- ---- one tree after another
-- the trees from `at` on get theirs, from k on
pub record Going (w₀ : List ℕ) (a b k₀ d : ℕ) (w : List ℕ) (k at : ℕ) : Type 0 where
  pub left : Standing w at b
  pub same : length w ≡ length w₀
  pub low : k + a ≤ k₀ + at
  pub whole : (v : List ℕ) → Bearing w v at b k d → Bearing w₀ v a b k₀ d

module _ {w₀ : List ℕ} {a b k₀ d : ℕ} where
  pub bear_begin : Standing w₀ a b → Going w₀ a b k₀ d w₀ k₀ a
  bear_begin s = record { left = s; same = refl; low = omega arith; whole = λ v h. h }

  module _ {w : List ℕ} {k at : ℕ} (g : Going w₀ a b k₀ d w k at) where
    pub bear_end : at ≡ b → Bearing w₀ w a b k₀ d
    unfolding Bears stepped
    bear_end z = g.whole w record {
      kept = refl;
      bears = λ ts h. subst (λ l. Bears w at (stepped k d l)) (sym (array_none ts (omega arith) h)) tt;
    }

    module _ (n : at ≡ b → ⊥) {e : ℕ} (z : e ≡ field_end w (collected_at + at)) {x : List ℕ} (l : length x ≡ length w)
        (h : Wrote w x (position_at at) (position_at at + 2) (two_bytes k) (Ok (position_at at + 2))) where
      abbrev m : ℕ
      m = e - collected_at

      places : (collected_at + at + 6 ≤ e) × (e ≤ collected_at + b) × (b ≤ trees_max) × (length w ≡ work_min)
      places = standing_places g.left n z

      below : take (position_at at) x ≡ take (position_at at) w
      below = wrote_keep h (omega (arith, places))

      lent : take lent_part x ≡ take lent_part w
      lent = take_less w x lent_part (position_at at) (omega arith) below

      then_on : (v : List ℕ) → Bearing x v m b (k + d) d → Bearing w v at b k d
      unfolding Bears stepped
      then_on v y = record {
        kept = take_less x v (position_at at) (position_at m) (omega (arith, places)) y.kept ∙ below;
        bears = λ ts i.
            let c = standing_parts g.left n z ts i in
            let num : two_at v (position_at at) ≡ k = two_below x v (position_at m) y.kept (position_at at) (omega (arith, places)) ∙ (put (omega (arith, places)) h).here in
            let size : at + length (tree_bytes c.first) ≡ m = omega (arith, c.first_is.ends, next_is g.left n z) in
            subst (λ l2. Bears v at (stepped k d l2)) (sym c.same)
            (num, subst (λ i2. Bears v i2 (stepped (k + d) d c.rest)) (sym size) (y.bears c.rest (others_stand g.left n z lent c.rest c.rest_is)));
      }

      pub bear_again : d ≤ 1 → Going w₀ a b k₀ d x (k + d) m
      bear_again u = record {
        left = standing_next g.left n z lent l;
        same = l ∙ g.same;
        low = omega (arith, places, g.low);
        whole = λ v y. g.whole v (then_on v y);
      }

-- ---- all of them
pub marks_all : {w v : List ℕ} {a b k : ℕ} → Bearing w v a b k 0 → Marks w v a b k
marks_all {v = v} {a = a} {k = k} h = record { kept = h.kept; bears = λ ts i. subst (Bears v a) (stepped_none k ts) (h.bears ts i) }

pub numbers_all : {w v : List ℕ} {n : ℕ} → Bearing w v 0 n 1 1 → Numbers w v n
numbers_all {w} {v} h = record { kept = take_less w v lent_part (position_at 0) (omega arith) h.kept; bears = λ ts i. subst (Bears v 0) (stepped_one 1 ts) (h.bears ts i) }

-- ---- what is borne depends on nothing behind the last number
pub bears_keep : (w v : List ℕ) (x : ℕ) (bs : List Borne) (a : ℕ) → take (position_at a) v ≡ take (position_at a) w → x + length (array_trees (unmarked bs)) ≤ a
    → Bears w x bs → Bears v x bs
unfolding Bears
bears_keep w v x [] a k l h = tt
bears_keep w v x (b ∷ bs) a k l h =
    let n = length_cons b.tree (unmarked bs) in
    let s = six b.tree in
    (two_below w v (position_at a) k (position_at x) (omega arith) ∙ h.0, bears_keep w v (x + length (tree_bytes b.tree)) bs a k (omega arith) h.1)

-- some trees, and those behind them
pub bears_append : (w : List ℕ) (x : ℕ) (cs bs : List Borne) → Bears w x cs → Bears w (x + length (array_trees (unmarked cs))) bs → Bears w x (cs ++ bs)
unfolding Bears
bears_append w x [] bs h k = let z : x + length (array_trees []) ≡ x = omega (arith, length_none) in subst (λ i. Bears w i bs) z k
bears_append w x (c ∷ cs) bs h k =
    let z : x + length (array_trees (unmarked (c ∷ cs))) ≡ x + length (tree_bytes c.tree) + length (array_trees (unmarked cs)) = omega (arith, length_cons c.tree (unmarked cs)) in
    (h.0, bears_append w (x + length (tree_bytes c.tree)) cs bs h.1 (subst (λ i. Bears w i bs) z k))

-- and on nothing before the numbers
pub bears_beyond : (w v : List ℕ) (d : ℕ) → d ≤ lent_part → drop d v ≡ drop d w → (x : ℕ) (bs : List Borne) → Bears w x bs → Bears v x bs
unfolding Bears
bears_beyond w v d l k x [] h = tt
bears_beyond w v d l k x (b ∷ bs) h =
    (two_above w v d k (position_at x) (omega arith) ∙ h.0, bears_beyond w v d l k (x + length (tree_bytes b.tree)) bs h.1)

-- ---- an array has at most a sixth as many trees as bytes
pub few_trees : (ts : List Tree) → 6 * length ts ≤ length (array_trees ts)
few_trees ts = omega (arith, six_each ts, length_tree_fs (trees ts))
