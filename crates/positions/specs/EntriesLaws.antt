-- Laws of the position area: one entry after another is the position of its tree, and no other is touched.
use Rattle.std.specs.Prelude.{◌≡◌, ℕ, suc, ◌+◌, ◌-◌, ◌*◌, ◌≤◌, ◌<◌, drop, set}
use Rattle.std.proofs.Math.Path.{refl, ap}
use Rattle.std.proofs.Common.{sym, subst, ◌∙◌, add-one, arith, length-set}
use mathlib.Core.List.{List, [], ◌∷◌, ◌++◌}
use Rattle.std.proofs.Math.ListN.{length}
use Rattle.std.proofs.lemmas.List.{length-map}
use Rattle.std.proofs.Math.Seq.{sets}
use Rattle.std.proofs.lemmas.List.Edits.{sets-eq}
use Rattle.spec_trees.specs.Limits.{positions_min}
use Rattle.spec_trees.specs.Bytes.{tree_bytes}
use Rattle.areas.specs.Area.{field_end}
use Rattle.areas.specs.Number.{two_at}
use Rattle.queries.specs.TreesLaws.{array_none, length_none}
use Rattle.spec_stages.specs.Positions.{Borne, unmarked, positions}
use Rattle.map.specs.Map.{trees_max, collected_at, position_at}
use Rattle.positions.specs.Bearing.{Bears, StandFrom, Standing}
use Rattle.positions.specs.BearingLaws.{standing_parts, standing_places, next_is, others_stand, standing_next, few_trees}
use Rattle.positions.specs.Entries.{Enters}

-- what stands in the collector from `at` to n, as trees that bear positions: e became v by a store of each from i on
abbrev pub Stored : (w : List ℕ) (n : ℕ) (e v : List ℕ) (i at : ℕ) → Type 0
Stored w n e v i at = (bs : List Borne) → StandFrom w at n (unmarked bs) → Bears w at bs → v ≡ sets e i (positions bs)

-- ---- all are stored
-- no more than the area has entries
pub few_borne : {w : List ℕ} {n : ℕ} → n ≤ trees_max → (bs : List Borne) → StandFrom w 0 n (unmarked bs) → length (positions bs) ≤ positions_min
few_borne l bs h = omega (arith, few_trees (unmarked bs), length-map bs (λ b. b.tree), length-map bs (λ b. b.position), h.ends)

pub stored_all : {w e v : List ℕ} {n : ℕ} → n ≤ trees_max → positions_min ≤ length e → Stored w n e v 0 0 → Enters w n e v
stored_all {w} {e} {v} {n} l m h bs s b =
    let k : 0 + length (positions bs) ≤ length e = omega (arith, few_borne l bs s) in
    let c : 0 + length (positions bs) ≡ length bs = omega (arith, length-map bs (λ b. b.position)) in
    h bs s b ∙ sets-eq (positions bs) e 0 k ∙ ap (λ i. positions bs ++ drop i e) c

-- ---- one entry after another
pub record Going (w e₀ : List ℕ) (n : ℕ) (e : List ℕ) (i at : ℕ) : Type 0 where
  pub left : Standing w at n
  pub same : length e ≡ length e₀
  pub low : 6 * i ≤ at
  pub whole : (v : List ℕ) → Stored w n e v i at → Stored w n e₀ v 0 0

module _ {w e₀ : List ℕ} {n : ℕ} where
  pub entries_begin : Standing w 0 n → Going w e₀ n e₀ 0 0
  entries_begin s = record { left = s; same = refl; low = omega arith; whole = λ v h. h }

  module _ {e : List ℕ} {i at : ℕ} (g : Going w e₀ n e i at) where
    pub entries_end : at ≡ n → Stored w n e₀ e 0 0
    entries_end z = g.whole e (none z)
      where
        none : at ≡ n → Stored w n e e i at
        none z [] h b = refl
        none z (b ∷ bs) h k = let y = array_none (b.tree ∷ unmarked bs) (omega arith) h in let x : ◌≡◌ {A = ℕ} 0 1 = cc in absurd (omega arith)

    module _ (d : at ≡ n → ⊥) {f : ℕ} (z : f ≡ field_end w (collected_at + at)) where
      -- a tree is left, so an entry is
      pub entry_room : positions_min ≤ length e₀ → i < length e
      entry_room m = omega (arith, standing_places g.left d z, g.low, g.same)

      abbrev m : ℕ
      m = f - collected_at

      module _ {p : ℕ} (y : p ≡ two_at w (position_at at)) where
        then_on : (v : List ℕ) → Stored w n (set e i p) v (i + 1) m → Stored w n e v i at
        unfolding Bears
        then_on v h [] s b = absurd (d (omega (arith, s.ends, length_none)))
        then_on v h (b ∷ bs) s k =
            let c = standing_parts g.left d z (b.tree ∷ unmarked bs) s in
            let t : b.tree ≡ c.first = cc in
            let r : unmarked bs ≡ c.rest = cc in
            let size : at + length (tree_bytes b.tree) ≡ m = omega (arith, c.first_is.ends, ap (λ x. length (tree_bytes x)) t, next_is g.left d z) in
            h bs (subst (StandFrom w m n) (sym r) (others_stand g.left d z refl c.rest c.rest_is)) (subst (λ x. Bears w x bs) size k.1)
            ∙ ap (λ x. sets (set e i p) x (positions bs)) (add-one i)
            ∙ ap (λ x. sets (set e i x) (suc i) (positions bs)) (y ∙ k.0)

        pub entry_again : Going w e₀ n (set e i p) (i + 1) m
        entry_again = record {
          left = standing_next g.left d z refl refl;
          same = length-set e i p ∙ g.same;
          low = omega (arith, standing_places g.left d z, g.low);
          whole = λ v h. g.whole v (then_on v h);
        }
