-- The join of two arrays, grouped again, comes to what the regrouping gives of the joined trees.
use Rattle.std.specs.Prelude.{◌≡◌, ℕ, ◌+◌, ◌-◌, ◌≤◌, drop, Ok, Err}
use Rattle.std.proofs.Common.{sym, ap, ap₂, ◌∙◌, arith, take_all}
use Rattle.std.proofs.Math.Path.{subst}
use mathlib.Core.List.{List, [], ◌∷◌, ◌++◌, map}
use Rattle.std.proofs.Math.ListN.{length}
use Rattle.spec_trees.specs.ListLaws.{All-append, All-imply}
use Rattle.spec_trees.specs.Limits.{positions_min, array_max}
use Rattle.spec_trees.specs.Size.{array_size}
use Rattle.spec_trees.specs.Tree.{Tree}
use Rattle.spec_trees.specs.Bytes.{bytes, tree_fs, array_bytes}
use Rattle.spec_trees.specs.Within.{Within, AllowedA}
use Rattle.spec_queries.specs.Query.{Pair}
use Rattle.spec_queries.specs.Again.{again, regrouped}
use Rattle.spec_queries.specs.RegroupingLaws.{ok_again, group_short}
use Rattle.spec_queries.specs.AgainLaws.{regroups_parts}
use Rattle.spec_stages.specs.Stages.{going, stages}
use Rattle.spec_stages.proofs.LeaveLaws.{group_step, group_overflow, group_long}
use Rattle.spec_stages.specs.Stretch.{before}
use Rattle.areas.specs.Area.{Is, Wrote, span, Out, too_large}
use Rattle.areas.specs.AreaLaws.{written, is_keep}
use Rattle.queries.specs.Places.{array_trees, Pairs}
use Rattle.queries.specs.TreesLaws.{array_reads}
use Rattle.queries.specs.declared.stage.GroupAt.{GroupAt}
use Rattle.paths.specs.ComparedLaws.{is_none, trees_append}
use Rattle.spec_stages.specs.Group.{grouped, totals_fit}
use Rattle.spec_stages.specs.Positions.{unmarked, numbered, carry, carried}
use Rattle.spec_stages.proofs.PositionLaws.{numbered_trees, carried_within}
use Rattle.map.specs.Map.{trees_max, lent_part, collected_at}
use Rattle.positions.specs.Bearing.{Standing, Numbers}
use Rattle.positions.specs.BearingLaws.{few_trees}
use Rattle.stream.specs.Feed.{Planned}
use Rattle.stream.specs.declared.collector.Collector.{Collector}
use Rattle.stream.specs.declared.collector.Collector.TheVariants.{Len}
use Rattle.stretches.specs.declared.ended.Failure.{Failure}
use Rattle.stretches.specs.Ended.{Ended, EndedIs}
use Rattle.stretches.specs.Later.{Grouped, LastPost, HeldReady, GroupedIs, HeldPost}
use Rattle.stretch.specs.declared.next.StretchAt.{StretchAt}
use Rattle.stretch.specs.Carry.{Positions, Holds}
use Rattle.stretch.specs.Next.{stretch_at}
use Rattle.group_stretch.specs.Group.{through}
use Rattle.stretches.specs.LaterLaws.{size_is, ends_long, ends_overflow}
use Rattle.trays.specs.Again.{GroupRoom, GroupWritten}
use Rattle.regrouping.specs.JoinedGroup.{RegroupReady, Regroups}
use Rattle.stretches.specs.declared.ended.Failure.TheVariants as failure

-- a group behind which no stage stands
abbrev pub nowhere : GroupAt → StretchAt
nowhere g = stretch_at g (span g.keys.to g.keys.to)

-- ---- the joined trees
-- an array's bytes behind its head are its trees
trees_of_lem : (s : List ℕ) (ts : List Tree) → s ≡ array_bytes ts → drop 3 s ≡ array_trees ts
trees_of_lem s ts e = ap (drop 3) (sym (take_all (length s) s (omega arith))) ∙ (array_reads s ts e).lies

pub head_inside : (s : List ℕ) (ts : List Tree) → s ≡ array_bytes ts → 3 ≤ length s
head_inside s ts e = omega (arith, (array_reads s ts e).ends)

module _ {a b w x : List ℕ} {d : ℕ} {r : Out} (k : Wrote w x d (d + trees_max) (drop 3 a ++ drop 3 b) r) where
  joined : (ts us : List Tree) → a ≡ array_bytes ts → b ≡ array_bytes us → Wrote w x d (d + trees_max) (array_trees (ts ++ us)) r
  joined ts us ea eb = subst (λ l. Wrote w x d (d + trees_max) l r) (ap₂ ◌++◌ (trees_of_lem a ts ea) (trees_of_lem b us eb) ∙ sym (trees_append ts us)) k

  -- more than an array may have
  pub joined_long : {q : List ℕ} {at : GroupAt} → r ≡ Err too_large → Regroups q at a b x (Err failure.Long)
  unfolding stages
  joined_long z ag gs ts us p _ ea oa eb ob =
      ends_long x _ (group_long [] (map again ag) (map again gs) (ts ++ us) (omega (arith, ((joined ts us ea eb).large z).over, size_is (ts ++ us))))

  module _ {e : ℕ} (z : r ≡ Ok e) {q : List ℕ} {at : GroupAt} (h : RegroupReady q at a b w) (y : d ≡ collected_at) (l : length x ≡ length w) where
    -- the joined trees stand where collected ones do
    stand : (ts us : List Tree) → a ≡ array_bytes ts → b ≡ array_bytes us → Is x collected_at (collected_at + (e - d)) (array_trees (ts ++ us))
    stand ts us ea eb =
        let i : Is x d e (array_trees (ts ++ us)) = written (joined ts us ea eb) (omega (arith, h.size)) z in
        let m : e ≡ collected_at + (e - d) = omega (arith, i.ends) in
        subst (λ p. Is x p (collected_at + (e - d)) (array_trees (ts ++ us))) y (subst (λ k. Is x d k (array_trees (ts ++ us))) m i)

    few : (ts us : List Tree) → a ≡ array_bytes ts → b ≡ array_bytes us → e - d ≤ trees_max
    few ts us ea eb = omega (arith, ((joined ts us ea eb).fits e z).room)

    pub joined_standing : Standing x 0 (e - d)
    joined_standing = record {
      size = l ∙ h.size;
      trees = h.first ++ h.second;
      trees_are = stand h.first h.second h.first_is h.second_is;
      short = few h.first h.second h.first_is h.second_is;
    }

    pub joined_above : d ≤ e
    joined_above = omega (arith, ((joined h.first h.second h.first_is h.second_is).fits e z).ends)

    both_allowed : (ts us : List Tree) → Within ts → Within us → AllowedA (ts ++ us)
    both_allowed ts us oa ob = All-append _ ts us oa.allowed ob.allowed

    joined_short : (ts us : List Tree) → a ≡ array_bytes ts → b ≡ array_bytes us → length (array_trees (ts ++ us)) ≤ trees_max
    joined_short ts us ea eb = let f = (joined ts us ea eb).fits e z in omega (arith, f.ends, f.room)

    -- ---- they bear positions
    module _ {u : List ℕ} (lu : length u ≡ length x) (n : Numbers x u (e - d)) where
      holds : (ts us : List Tree) → a ≡ array_bytes ts → b ≡ array_bytes us → Holds u (Len (e - d)) (numbered 1 (ts ++ us))
      unfolding Holds
      holds ts us ea eb =
          let i = stand ts us ea eb in (
            subst (λ k. Is u collected_at (collected_at + (e - d)) (array_trees k)) (sym (numbered_trees 1 (ts ++ us))) (is_keep i {d = lent_part} n.kept (omega (arith, few ts us ea eb))),
            few ts us ea eb,
            n.bears (ts ++ us) i,
          )

      allowed : (ts us : List Tree) → Within ts → Within us → AllowedA (unmarked (numbered 1 (ts ++ us)))
      allowed ts us oa ob = subst AllowedA (sym (numbered_trees 1 (ts ++ us))) (both_allowed ts us oa ob)

      bear : (ts us : List Tree) → a ≡ array_bytes ts → b ≡ array_bytes us → Positions (numbered 1 (ts ++ us))
      unfolding carried
      bear ts us ea eb =
          let m : length (ts ++ us) ≤ positions_min = omega (arith, few_trees (ts ++ us), joined_short ts us ea eb) in
          All-imply _ _ (λ b2 k. (k.0, omega (arith, k.1))) (numbered 1 (ts ++ us)) (carried_within [] [] (ts ++ us))

      -- ---- its group, by the pairs that were written to s
      module _ {s : List ℕ} {g : GroupAt} (i : GroupWritten s q at g) where
        pairs_of : (ag gs : List Pair) → Pairs q at ag gs → Pairs s g (map again ag) (map again gs)
        pairs_of ag gs p =
            let c = i ag gs p.aggregates_is p.grouping_is in
            record {
              aggregates_ok = ok_again _ ag p.aggregates_ok;
              aggregates_is = c.aggregates_is;
              grouping_ok = ok_again _ gs p.grouping_ok;
              grouping_is = c.grouping_is;
            }

        planned_of : (j : List ℕ) → length j ≡ 3 → Planned s (span g.keys.to g.keys.to) j [] []
        unfolding bytes tree_fs
        planned_of j e2 =
            let c = i h.aggregates h.grouping h.pairs.aggregates_is h.pairs.grouping_is in
            record {
              stages_ok = tt;
              stages_is = is_none c.grouping_is.inside;
              joined_ok = tt;
              joined_is = subst (λ m. Is j 3 m (array_trees [])) (sym e2) (is_none (omega arith));
            }

        pub again_ready : (j : List ℕ) → length j ≡ 3 → HeldReady u (e - d) s (nowhere g) j
        unfolding before
        again_ready j o = record {
          plan = record {
            aggregates = map again h.aggregates;
            grouping = map again h.grouping;
            pairs = pairs_of h.aggregates h.grouping h.pairs;
            list = [];
            joined = [];
            planned = planned_of j o;
            room = omega arith;
            small = omega arith;
          };
          borne = numbered 1 (h.first ++ h.second);
          allowed = allowed h.first h.second h.first_ok h.second_ok;
          positions = bear h.first h.second h.first_is h.second_is;
          holds = holds h.first h.second h.first_is h.second_is;
          size = lu ∙ l ∙ h.size;
        }

        module _ (j : List ℕ) (k3 : length j ≡ 3) {v : List ℕ} {c : Grouped} (f : HeldPost u v (e - d) s (nowhere g) j c) where
          came : (ag gs : List Pair) (ts us : List Tree) → Pairs q at ag gs → a ≡ array_bytes ts → Within ts → b ≡ array_bytes us → Within us
              → GroupedIs v (totals_fit (map again ag) (grouped (map again gs) (unmarked (numbered 1 (ts ++ us)))))
              (through [] [] (map again ag) (map again gs) (grouped (map again gs) (unmarked (numbered 1 (ts ++ us)))))
              (carried [] (before []) (carry [] (regrouped ag gs) (numbered 1 (ts ++ us)))) c
          came ag gs ts us p ea oa eb ob =
              f (map again ag) (map again gs) (numbered 1 (ts ++ us)) [] [] (pairs_of ag gs p) (allowed ts us oa ob) (bear ts us ea eb) (holds ts us ea eb) (planned_of j k3)

          -- the trees that enter the group, with their positions and without
          same_trees : (ag gs : List Pair) (ts us : List Tree)
              → stages [] (regrouped ag gs ∷ []) (going (ts ++ us)) ≡ stages [] (regrouped ag gs ∷ []) (going (unmarked (numbered 1 (ts ++ us))))
          same_trees ag gs ts us = ap (λ t. stages [] (regrouped ag gs ∷ []) (going t)) (sym (numbered_trees 1 (ts ++ us)))

          short_trees : (ts us : List Tree) → a ≡ array_bytes ts → b ≡ array_bytes us → array_size (unmarked (numbered 1 (ts ++ us))) ≤ array_max
          short_trees ts us ea eb =
              omega (arith, size_is (unmarked (numbered 1 (ts ++ us))), ap (λ t. length (array_trees t)) (numbered_trees 1 (ts ++ us)), joined_short ts us ea eb)

          pub again_overflow : {failed : Failure} → c ≡ Err failed → Regroups q at a b v (Err failed)
          unfolding stages
          again_overflow {failed} z ag gs ts us p _ ea oa eb ob =
              let o = (came ag gs ts us p ea oa eb ob).overflow failed z in
              rw o.0 (ends_overflow v _ (same_trees ag gs ts us
              ∙ group_overflow [] (map again ag) (map again gs) (unmarked (numbered 1 (ts ++ us))) (short_trees ts us ea eb) o.1))

          pub again_ended : {l : Collector} → c ≡ Ok l → {o : Ended} → LastPost l o → Regroups q at a b v o
          unfolding stages carried through before
          again_ended {l} z {o} last ag gs ts us p _ ea oa eb ob =
              let bs = numbered 1 (ts ++ us) in
              let k = (came ag gs ts us p ea oa eb ob).collected l z in
              let same = same_trees ag gs ts us ∙ group_step [] (map again ag) (map again gs) (unmarked bs) (short_trees ts us ea eb) k.0 in
              subst (λ st. EndedIs v o st (carried [] (regrouped ag gs ∷ []) bs)) (sym same) (last v _ _ k.1)

-- ---- there is room for the pairs
pub pairs_fit : {q : List ℕ} {at : GroupAt} {a b w : List ℕ} (s : List ℕ) → length s ≡ 192 → RegroupReady q at a b w → GroupRoom s q at
pairs_fit s e h = record {
  aggregates = h.aggregates;
  aggregates_is = h.pairs.aggregates_is;
  grouping = h.grouping;
  grouping_is = h.pairs.grouping_is;
  room = omega (arith, group_short h.aggregates h.grouping (regroups_parts h.aggregates h.grouping h.again).1, h.pairs.aggregates_ok.1, h.pairs.grouping_ok.1);
  small = omega arith;
}
