-- Laws of the first stretch: without a stage the trees are collected as they are; else what is right for the trees that
-- are left is right for all.
use Rattle.std.specs.Prelude.{◌≡◌, refl, List, [], ◌∷◌, ◌++◌, Bool, true, false, ℕ, suc, ◌+◌, ◌-◌, ◌*◌, ◌≤◌, length, take, drop, Ok}
use Rattle.std.proofs.Common.{sym, ap, ◌∙◌, arith}
use Rattle.std.proofs.Math.Path.{subst}
use Rattle.spec_trees.specs.Limits.{array_max, tree_max, depth_max, work_min}
use Rattle.spec_trees.specs.Tree.{Tree}
use Rattle.spec_trees.specs.SizeLaws.{length_tree}
use Rattle.spec_trees.specs.Bytes.{tree_bytes}
use Rattle.spec_trees.specs.Within.{Allowed, AllowedA}
use Rattle.areas.specs.Area.{Is, Wrote, field_end, span, Out}
use Rattle.areas.specs.declared.span.Span.{Span}
use Rattle.areas.specs.AreaLaws.{is_part_lem, is_keep, told, written}
use Rattle.format.specs.Stand.{Says}
use Rattle.spec_queries.specs.Query.{Stage}
use Rattle.spec_queries.specs.Bytes.{stage_f}
use Rattle.queries.specs.Places.{array_trees, stage_bytes, stages_bytes, HoldsOk, HoldsAt, ReadsStage}
use Rattle.queries.specs.PartLaws.{list_parts, list_none}
use Rattle.queries.specs.TreesLaws.{ArrayParts, array_parts, array_none}
use Rattle.queries.specs.declared.stage.StageAt.{StageAt}
use Rattle.spec_stages.specs.Stages.{is_group, going, stages}
use Rattle.spec_stages.specs.Join.{beside}
use Rattle.spec_stages.proofs.JoinLaws.{stages_join}
use Rattle.spec_stages.specs.Stretch.{before}
use Rattle.spec_stages.proofs.StretchLaws.{before_free, before_none, before_group}
use Rattle.spec_stages.specs.Positions.{Borne, marked, numbered, carried}
use Rattle.spec_stages.proofs.PositionLaws.{numbered_trees, carried_marked}
use Rattle.spec_stages.proofs.LocalLaws.{carried_append}
use Rattle.map.specs.Map.{trees_max, lent_part, collected_at}
use Rattle.positions.specs.Bearing.{Standing, Numbers}
use Rattle.stream.specs.declared.collector.Collector.{Collector}
use Rattle.stream.specs.declared.collector.Collector.TheVariants.{Len, Large}
use Rattle.stream.specs.Collector.{is_large, ends, Feeds}
use Rattle.stream.specs.CollectorLaws.{feeds_move}
use Rattle.stream.specs.TailLaws.{ends_beyond}
use Rattle.stream.specs.Feed.{Planned, Front, FeedReady, FeedPost}
use Rattle.stretch.specs.Carry.{lent_area, Holds, Taken, Carries, Shows, SinceReady, MarkedSince}
use Rattle.stretch.specs.CarryLaws.{lent_length, holds_open, holds_nothing_lem, carries_holds, carries_none, carries_beside, carries_halt, since_ready, carries_one, back_length, back_lent, back_behind, shows_all}
use Rattle.first_stretch.specs.First.{is_group_at, none_before, TreeReady, TreeFed, FirstReady, FirstPost}

-- ---- no stage before the first group
group_at_lem : {q : List ℕ} {p m : ℕ} {x : StageAt} → ReadsStage q (span p m) x → (s : Stage) → Is q p m (stage_bytes s) → is_group_at x ≡ is_group s
unfolding is_group
group_at_lem {x = x} reads s h = go x refl
  where
    go : (x2 : StageAt) → x ≡ x2 → is_group_at x2 ≡ is_group s
    go (StageAt.Match f) w = sym (ap is_group ((reads s h).match_is f w).same)
    go (StageAt.Unwind f) w = sym (ap is_group ((reads s h).unwind_is f w).same)
    go (StageAt.Project f) w = sym (ap is_group ((reads s h).project_is f w).same)
    go (StageAt.Group f) w = sym (ap is_group ((reads s h).group_is f w).same)
    go (StageAt.Lookup f) w = sym (ap is_group ((reads s h).lookup_is f w).same)

module _ {q : List ℕ} {p e : ℕ} where
  pub none_end : p ≡ e → Says stages_bytes none_before q p e true
  none_end z ss h = sym (ap none_before (list_none stage_f ss z h))

  pub none_first : {m : ℕ} {x : StageAt} {r : Bool} → (p ≡ e → ⊥) → m ≡ field_end q p → ReadsStage q (span p m) x → r ≡ is_group_at x
      → Says stages_bytes none_before q p e r
  none_first n z reads k ss h =
      let c = list_parts stage_f ss z n h in
      k ∙ group_at_lem reads c.first c.first_is ∙ sym (ap none_before c.same)

none_before_lem : (ss : List Stage) → none_before ss ≡ true → before ss ≡ []
none_before_lem [] e = before_none
none_before_lem (s ∷ ss) e = before_group s ss e

-- the trees of the input stand where the collector begins, and bear 1, 2 and so on
module _ {inp w q : List ℕ} {p : Span} {j : List ℕ} (h : FirstReady inp w q p j) where
  pub first_stages : HoldsAt stages_bytes q p
  first_stages = record { value = h.list; value_is = h.planned.stages_is }

  module _ {v : List ℕ} {o : Out} (l : length v ≡ length w)
      (k : Wrote w v collected_at (collected_at + trees_max) (take (length inp - 3) (drop 3 inp)) o) where
    input_is : (ts : List Tree) → Is inp 3 (length inp) (array_trees ts) → Is v collected_at (collected_at + (length inp - 3)) (array_trees ts)
    input_is ts t =
        let f : Wrote w v collected_at (collected_at + trees_max) (array_trees ts) o = subst (λ x. Wrote w v collected_at (collected_at + trees_max) x o) (is_part_lem t) k in
        told o
        (λ y z.
        let i = written f (omega (arith, h.size)) z in
        let m : y ≡ collected_at + (length inp - 3) = omega (arith, i.ends, t.ends) in
        subst (λ e. Is v collected_at e (array_trees ts)) m i)
        (λ z. absurd (omega (arith, (f.large z).over, h.short, t.ends)))

    pub first_standing : Standing v 0 (length inp - 3)
    first_standing = record { size = l ∙ h.size; trees = h.input.value; trees_are = input_is h.input.value h.input.value_is; short = omega (arith, h.short) }

    module _ {x : List ℕ} (m : Numbers v x (length inp - 3)) where
      holds_input : (ts : List Tree) → Is inp 3 (length inp) (array_trees ts) → Holds x (Len (length inp - 3)) (numbered 1 ts)
      unfolding Holds
      holds_input ts t =
          let i = input_is ts t in (
            subst (λ y. Is x collected_at (collected_at + (length inp - 3)) (array_trees y)) (sym (numbered_trees 1 ts)) (is_keep i {d = lent_part} m.kept (omega (arith, h.short))),
            omega (arith, h.short),
            m.bears ts i,
          )

      pub first_copied : {r : Bool} → r ≡ true → Says stages_bytes none_before q p.from p.to r → FirstPost inp x q p j (Len (length inp - 3))
      unfolding Taken stages carried
      first_copied z none ts ss us a t d =
          let b = none_before_lem ss (sym (none ss d.stages_is) ∙ z) in
          subst (λ y. Shows x (Len (length inp - 3)) (stages us y (going ts)) (carried us y (numbered 1 ts))) (sym b)
          record { taken = (numbered_trees 1 ts, holds_input ts t) }

-- ---- one tree, in the part that is lent to the stages
module _ {t b q : List ℕ} {p : Span} {j : List ℕ} {s : Collector} (h : TreeReady t b q p j s) where
  pub tree_small : (length b ≤ tree_max) × (tree_max ≤ length t)
  tree_small = (omega (arith, ap length h.tree_is, length_tree h.tree, h.allowed.small), omega (arith, h.room))

  module _ {v : List ℕ} {o : Out} (l : length v ≡ length t) (k : Wrote t v 0 tree_max b o) where
    put : (x : Tree) → Allowed depth_max x → b ≡ tree_bytes x → Wrote t v 0 tree_max (tree_bytes x) (Ok (length b))
    put x a e =
        let f : Wrote t v 0 tree_max (tree_bytes x) o = subst (λ y. Wrote t v 0 tree_max y o) e k in
        told o
        (λ y z.
        let u : y ≡ length b = omega (arith, (f.fits y z).ends, ap length e) in
        subst (λ y2. Wrote t v 0 tree_max (tree_bytes x) y2) (z ∙ ap Ok u) f)
        (λ z. absurd (omega (arith, (f.large z).over, length_tree x, a.small)))

    front : (x : Tree) → Allowed depth_max x → b ≡ tree_bytes x → Front v (length b) x
    front x a e = record { allowed = a; tree_is = written (put x a e) (omega arith) refl }

    pub tree_feed : FeedReady v (length b) q p j s
    tree_feed = record {
      list = h.list;
      joined = h.joined;
      tree = h.tree;
      planned = h.planned;
      front = front h.tree h.allowed h.tree_is;
      room = omega (arith, h.room, l);
      small = omega (arith, h.small, l);
      goes = h.goes;
    }

    tree_ends : ends v ≡ ends t
    tree_ends =
        let f = (put h.tree h.allowed h.tree_is).fits (length b) refl in
        ends_beyond t v (length b) l (omega (arith, tree_small, h.room)) f.beyond

    pub tree_fed : {x : List ℕ} {r : Collector} → FeedPost v x (length b) q p j s r → TreeFed t x b q p j s r
    tree_fed f y ss us a e d = feeds_move tree_ends refl (f ss us y d (front y a e))

-- ---- the trees from i on, the first of which bears k
abbrev pub FirstFrom : (inp w : List ℕ) (s : Collector) (v q : List ℕ) (p : Span) (j : List ℕ) (k i : ℕ) → Collector → Type 0
FirstFrom inp w s v q p j k i r = (ts : List Tree) (ss : List Stage) (us : List Tree) → AllowedA ts → Is inp i (length inp) (array_trees ts) → Planned q p j ss us
    → Carries w s v r (stages us (before ss) (going ts)) (carried us (before ss) (numbered k ts))

pub record FirstGoing (inp w₀ q : List ℕ) (p : Span) (j w : List ℕ) (s : Collector) (k i : ℕ) : Type 0 where
  pub left : HoldsOk AllowedA array_trees inp i (length inp)
  pub same : length w ≡ length w₀
  pub borne : List Borne
  pub holds : Holds w s borne
  pub few : 6 * k ≤ i + 3
  pub right : (v : List ℕ) (r : Collector) → FirstFrom inp w s v q p j k i r → FirstFrom inp w₀ (Len 0) v q p j 1 3 r

-- the first of some trees, and the others
numbered_cons : (k : ℕ) (t : Tree) (ts : List Tree) → numbered k (t ∷ ts) ≡ marked k (t ∷ []) ++ numbered (k + 1) ts
unfolding numbered marked
numbered_cons k t ts = let z : suc k ≡ k + 1 = omega arith in ap (λ n. record { position = k; tree = t } ∷ numbered n ts) z

module _ {inp w₀ q : List ℕ} {p : Span} {j : List ℕ} (h : FirstReady inp w₀ q p j) where
  pub first_begin : FirstGoing inp w₀ q p j w₀ (Len 0) 1 3
  first_begin = record { left = h.input; same = refl; borne = []; holds = holds_nothing_lem w₀ h.size; few = omega arith; right = λ v r k. k }

  module _ {w : List ℕ} {s : Collector} {k i : ℕ} (g : FirstGoing inp w₀ q p j w s k i) where
    size : length w ≡ work_min
    size = g.same ∙ h.size

    pub first_lent : length (lent_area w) ≡ lent_part
    first_lent = lent_length w size

    pub first_end : i ≡ length inp → FirstPost inp w q p j s
    unfolding numbered
    first_end z ts ss us o t d = shows_all h.size (g.right w s last ts ss us o t d)
      where
        last : FirstFrom inp w s w q p j k i s
        last ts ss us o t d =
            subst (λ l. Carries w s w s (stages us (before ss) (going l)) (carried us (before ss) (numbered k l))) (sym (array_none ts z t)) (carries_none w s us (before ss) (before_free ss))

    module _ (n : i ≡ length inp → ⊥) {m : ℕ} (z : m ≡ field_end inp i) where
      parts : (ts : List Tree) → Is inp i (length inp) (array_trees ts) → ArrayParts inp i m (length inp) ts
      parts ts t = array_parts ts z n t

      abbrev here : ArrayParts inp i m (length inp) g.left.value
      here = parts g.left.value g.left.value_is

      pub first_places : (i + 6 ≤ m) × (m ≤ length inp) × (length inp ≤ array_max) × (6 * k ≤ i + 3)
      first_places = (here.after, here.within, h.short, g.few)

      allowed : AllowedA (here.first ∷ here.rest)
      allowed = subst AllowedA here.same g.left.allowed

      pub first_tree : TreeReady (lent_area w) (take (m - i) (drop i inp)) q p j s
      first_tree = record {
        list = h.list;
        joined = h.joined;
        planned = h.planned;
        tree = here.first;
        allowed = allowed.0;
        tree_is = is_part_lem here.first_is;
        room = omega (arith, h.room, lent_length w size);
        small = omega (arith, lent_length w size);
        goes = holds_open w s g.borne g.holds;
      }

      module _ {y : List ℕ} {r : Collector} (ly : length y ≡ length (lent_area w)) (f : TreeFed (lent_area w) y (take (m - i) (drop i inp)) q p j s r) where
        fed : (t : Tree) (ss : List Stage) (us : List Tree) → Allowed depth_max t → Is inp i m (tree_bytes t) → Planned q p j ss us
            → Feeds (lent_area w) s y r (stages us (before ss) (going (t ∷ [])))
        fed t ss us a b d = f t ss us a (is_part_lem b) d

        pub first_stop : (u : List ℕ) → is_large r ≡ true → FirstPost inp u q p j Large
        first_stop u b ts ss us a t d = shows_all h.size (g.right u Large stop ts ss us a t d)
          where
            stop : FirstFrom inp w s u q p j k i Large
            stop ts ss us a t d =
                let c = parts ts t in
                let ok = subst AllowedA c.same a in
                subst (λ x. Carries w s u Large x (carried us (before ss) (numbered k ts)))
                (sym (ap (λ l. stages us (before ss) (going l)) c.same ∙ stages_join us (before ss) (c.first ∷ []) c.rest (before_free ss)))
                (carries_halt w u (stages us (before ss) (going (c.first ∷ []))) (stages us (before ss) (going c.rest)) (carried us (before ss) (numbered k ts)) size
                (fed c.first ss us ok.0 c.first_is d) b)

        -- the whole area, as it comes back
        abbrev u : List ℕ
        u = y ++ drop lent_part w

        size_u : length u ≡ work_min
        size_u = back_length w y size ly

        pub first_back : length u ≡ length w₀
        first_back = size_u ∙ sym h.size

        fed_back : (t : Tree) (ss : List Stage) (us : List Tree) → Allowed depth_max t → Is inp i m (tree_bytes t) → Planned q p j ss us
            → Feeds (lent_area w) s (lent_area u) r (stages us (before ss) (going (t ∷ [])))
        fed_back t ss us a b d = subst (λ x. Feeds (lent_area w) s x r (stages us (before ss) (going (t ∷ [])))) (sym (back_lent w y size ly)) (fed t ss us a b d)

        pub first_since : SinceReady u s r
        first_since =
            since_ready w u size size_u (fed_back here.first h.list h.joined allowed.0 here.first_is h.planned) g.borne g.holds

        module _ {v : List ℕ} (lv : length v ≡ length u) (e : MarkedSince u v s r k) where
          one : (t : Tree) (ss : List Stage) (us : List Tree) → Allowed depth_max t → Is inp i m (tree_bytes t) → Planned q p j ss us
              → Carries w s v r (stages us (before ss) (going (t ∷ []))) (carried us (before ss) (marked k (t ∷ [])))
          one t ss us a b d =
              carries_one w u size size_u (fed_back t ss us a b d) v k (back_behind w y size ly) e (carried us (before ss) (marked k (t ∷ []))) (λ fs x. carried_marked us (before ss) k (t ∷ []) x)

          pub first_again : is_large r ≡ false → FirstGoing inp w₀ q p j v r (k + 1) m
          first_again b = record {
            left = record { value = here.rest; allowed = allowed.1; value_is = here.rest_is };
            same = lv ∙ size_u ∙ sym h.size;
            borne = g.borne ++ carried h.joined (before h.list) (marked k (here.first ∷ []));
            holds = carries_holds _ _ g.borne (one here.first h.list h.joined allowed.0 here.first_is h.planned) b g.holds;
            few = omega (arith, first_places);
            right = λ x r2 next. g.right x r2 (λ ts ss us a t d.
                let c = parts ts t in
                let ok = subst AllowedA c.same a in
                let both = carries_beside (stages us (before ss) (going (c.first ∷ []))) (stages us (before ss) (going c.rest))
                (carried us (before ss) (marked k (c.first ∷ []))) (carried us (before ss) (numbered (k + 1) c.rest))
                (one c.first ss us ok.0 c.first_is d) b (next c.rest ss us ok.1 c.rest_is d) in
                let same_state : stages us (before ss) (going ts) ≡ beside (stages us (before ss) (going (c.first ∷ []))) (stages us (before ss) (going c.rest)) =
                ap (λ l. stages us (before ss) (going l)) c.same ∙ stages_join us (before ss) (c.first ∷ []) c.rest (before_free ss) in
                let same_borne : carried us (before ss) (numbered k ts) ≡ carried us (before ss) (marked k (c.first ∷ [])) ++ carried us (before ss) (numbered (k + 1) c.rest) =
                ap (λ l. carried us (before ss) (numbered k l)) c.same ∙ ap (carried us (before ss)) (numbered_cons k c.first c.rest)
                ∙ carried_append us (before ss) (before_free ss) (marked k (c.first ∷ [])) (numbered (k + 1) c.rest) in
                subst (λ st. Carries w s x r2 st (carried us (before ss) (numbered k ts))) (sym same_state)
                (subst (λ l. Carries w s x r2 (beside (stages us (before ss) (going (c.first ∷ []))) (stages us (before ss) (going c.rest))) l) (sym same_borne) both));
          }
