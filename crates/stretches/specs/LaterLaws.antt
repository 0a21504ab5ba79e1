-- Laws of the later stretches: one after another they come to what the plain run's stages come to.
use Rattle.std.proofs.Math.Path.{◌≡◌, ap, subst}
use Rattle.std.specs.Prelude.{refl, List, ◌∷◌, Bool, true, false, ℕ, suc, ◌+◌, ◌≤◌, ◌<◌, length, Ok, Err}
use Rattle.std.proofs.Common.{sym, ◌∙◌, arith}
use Rattle.spec_trees.specs.Limits.{array_max, depth_max, stages_max}
use Rattle.spec_trees.specs.Lists.{All}
use Rattle.spec_trees.specs.ListLaws.{All-left}
use Rattle.spec_trees.specs.Tree.{Tree, trees}
use Rattle.spec_trees.specs.Size.{array_size}
use Rattle.spec_trees.specs.SizeLaws.{length_tree_fs}
use Rattle.spec_trees.specs.Within.{Allowed, AllowedA}
use Rattle.areas.specs.Area.{Is, IsAt}
use Rattle.areas.specs.declared.span.Span.{Span}
use Rattle.spec_queries.specs.Query.{Pair, Stage, group}
use Rattle.spec_queries.specs.Rules.{OkS}
use Rattle.queries.specs.Places.{array_trees, pairs_bytes, stages_bytes, HoldsAt, Pairs}
use Rattle.spec_stages.specs.Group.{grouped, totals_fit}
use Rattle.spec_stages.specs.FitLaws.{fit_classes}
use Rattle.spec_stages.specs.Flat.{flat}
use Rattle.spec_stages.specs.PermutesLaws.{All-permutes, permutes_back}
use Rattle.spec_stages.proofs.GroupedLaws.{grouped_permutes}
use Rattle.spec_stages.specs.Stages.{too_long, overflow, State, going, large, halted, step, stages}
use Rattle.spec_stages.proofs.KeepLaws.{stages_allowed}
use Rattle.stream.specs.declared.collector.Collector.{Collector}
use Rattle.stream.specs.declared.collector.Collector.TheVariants.{Len, Over, Large}
use Rattle.spec_stages.specs.Stretch.{before, behind}
use Rattle.spec_stages.proofs.StretchLaws.{before_behind, before_short, stretch, stages_large, stages_halted, shorter, behind_ok}
use Rattle.spec_stages.proofs.LeaveLaws.{group_step, group_overflow, group_long}
use Rattle.spec_stages.specs.Positions.{Borne, unmarked, origin, carry, carried}
use Rattle.spec_stages.proofs.PositionLaws.{carried_then, carried_bear, carry_group, origin_bear}
use Rattle.map.specs.Map.{trees_max, collected_at}
use Rattle.map.specs.MapLaws.{group_fits}
use Rattle.positions.specs.Bearing.{Position, Bears}
use Rattle.stream.specs.Collector.{is_large}
use Rattle.stream.specs.Feed.{Planned}
use Rattle.key_index.specs.Index.{Collected}
use Rattle.arrange.specs.Arrange.{Arranges}
use Rattle.std.specs.Prelude.{Option as Maybe, Some, None, Result, IsErrAnd}
use Rattle.std.proofs.lemmas.Result.{err_from_is_err_and}
use Rattle.stretches.specs.declared.ended.Failure.{Failure}
use Rattle.stretches.specs.Ended.{Ended, HeldIs, FullIs, EndedIs}
use Rattle.stretches.specs.Later.{Grouped, Allows, LastPost, HeldReady, GroupedIs, HeldPost, LaterReady, LaterPost}
use Rattle.stretch.specs.declared.next.StretchAt.{StretchAt}
use Rattle.stretch.specs.Carry.{Positions, Holds, Taken, Shows}
use Rattle.stretch.specs.CarryLaws.{clash}
use Rattle.group_stretch.specs.Group.{GroupReady, GroupPost, through, borne_through}
use Rattle.classes.specs.Read.{Stems, ClassesAt}
use Rattle.classes.specs.Fit.{PairsFit}
use Rattle.stretch.specs.Next.{StretchIs, NextPost}
use Rattle.stretches.specs.declared.ended.Failure.TheVariants as failure

-- what a `?` hands on
pub failure_on : {A : Type 0} {e : Failure} (r : Result A Failure) → IsErrAnd r (λ u. u ≡ e) → r ≡ Err e
failure_on r h = let p = err_from_is_err_and r h in p.1 ∙ ap Err p.2

-- ---- sizes
pub size_is : (ts : List Tree) → array_size ts ≡ 3 + length (array_trees ts)
unfolding array_size
size_is ts = omega (arith, length_tree_fs (trees ts))

-- ---- what a collector shows
shown_held : (w : List ℕ) (n : ℕ) (st : State) (bs : List Borne) → Shows w (Len n) st bs → (st ≡ going (unmarked bs)) × Holds w (Len n) bs
unfolding Taken is_large
shown_held w n (going ts) bs h = (ap going (sym h.taken.0), h.taken.1)
shown_held w n large bs h = clash {s = Len n} refl h.taken
shown_held w n (halted i) bs h = absurd h.taken

shown_over : (w : List ℕ) (st : State) (bs : List Borne) → Shows w Over st bs → FullIs st
unfolding Taken Holds is_large
shown_over w (going ts) bs h =
    record { trees = ts; same = refl; over = omega (arith, subst (λ l. trees_max < length (array_trees l)) h.taken.0 h.taken.1, size_is ts) }
shown_over w large bs h = clash {s = Over} refl h.taken
shown_over w (halted i) bs h = absurd h.taken

shown_large : (w : List ℕ) (st : State) (bs : List Borne) → Shows w Large st bs → st ≡ large
unfolding Taken Holds
shown_large w (going ts) bs h = absurd h.taken.1
shown_large w large bs h = refl
shown_large w (halted i) bs h = absurd h.taken

holds_is : (w : List ℕ) (n : ℕ) (bs : List Borne) → Holds w (Len n) bs → Is w collected_at (collected_at + n) (array_trees (unmarked bs)) × (n ≤ trees_max) × Bears w 0 bs
unfolding Holds
holds_is w n bs h = h

-- the trees of an array are few
pub holds_short : (w : List ℕ) (n : ℕ) (bs : List Borne) → Holds w (Len n) bs → array_size (unmarked bs) ≤ array_max
holds_short w n bs h = let i = holds_is w n bs h in omega (arith, size_is (unmarked bs), i.0.ends, i.1)

-- ---- no group is left
module _ {s : Collector} where
  pub last_held : {n : ℕ} → s ≡ Len n → LastPost s (Ok n)
  last_held {n} z w st bs h =
      let x = shown_held w n st bs (subst (λ y. Shows w y st bs) z h) in
      let i = holds_is w n bs x.1 in
      record {
        held = λ m q.
            let e : n ≡ m = cc in
            subst (λ k. HeldIs w k st bs) e record { same = x.0; trees_are = i.0; bears = i.2; short = omega (arith, i.1) };
        full = λ q. let y : ◌≡◌ {A = ℕ} 0 1 = cc in absurd (omega arith);
        large_is = λ q. let y : ◌≡◌ {A = ℕ} 0 1 = cc in absurd (omega arith);
        long_is = λ q. let y : ◌≡◌ {A = ℕ} 0 1 = cc in absurd (omega arith);
        overflow_is = λ q. let y : ◌≡◌ {A = ℕ} 0 1 = cc in absurd (omega arith);
      }

  pub last_full : s ≡ Over → LastPost s (Err failure.Full)
  last_full z w st bs h = record {
    held = λ m q. let y : ◌≡◌ {A = ℕ} 0 1 = cc in absurd (omega arith);
    full = λ q. shown_over w st bs (subst (λ y. Shows w y st bs) z h);
    large_is = λ q. let y : ◌≡◌ {A = ℕ} 0 1 = cc in absurd (omega arith);
    long_is = λ q. let y : ◌≡◌ {A = ℕ} 0 1 = cc in absurd (omega arith);
    overflow_is = λ q. let y : ◌≡◌ {A = ℕ} 0 1 = cc in absurd (omega arith);
  }

  pub last_large : s ≡ Large → LastPost s (Err failure.Large)
  last_large z w st bs h = record {
    held = λ m q. let y : ◌≡◌ {A = ℕ} 0 1 = cc in absurd (omega arith);
    full = λ q. let y : ◌≡◌ {A = ℕ} 0 1 = cc in absurd (omega arith);
    large_is = λ q. shown_large w st bs (subst (λ y. Shows w y st bs) z h);
    long_is = λ q. let y : ◌≡◌ {A = ℕ} 0 1 = cc in absurd (omega arith);
    overflow_is = λ q. let y : ◌≡◌ {A = ℕ} 0 1 = cc in absurd (omega arith);
  }

ends_large : (w : List ℕ) {st : State} (bs : List Borne) → st ≡ large → EndedIs w (Err failure.Large) st bs
ends_large w bs z = record {
  held = λ m q. let y : ◌≡◌ {A = ℕ} 0 1 = cc in absurd (omega arith);
  full = λ q. let y : ◌≡◌ {A = ℕ} 0 1 = cc in absurd (omega arith);
  large_is = λ q. z;
  long_is = λ q. let y : ◌≡◌ {A = ℕ} 0 1 = cc in absurd (omega arith);
  overflow_is = λ q. let y : ◌≡◌ {A = ℕ} 0 1 = cc in absurd (omega arith);
}

pub ends_long : (w : List ℕ) {st : State} (bs : List Borne) → st ≡ halted too_long → EndedIs w (Err failure.Long) st bs
ends_long w bs z = record {
  held = λ m q. let y : ◌≡◌ {A = ℕ} 0 1 = cc in absurd (omega arith);
  full = λ q. let y : ◌≡◌ {A = ℕ} 0 1 = cc in absurd (omega arith);
  large_is = λ q. let y : ◌≡◌ {A = ℕ} 0 1 = cc in absurd (omega arith);
  long_is = λ q. z;
  overflow_is = λ q. let y : ◌≡◌ {A = ℕ} 0 1 = cc in absurd (omega arith);
}

pub ends_overflow : (w : List ℕ) {st : State} (bs : List Borne) → st ≡ halted overflow → EndedIs w (Err failure.Overflow) st bs
ends_overflow w bs z = record {
  held = λ m q. let y : ◌≡◌ {A = ℕ} 0 1 = cc in absurd (omega arith);
  full = λ q. let y : ◌≡◌ {A = ℕ} 0 1 = cc in absurd (omega arith);
  large_is = λ q. let y : ◌≡◌ {A = ℕ} 0 1 = cc in absurd (omega arith);
  long_is = λ q. let y : ◌≡◌ {A = ℕ} 0 1 = cc in absurd (omega arith);
  overflow_is = λ q. z;
}

-- ---- the stretches from here on
module _ {q : List ℕ} {p : Span} {r : Maybe StretchAt} (k : NextPost q p r) where
  pub later_last : (w : List ℕ) {j : List ℕ} (s : Collector) (o : Ended) → r ≡ None → LastPost s o → LaterPost w w q p j s o
  unfolding stages carried
  later_last w s o z f st bs ss us h a b d =
      subst (λ l. EndedIs w o (stages us l st) (carried us l bs)) (sym ((k ss d.stages_is).none z)) (f w st bs h)

  pub later_large : (w : List ℕ) {j : List ℕ} {s : Collector} → s ≡ Large → LaterPost w w q p j s (Err failure.Large)
  later_large w z st bs ss us h a b d =
      ends_large w (carried us (behind ss) bs) (ap (stages us (behind ss)) (shown_large w st bs (subst (λ y. Shows w y st bs) z h)) ∙ stages_large us (behind ss))

  module _ {at : StretchAt} (z : r ≡ Some at) where
    here : (ss : List Stage) → IsAt q p (stages_bytes ss) → StretchIs q p ss at
    here ss h = (k ss h).group_is at z

    pub later_places : {j : List ℕ} (ss : List Stage) (us : List Tree) → Planned q p j ss us → (p.from + 3 ≤ at.next.from) × (at.next.from ≤ at.next.to) × (at.next.to ≡ p.to)
    later_places ss us d = let x = here ss d.stages_is in (x.after, x.within, x.end)

    module _ {j : List ℕ} (ss : List Stage) (us : List Tree) (d : Planned q p j ss us) where
      abbrev part : StretchIs q p ss at
      part = here ss d.stages_is

      oks : All OkS (group part.aggregates part.grouping ∷ part.others)
      oks = subst (All OkS) part.same (behind_ok ss d.stages_ok)

      pairs_of : Pairs q at.group part.aggregates part.grouping
      pairs_of = record { aggregates_ok = oks.0.0; aggregates_is = part.aggregates_is; grouping_ok = oks.0.1; grouping_is = part.grouping_is }

      planned_of : Planned q at.next j part.others us
      planned_of = record { stages_ok = oks.1; stages_is = part.others_is; joined_ok = d.joined_ok; joined_is = d.joined_is }

      few_of : length ss ≤ stages_max → length part.others < stages_max
      few_of b =
          let a : length (behind ss) ≡ suc (length part.others) = ap length part.same in
          omega (arith, (shorter ss).1)

      rest_is : (st : State) → stages us (behind ss) st ≡ stages us part.others (step us (group part.aggregates part.grouping) st)
      unfolding stages
      rest_is st = ap (λ l. stages us l st) part.same

      -- what the group and the stages up to the next one make of these trees
      next_state : List Tree → State
      next_state ts = through us part.others part.aggregates part.grouping (grouped part.grouping ts)

      -- where the totals of its classes fit
      fits_next : List Tree → Bool
      fits_next ts = totals_fit part.aggregates (grouped part.grouping ts)

      next_is : (ts : List Tree) → array_size ts ≤ array_max → fits_next ts ≡ true → stages us (behind ss) (going ts) ≡ stages us (behind part.others) (next_state ts)
      unfolding next_state through fits_next
      next_is ts b f =
          rest_is (going ts) ∙ ap (stages us part.others) (group_step us part.aggregates part.grouping ts b f) ∙ stretch us part.others _

      -- and the positions that they bear
      next_borne : List Borne → List Borne
      next_borne bs = carried us (before part.others) (carry us (group part.aggregates part.grouping) bs)

      borne_is : (bs : List Borne) → carried us (behind ss) bs ≡ carried us (behind part.others) (next_borne bs)
      unfolding next_borne carried
      borne_is bs =
          ap (λ l. carried us l bs) part.same
          ∙ ap (λ l. carried us l (carry us (group part.aggregates part.grouping) bs)) (sym (before_behind part.others))
          ∙ carried_then us (before part.others) (behind part.others) (carry us (group part.aggregates part.grouping) bs)

      next_positions : (bs : List Borne) → Positions bs → Positions (next_borne bs)
      unfolding next_borne carried
      next_positions bs o = carried_bear Position us (group part.aggregates part.grouping ∷ before part.others) bs o

      next_allows : (ts : List Tree) → AllowedA ts → array_size ts ≤ array_max → fits_next ts ≡ true → Allows (next_state ts)
      unfolding next_state through fits_next stages
      next_allows ts a b f = go (next_state ts) (ap (stages us (before part.others)) (group_step us part.aggregates part.grouping ts b f))
        where
          ok : All OkS (group part.aggregates part.grouping ∷ before part.others)
          ok = (oks.0, All-left OkS (before part.others) (behind part.others) (subst (All OkS) (sym (before_behind part.others)) oks.1))

          go : (x : State) → stages us (group part.aggregates part.grouping ∷ before part.others) (going ts) ≡ x → Allows x
          go (going ys) y = stages_allowed us (group part.aggregates part.grouping ∷ before part.others) ts ys d.joined_ok ok a y
          go large y = tt
          go (halted h) y = tt

    -- an array that is too long enters it
    pub later_long : (w : List ℕ) {j : List ℕ} {s : Collector} → s ≡ Over → LaterPost w w q p j s (Err failure.Long)
    later_long w y st bs ss us h a b d =
        let x = shown_over w st bs (subst (λ l. Shows w l st bs) y h) in
        let c = part ss us d in
        ends_long w (carried us (behind ss) bs) (rest_is ss us d st ∙ ap (λ l. stages us c.others (step us (group c.aggregates c.grouping) l)) x.same
        ∙ ap (stages us c.others) (group_long us c.aggregates c.grouping x.trees x.over) ∙ stages_halted us c.others too_long)

    module _ {w : List ℕ} {s : Collector} {n : ℕ} (y : s ≡ Len n) where
      held : (st : State) (bs : List Borne) → Shows w s st bs → (st ≡ going (unmarked bs)) × Holds w (Len n) bs
      held st bs h = shown_held w n st bs (subst (λ l. Shows w l st bs) y h)

      held_allowed : (st : State) (bs : List Borne) → Shows w s st bs → Allows st → AllowedA (unmarked bs)
      held_allowed st bs h a = subst Allows (held st bs h).0 a

      held_short : (st : State) (bs : List Borne) → Shows w s st bs → array_size (unmarked bs) ≤ array_max
      held_short st bs h = holds_short w n bs (held st bs h).1

      module _ {j : List ℕ} (l : LaterReady w q p j s) where
        abbrev ss₀ : List Stage
        ss₀ = l.list

        abbrev us₀ : List Tree
        us₀ = l.joined

        abbrev bs₀ : List Borne
        bs₀ = l.borne

        pub later_held : HeldReady w n q at j
        later_held =
            let c = part ss₀ us₀ l.planned in
            let b = few_of ss₀ us₀ l.planned l.few in
            record {
              plan = record {
                aggregates = c.aggregates;
                grouping = c.grouping;
                pairs = pairs_of ss₀ us₀ l.planned;
                list = c.others;
                joined = us₀;
                planned = planned_of ss₀ us₀ l.planned;
                room = group_fits (length (before c.others)) (omega (arith, before_short c.others));
                small = omega arith;
              };
              borne = bs₀;
              allowed = held_allowed l.state bs₀ l.shown l.allowed;
              positions = l.positions;
              holds = (held l.state bs₀ l.shown).1;
              size = l.size;
            }

        module _ {x : List ℕ} {g : Grouped} (b : length x ≡ length w) (i : HeldPost w x n q at j g) where
          came : (st : State) (bs : List Borne) (ss : List Stage) (us : List Tree) → Shows w s st bs → Allows st → Positions bs → (d : Planned q p j ss us)
              → GroupedIs x (fits_next ss us d (unmarked bs)) (next_state ss us d (unmarked bs)) (next_borne ss us d bs) g
          unfolding next_state next_borne fits_next
          came st bs ss us h a v d =
              i (part ss us d).aggregates (part ss us d).grouping bs (part ss us d).others us
              (pairs_of ss us d) (held_allowed st bs h a) v (held st bs h).1 (planned_of ss us d)

          -- a total does not fit
          pub later_overflow : {failed : Failure} → g ≡ Err failed → LaterPost w x q p j s (Err failed)
          unfolding fits_next
          later_overflow {failed} e st bs ss us h a v d =
              let c = part ss us d in
              let o = (came st bs ss us h a v d).overflow failed e in
              rw o.0 (ends_overflow x (carried us (behind ss) bs) (rest_is ss us d st
              ∙ ap (λ l. stages us c.others (step us (group c.aggregates c.grouping) l)) (held st bs h).0
              ∙ ap (stages us c.others) (group_overflow us c.aggregates c.grouping (unmarked bs) (held_short st bs h) o.1)
              ∙ stages_halted us c.others overflow))

          module _ {o : Collector} (e : g ≡ Ok o) where
            shown : (st : State) (bs : List Borne) (ss : List Stage) (us : List Tree) → Shows w s st bs → Allows st → Positions bs → (d : Planned q p j ss us)
                → (fits_next ss us d (unmarked bs) ≡ true) × Shows x o (next_state ss us d (unmarked bs)) (next_borne ss us d bs)
            shown st bs ss us h a v d = (came st bs ss us h a v d).collected o e

            pub later_ready : LaterReady x q at.next j o
            later_ready = record {
              state = next_state ss₀ us₀ l.planned (unmarked bs₀);
              borne = next_borne ss₀ us₀ l.planned bs₀;
              shown = (shown l.state bs₀ ss₀ us₀ l.shown l.allowed l.positions l.planned).1;
              allowed = next_allows ss₀ us₀ l.planned (unmarked bs₀) (held_allowed l.state bs₀ l.shown l.allowed) (held_short l.state bs₀ l.shown)
                  (shown l.state bs₀ ss₀ us₀ l.shown l.allowed l.positions l.planned).0;
              positions = next_positions ss₀ us₀ l.planned bs₀ l.positions;
              list = (part ss₀ us₀ l.planned).others;
              joined = us₀;
              planned = planned_of ss₀ us₀ l.planned;
              few = omega (arith, few_of ss₀ us₀ l.planned l.few);
              size = b ∙ l.size;
            }

            pub later_next : {x2 : List ℕ} {o2 : Ended} → LaterPost x x2 q at.next j o o2 → LaterPost w x2 q p j s o2
            later_next {x2} {o2} c st bs ss us h a v d =
                let k = shown st bs ss us h a v d in
                let ts = unmarked bs in
                let all = c (next_state ss us d ts) (next_borne ss us d bs) (part ss us d).others us k.1
                (next_allows ss us d ts (held_allowed st bs h a) (held_short st bs h) k.0) (next_positions ss us d bs v) (planned_of ss us d) in
                subst (λ y2. EndedIs x2 o2 y2 (carried us (behind ss) bs)) (sym (ap (stages us (behind ss)) (held st bs h).0 ∙ next_is ss us d ts (held_short st bs h) k.0))
                (subst (λ l2. EndedIs x2 o2 (stages us (behind (part ss us d).others) (next_state ss us d ts)) l2) (sym (borne_is ss us d bs)) all)

-- after some stretches: what those that are left come to is what all come to
pub record LaterGoing (w₀ q : List ℕ) (p₀ : Span) (j : List ℕ) (s₀ : Collector) (w : List ℕ) (s : Collector) (p : Span) : Type 0 where
  pub same : length w ≡ length w₀
  pub ready : LaterReady w q p j s
  pub whole : {v : List ℕ} {r : Ended} → LaterPost w v q p j s r → LaterPost w₀ v q p₀ j s₀ r

-- ---- the collected array is arranged at the front
grouped_allowed : (gs : List Pair) (ts : List Tree) → AllowedA ts → AllowedA (flat (grouped gs ts))
grouped_allowed gs ts o = All-permutes (Allowed depth_max) (permutes_back (grouped_permutes gs ts)) o

-- each class of trees that bear positions has one
stems_of : (gs : List Pair) (bs : List Borne) → Positions bs → Stems (λ t. origin gs t bs) (grouped gs (unmarked bs))
stems_of gs bs o = origin_bear Position gs bs o

module _ {w : List ℕ} {n : ℕ} {q : List ℕ} {at : StretchAt} {j : List ℕ} (r : HeldReady w n q at j) where
  collected : {ags gs : List Pair} (bs : List Borne) → Pairs q at.group ags gs → AllowedA (unmarked bs) → Holds w (Len n) bs → Collected w q at.group.keys n
  collected {gs = gs} bs hp o h =
      let i = holds_is w n bs h in
      record { size = r.size; short = i.1; grouping = gs; few = hp.grouping_ok.1; grouping_is = hp.grouping_is; borne = bs; trees_ok_lem = o; trees_is = i.0; bears = i.2 }

  pub held_collected : Collected w q at.group.keys n
  held_collected = collected r.borne r.plan.pairs r.allowed r.holds

  module _ {x : List ℕ} (l : length x ≡ length w) (k : Arranges w x q at.group.keys n) where
    -- the classes stand there, and the aggregates
    pub held_classes : ClassesAt x n
    unfolding held_collected collected
    held_classes = record {
      stem = λ t. origin r.plan.grouping t r.borne;
      classes = grouped r.plan.grouping (unmarked r.borne);
      stems = stems_of r.plan.grouping r.borne r.positions;
      allowed = grouped_allowed r.plan.grouping (unmarked r.borne) r.allowed;
      stands = k held_collected;
      short = held_collected.short;
      size = l ∙ r.size;
    }

    pub held_aggregates : HoldsAt pairs_bytes q at.group.aggregates
    held_aggregates = record { value = r.plan.aggregates; value_is = r.plan.pairs.aggregates_is }

    module _ {f : Bool} (fits : PairsFit x n q at.group.aggregates f) where
      -- whether the totals fit, of whatever stands there
      fits_are : (ags gs : List Pair) (bs : List Borne) → Pairs q at.group ags gs → AllowedA (unmarked bs) → Positions bs → Holds w (Len n) bs
          → f ≡ totals_fit ags (grouped gs (unmarked bs))
      unfolding collected
      fits_are ags gs bs hp a v h =
          fits ags (λ t. origin gs t bs) (grouped gs (unmarked bs)) hp.aggregates_is (stems_of gs bs v) (grouped_allowed gs (unmarked bs) a) (k (collected bs hp a h))

      pub held_overflow : f ≡ false → HeldPost w x n q at j (Err failure.Overflow)
      held_overflow z ags gs bs ss us hp a v h hl = record {
        collected = λ c e. let y : ◌≡◌ {A = ℕ} 0 1 = cc in absurd (omega arith);
        overflow = λ e y. let i : failure.Overflow ≡ e = cc in (sym i, sym (fits_are ags gs bs hp a v h) ∙ z);
      }

      -- where they do
      module _ (z : f ≡ true) where
        fit : (ags gs : List Pair) (bs : List Borne) → Pairs q at.group ags gs → AllowedA (unmarked bs) → Positions bs → Holds w (Len n) bs
            → totals_fit ags (grouped gs (unmarked bs)) ≡ true
        fit ags gs bs hp a v h = sym (fits_are ags gs bs hp a v h) ∙ z

        pub held_group : GroupReady x n q at j
        unfolding held_classes
        held_group = record {
          plan = r.plan;
          size = l ∙ r.size;
          stem = held_classes.stem;
          classes = held_classes.classes;
          stems = held_classes.stems;
          allowed = held_classes.allowed;
          fits = λ ags gs hp.
              fit_classes ags held_classes.classes
              (sym (fits ags held_classes.stem held_classes.classes hp.aggregates_is held_classes.stems held_classes.allowed held_classes.stands) ∙ z);
          stands = held_classes.stands;
          short = held_classes.short;
        }

        pub held_post : (x2 : List ℕ) (o : Collector) → GroupPost x x2 n q at j o → HeldPost w x2 n q at j (Ok o)
        unfolding collected borne_through
        held_post x2 o p ags gs bs ss us hp a v h hl =
            let e = fit ags gs bs hp a v h in
            let shown = subst (λ b. Shows x2 o (through us ss ags gs (grouped gs (unmarked bs))) (carried us (before ss) b)) (sym (carry_group us ags gs bs))
            (p ags gs (λ t. origin gs t bs) (grouped gs (unmarked bs)) ss us hp (stems_of gs bs v)
            (grouped_allowed gs (unmarked bs) a, fit_classes ags (grouped gs (unmarked bs)) e) (k (collected bs hp a h)) hl) in
            record {
              collected = λ c y. let d : o ≡ c = cc in (e, subst (λ i. Shows x2 i (through us ss ags gs (grouped gs (unmarked bs))) (carried us (before ss) (carry us (group ags gs) bs))) d shown);
              overflow = λ e y. let i : ◌≡◌ {A = ℕ} 0 1 = cc in absurd (omega arith);
            }
