-- Laws of carrying: what is fed and then marked is carried; one part after another; a tree too large ends the run.
use Rattle.std.specs.Prelude.{◌≡◌, List, [], ◌++◌, true, false, ℕ, ◌+◌, ◌-◌, ◌≤◌, ◌<◌, drop}
use Rattle.std.proofs.Math.Path.{refl, ap, subst}
use Rattle.std.proofs.Common.{sym, ap₂, ◌∙◌, append-nil, append_assoc, length-drop, take-take, length-take-le, take-add, take_at}
use Rattle.std.proofs.lemmas.List.{map-append}
use native.Mathlib.Omega.{arith}
use Rattle.std.proofs.Math.ListN.{length, take, length-append}
use Rattle.std.proofs.Math.Seq.{drop_at}
use Rattle.spec_trees.specs.Limits.{work_min}
use Rattle.spec_trees.specs.Tree.{Tree}
use Rattle.spec_trees.specs.Bytes.{bytes, tree_fs}
use Rattle.areas.specs.Area.{Is}
use Rattle.areas.specs.AreaLaws.{take_less, is_part_lem, is_keep, is_right}
use Rattle.spec_queries.specs.Query.{Stage}
use Rattle.queries.specs.Places.{array_trees}
use Rattle.paths.specs.ComparedLaws.{is_none, trees_append}
use Rattle.spec_stages.specs.Stages.{State, going, large, halted, stages}
use Rattle.spec_stages.specs.Join.{beside, GroupFree}
use Rattle.spec_stages.proofs.StretchLaws.{stages_none}
use Rattle.spec_stages.specs.Positions.{Borne, unmarked, marked, carried}
use Rattle.spec_stages.proofs.PositionLaws.{marked_trees}
use Rattle.spec_stages.proofs.LocalLaws.{carried_none}
use Rattle.map.specs.Map.{trees_max, lent_part, collector_at, collected_at, position_at}
use Rattle.positions.specs.Bearing.{Bears, StandFrom, Standing, Marks}
use Rattle.positions.specs.BearingLaws.{bears_keep, bears_append, bears_beyond}
use Rattle.stream.specs.declared.collector.Collector.{Collector}
use Rattle.stream.specs.declared.collector.Collector.TheVariants.{Len, Over, Large}
use Rattle.stream.specs.Collector.{is_large, Collects, Open, Fed, Feeds}
use Rattle.stream.specs.CollectorLaws.{never_collects}
use Rattle.stretch.specs.Carry.{lent_area, Holds, Taken, Carries, Shows, SinceReady, MarkedSince}

-- ---- the collector of the lent area
module _ (w : List ℕ) (l : length w ≡ work_min) where
  pub lent_length : length (lent_area w) ≡ lent_part
  lent_length = length-take-le lent_part w (omega arith)

  again : take lent_part (lent_area w) ≡ take lent_part w
  again = take-take lent_part lent_part w (omega arith)

  -- what stands where the collected trees do
  pub lent_is : {n : ℕ} {xs : List ℕ} → n ≤ trees_max → Is w collected_at (collected_at + n) xs → Is (lent_area w) collected_at (collected_at + n) xs
  lent_is b h = is_keep h {d = lent_part} again (omega arith)

  pub is_collects : {n : ℕ} {xs : List ℕ} → n ≤ trees_max → Is w collected_at (collected_at + n) xs → Collects (lent_area w) (Len n) xs
  unfolding Collects
  is_collects {n} b h =
      let i = lent_is b h in
      let m : n ≡ collected_at + n - collected_at = omega arith in
      (omega (arith, h.ends), b, ap (λ k. take n (drop (collector_at k) (lent_area w))) lent_length ∙ ap (λ k. take k (drop collected_at (lent_area w))) m ∙ is_part_lem i)

  pub collects_is : {n : ℕ} {xs : List ℕ} → Collects (lent_area w) (Len n) xs → (n ≤ trees_max) × Is w collected_at (collected_at + n) xs
  unfolding Collects
  collects_is {n} {xs} h =
      let part : take n (drop collected_at (lent_area w)) ≡ xs = ap (λ k. take n (drop (collector_at k) (lent_area w))) (sym lent_length) ∙ h.2 in
      (h.1, is_keep (stands part) {d = lent_part} (sym again) (omega (arith, h.1)))
    where
      stands : take n (drop collected_at (lent_area w)) ≡ xs → Is (lent_area w) collected_at (collected_at + n) xs
      stands e = record { lies = ap (drop collected_at) (take-add collected_at n (lent_area w)) ∙ drop_at (take collected_at (lent_area w)) (take n (drop collected_at (lent_area w))) collected_at (length-take-le collected_at (lent_area w) (omega (arith, lent_length))) ∙ e; ends = omega (arith, h.0); inside = omega (arith, h.1, lent_length) }

-- ---- what it holds
pub holds_collects : (w : List ℕ) (s : Collector) (bs : List Borne) → length w ≡ work_min → Holds w s bs → Collects (lent_area w) s (array_trees (unmarked bs))
unfolding Holds Collects
holds_collects w (Len n) bs l h = is_collects w l h.1 h.0
holds_collects w Over bs l h = h
holds_collects w Large bs l h = h

pub holds_open : (w : List ℕ) (s : Collector) (bs : List Borne) → Holds w s bs → Open s
unfolding Holds Open
holds_open w (Len n) bs h = h.1
holds_open w Over bs h = tt
holds_open w Large bs h = h

-- nothing, at first
pub holds_nothing_lem : (w : List ℕ) → length w ≡ work_min → Holds w (Len 0) []
unfolding Holds Bears bytes tree_fs
holds_nothing_lem w l = (is_none (omega arith), omega arith, tt)

-- not both
pub clash : {P : Type 0} {s : Collector} → is_large s ≡ false → s ≡ Large → P
unfolding is_large
clash {s = s} o e = let z : is_large s ≡ true = ap is_large e in let y : ◌≡◌ {A = ℕ} 0 1 = cc in absurd (omega arith)

-- what is carried is taken behind what was held
pub carries_holds : {w v : List ℕ} {s r : Collector} (st : State) (bs cs : List Borne) → Carries w s v r st bs → is_large r ≡ false → Holds w s cs → Holds v r (cs ++ bs)
unfolding Taken
carries_holds large bs cs k o h = clash o (k.taken cs h)
carries_holds (halted i) bs cs k o h = absurd (k.taken cs h)
carries_holds (going ts) bs cs k o h = (k.taken cs h).1

-- ---- none, one part and then another, and a tree that was too large
carries_nothing : (w : List ℕ) (s : Collector) → Carries w s w s (going []) []
unfolding Taken
carries_nothing w s = record { taken = λ cs h. (refl, subst (Holds w s) (sym (append-nil cs)) h) }

pub carries_none : (w : List ℕ) (s : Collector) (us : List Tree) (ss : List Stage) → GroupFree ss → Carries w s w s (stages us ss (going [])) (carried us ss [])
carries_none w s us ss g =
    subst (λ l. Carries w s w s (stages us ss (going [])) l) (sym (carried_none us ss g)) (subst (λ x. Carries w s w s x []) (sym (stages_none us ss g)) (carries_nothing w s))

taken_both : {u v : List ℕ} {t r : Collector} (a b : State) (xs ys cs : List Borne) → is_large t ≡ false → Taken u t cs a xs → Carries u t v r b ys → Taken v r cs (beside a b) (xs ++ ys)
unfolding Taken beside
taken_both large b xs ys cs o f k = clash o f
taken_both (halted i) b xs ys cs o f k = absurd f
taken_both (going a) large xs ys cs o f k = k.taken (cs ++ xs) f.1
taken_both (going a) (halted i) xs ys cs o f k = k.taken (cs ++ xs) f.1
taken_both {v = v} {r = r} (going a) (going b) xs ys cs o f k =
    let h = k.taken (cs ++ xs) f.1 in
    (map-append (λ x. x.tree) xs ys ∙ ap₂ ◌++◌ f.0 h.0, subst (Holds v r) (append_assoc cs xs ys) h.1)

pub carries_beside : {w u v : List ℕ} {s t r : Collector} (a b : State) (xs ys : List Borne) → Carries w s u t a xs → is_large t ≡ false → Carries u t v r b ys
    → Carries w s v r (beside a b) (xs ++ ys)
carries_beside a b xs ys p o k = record { taken = λ cs h. taken_both a b xs ys cs o (p.taken cs h) k }

stopped : (u v : List ℕ) (t : Collector) (a b : State) (bs cs : List Borne) (zs : List ℕ) → is_large t ≡ true → Fed u t zs a → Taken v Large cs (beside a b) bs
unfolding Fed Taken beside
stopped u v t large b bs cs zs o f = refl
stopped u v t (halted i) b bs cs zs o f = absurd f
stopped u v t (going a) b bs cs zs o f = absurd (never_collects u t (zs ++ array_trees a) o f)

pub carries_halt : (w v : List ℕ) {u : List ℕ} {s t : Collector} (a b : State) (bs : List Borne) → length w ≡ work_min → Feeds (lent_area w) s u t a → is_large t ≡ true
    → Carries w s v Large (beside a b) bs
carries_halt w v {u} {s} {t} a b bs l p o =
    record { taken = λ cs h. stopped u v t a b bs cs (array_trees (unmarked cs)) o (p.fed (array_trees (unmarked cs)) (holds_collects w s cs l h)) }

-- ---- fed, and then marked
-- the trees that were fed stand behind those that were held
record Stood (u : List ℕ) (cs : List Borne) (a b : ℕ) (ts : List Tree) : Type 0 where
  pub all_is : Is u collected_at (collected_at + b) (array_trees (unmarked cs) ++ array_trees ts)
  pub count : a ≡ length (array_trees (unmarked cs))
  pub short : b ≤ trees_max

stood_from : {u : List ℕ} {cs : List Borne} {a b : ℕ} (ts : List Tree) → Stood u cs a b ts → StandFrom u a b ts
stood_from {cs = cs} {a = a} ts h = is_right (array_trees (unmarked cs)) (array_trees ts) (omega (arith, h.count)) h.all_is

module _ (w u : List ℕ) {s r : Collector} {st : State} (lw : length w ≡ work_min) (lu : length u ≡ work_min) (f : Feeds (lent_area w) s (lent_area u) r st) where
  stood : (cs : List Borne) (a b : ℕ) (ts : List Tree) → Holds w (Len a) cs → Fed (lent_area u) (Len b) (array_trees (unmarked cs)) (going ts) → Stood u cs a b ts
  unfolding Holds Fed
  stood cs a b ts h k = let i = collects_is u lu k in record { all_is = i.1; count = omega (arith, h.0.ends); short = i.0 }

  -- there are such trees
  pub since_ready : (cs : List Borne) → Holds w s cs → SinceReady u s r
  unfolding Fed is_large
  since_ready cs h a b y z = go st (f.fed (array_trees (unmarked cs)) (holds_collects w s cs lw h))
    where
      go : (x : State) → Fed (lent_area u) r (array_trees (unmarked cs)) x → Standing u a b
      go large k = clash {s = Len b} refl (sym z ∙ k)
      go (halted i) k = absurd k
      go (going ts) k =
          let d = stood cs a b ts (subst (λ c. Holds w c cs) y h) (subst (λ c. Fed (lent_area u) c (array_trees (unmarked cs)) (going ts)) z k) in
          record { size = lu; trees = ts; trees_are = stood_from ts d; short = d.short }

  module _ (v : List ℕ) (k : ℕ) (same : drop lent_part u ≡ drop lent_part w) (m : MarkedSince u v s r k) where
    both_trees : (cs : List Borne) (ts : List Tree) → array_trees (unmarked (cs ++ marked k ts)) ≡ array_trees (unmarked cs) ++ array_trees ts
    both_trees cs ts = ap array_trees (map-append (λ b. b.tree) cs (marked k ts) ∙ ap (λ l. unmarked cs ++ l) (marked_trees k ts)) ∙ trees_append (unmarked cs) ts

    held : (cs : List Borne) (a b : ℕ) (ts : List Tree) → s ≡ Len a → r ≡ Len b → Holds w (Len a) cs → Stood u cs a b ts → Holds v (Len b) (cs ++ marked k ts)
    unfolding Holds
    held cs a b ts y z h d =
        let n = m.marks a b y z in (
          subst (Is v collected_at (collected_at + b)) (sym (both_trees cs ts)) (is_keep d.all_is {d = lent_part} m.kept (omega (arith, d.short))),
          d.short,
          bears_append v 0 cs (marked k ts) (bears_keep u v 0 cs a n.kept (omega (arith, d.count)) (bears_beyond w u lent_part (omega arith) same 0 cs h.2))
              (subst (λ i. Bears v i (marked k ts)) (omega (arith, d.count)) (n.bears ts (stood_from ts d))),
        )

    taken_one : (cs : List Borne) (ts : List Tree) (c t : Collector) → s ≡ c → r ≡ t → Holds w c cs → Fed (lent_area u) t (array_trees (unmarked cs)) (going ts)
        → Holds v t (cs ++ marked k ts)
    unfolding Holds Fed Collects
    taken_one cs ts (Len a) (Len b) y z h x = held cs a b ts y z h (stood cs a b ts h x)
    taken_one cs ts Over (Len b) y z h x = absurd (omega (arith, h, x.0, x.1, length-append (array_trees (unmarked cs)) (array_trees ts)))
    taken_one cs ts Large (Len b) y z h x = absurd h
    taken_one cs ts c Over y z h x = subst (λ l. trees_max < length l) (sym (both_trees cs ts)) x
    taken_one cs ts c Large y z h x = absurd x

    taken_fed : (cs : List Borne) (x : State) (bs : List Borne) → ((ts : List Tree) → x ≡ going ts → bs ≡ marked k ts) → Holds w s cs
        → Fed (lent_area u) r (array_trees (unmarked cs)) x → Taken v r cs x bs
    unfolding Fed Taken
    taken_fed cs large bs e h y = y
    taken_fed cs (halted i) bs e h y = y
    taken_fed cs (going ts) bs e h y =
        let z = e ts refl in
        (ap unmarked z ∙ marked_trees k ts, subst (λ l. Holds v r (cs ++ l)) (sym z) (taken_one cs ts s r refl refl h y))

    pub carries_one : (bs : List Borne) → ((ts : List Tree) → st ≡ going ts → bs ≡ marked k ts) → Carries w s v r st bs
    carries_one bs e = record { taken = λ cs h. taken_fed cs st bs e h (f.fed (array_trees (unmarked cs)) (holds_collects w s cs lw h)) }

-- ---- the trees since then are marked, or there is nothing to mark
pub since_marked : {w v : List ℕ} {a b k : ℕ} {s r : Collector} → s ≡ Len a → r ≡ Len b → Marks w v a b k → MarkedSince w v s r k
since_marked {w} {v} {a} {b} {k} y z h = record {
  kept = take_less w v lent_part (position_at a) (omega arith) h.kept;
  marks = λ c d y2 z2. let e : a ≡ c = len_same (sym y ∙ y2) in let f : b ≡ d = len_same (sym z ∙ z2) in subst (λ i. Marks w v i d k) e (subst (λ i. Marks w v a i k) f h);
}
  where
    len_same : {m n : ℕ} → Len m ≡ Len n → m ≡ n
    len_same q = cc

pub over_len : {s : Collector} {n : ℕ} → s ≡ Over → s ≡ Len n → ⊥
over_len y z = let x : ◌≡◌ {A = ℕ} 0 1 = cc in omega arith

pub large_len : {s : Collector} {n : ℕ} → s ≡ Large → s ≡ Len n → ⊥
large_len y z = let x : ◌≡◌ {A = ℕ} 0 1 = cc in omega arith

pub since_none : (w : List ℕ) (s r : Collector) (k : ℕ) → ((a b : ℕ) → s ≡ Len a → r ≡ Len b → ⊥) → MarkedSince w w s r k
since_none w s r k n = record { kept = refl; marks = λ a b y z. absurd (n a b y z) }

-- ---- the whole area, when what was lent comes back
module _ (w y : List ℕ) (l : length w ≡ work_min) (k : length y ≡ length (lent_area w)) where
  pub back_length : length (y ++ drop lent_part w) ≡ work_min
  back_length = omega (arith, length-append y (drop lent_part w), length-drop lent_part w, k, lent_length w l, l)

  pub back_lent : lent_area (y ++ drop lent_part w) ≡ y
  back_lent = take_at y (drop lent_part w) lent_part (k ∙ lent_length w l)

  pub back_behind : drop lent_part (y ++ drop lent_part w) ≡ drop lent_part w
  back_behind = drop_at y (drop lent_part w) lent_part (k ∙ lent_length w l)

-- ---- all of it, from nothing
pub shows_all : {w v : List ℕ} {r : Collector} {st : State} {bs : List Borne} → length w ≡ work_min → Carries w (Len 0) v r st bs → Shows v r st bs
shows_all {w} l k = record { taken = k.taken [] (holds_nothing_lem w l) }
