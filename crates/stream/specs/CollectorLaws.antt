-- The algebra of feeding: one tree after another, a stop, nothing, and through a lent tail.
use Rattle.std.specs.Prelude.{◌≡◌, refl, true, false, ℕ, suc, ◌+◌, ◌-◌, ◌≤◌, replicate, Ok, Err}
use Rattle.std.proofs.Common.{sym, ◌∙◌, subst, arith, length-drop, take-add, drop_at}
use Rattle.std.proofs.Math.Path.{ap}
use mathlib.Core.List.{List, [], ◌++◌, append_assoc, append-nil}
use Rattle.std.proofs.Math.ListN.{length, take, drop, length-append}
use Rattle.std.proofs.lemmas.List.{length-replicate}
use Rattle.std.proofs.Math.Seq.{drop-append-le, length-take-le}
use Rattle.spec_trees.specs.Tree.{Tree}
use Rattle.areas.specs.Area.{Wrote, Out, too_large}
use Rattle.areas.specs.AreaLaws.{is_copied}
use Rattle.spec_trees.specs.Bytes.{bytes, tree_fs}
use Rattle.spec_queries.specs.Query.{Stage}
use Rattle.queries.specs.Places.{array_trees}
use Rattle.paths.specs.ComparedLaws.{trees_append}
use Rattle.spec_stages.specs.Stages.{State, going, large, halted, stages}
use Rattle.spec_stages.specs.Join.{beside, GroupFree}
use Rattle.spec_stages.proofs.JoinLaws.{stages_join}
use Rattle.stream.specs.declared.collector.Collector.{Collector}
use Rattle.stream.specs.declared.collector.Collector.TheVariants.{Len, Over, Large}
use Rattle.map.specs.Map.{trees_max, end_part, collector_at}
use Rattle.stream.specs.Collector.{is_large, ends, Collects, Open, Fed, Feeds, CollectReady, Collected}
use Rattle.stream.specs.Tails.{tail, lent}
use Rattle.spec_stages.proofs.StretchLaws.{stages_none, stages_large}
use Rattle.stream.specs.TailLaws.{ends_tail, ends_lent}

-- ---- the collector's part decides
collects_ends : (w v : List ℕ) (s : Collector) (xs : List ℕ) → ends v ≡ ends w → Collects w s xs → Collects v s xs
unfolding Collects
collects_ends w v (Len n) xs e h = (h.0, h.1, ap (take n) e ∙ h.2)
collects_ends w v Over xs e h = h
collects_ends w v Large xs e h = h

fed_ends : (w v : List ℕ) (r : Collector) (xs : List ℕ) (st : State) → ends v ≡ ends w → Fed w r xs st → Fed v r xs st
unfolding Fed
fed_ends w v r xs large e h = h
fed_ends w v r xs (halted i) e h = h
fed_ends w v r xs (going ys) e h = collects_ends w v r (xs ++ array_trees ys) e h

pub feeds_move : {t t2 : List ℕ} {s : Collector} {v v2 : List ℕ} {r : Collector} {st : State} → ends t2 ≡ ends t → ends v2 ≡ ends v → Feeds t2 s v2 r st → Feeds t s v r st
feeds_move {t} {t2} {s} {v} {v2} {r} {st} a b f = record { fed = λ xs h. fed_ends v2 v r xs st (sym b) (f.fed xs (collects_ends t t2 s xs a h)) }

-- ---- one state, and another
pub never_collects : (t : List ℕ) (s : Collector) (ys : List ℕ) → is_large s ≡ true → Collects t s ys → ⊥
unfolding is_large Collects
never_collects t (Len n) ys o h = let y : ◌≡◌ {A = ℕ} 0 1 = cc in omega arith
never_collects t Over ys o h = let y : ◌≡◌ {A = ℕ} 0 1 = cc in omega arith
never_collects t Large ys o h = h

joined : {t2 v : List ℕ} {s2 r : Collector} (xs : List ℕ) (a b : State) → is_large s2 ≡ false → Fed t2 s2 xs a → Feeds t2 s2 v r b → Fed v r xs (beside a b)
unfolding Fed beside is_large
joined {s2 = s2} xs large b o f k = let z : is_large s2 ≡ true = ap is_large f in let y : ◌≡◌ {A = ℕ} 0 1 = cc in absurd (omega arith)
joined xs (halted i) b o f k = absurd f
joined xs (going a) large o f k = k.fed (xs ++ array_trees a) f
joined xs (going a) (halted i) o f k = k.fed (xs ++ array_trees a) f
joined {v = v} {r = r} xs (going a) (going b) o f k =
    subst (λ (l : List ℕ). Collects v r l) (append_assoc xs (array_trees a) (array_trees b) ∙ ap (λ (l : List ℕ). xs ++ l) (sym (trees_append a b))) (k.fed (xs ++ array_trees a) f)

stopped : (t2 v : List ℕ) (s2 : Collector) (xs : List ℕ) (a b : State) → is_large s2 ≡ true → Fed t2 s2 xs a → Fed v Large xs (beside a b)
unfolding Fed beside
stopped t2 v s2 xs large b o f = refl
stopped t2 v s2 xs (halted i) b o f = absurd f
stopped t2 v s2 xs (going a) b o f = absurd (never_collects t2 s2 (xs ++ array_trees a) o f)

-- a and then b
module _ {t t2 : List ℕ} {s s2 : Collector} (v : List ℕ) (a b : State) (p : Feeds t s t2 s2 a) where
  pub feeds_beside : {r : Collector} → is_large s2 ≡ false → Feeds t2 s2 v r b → Feeds t s v r (beside a b)
  feeds_beside o k = record { fed = λ xs h. joined xs a b o (p.fed xs h) k }

  -- a tree too large ends the run at once
  pub feeds_halt : is_large s2 ≡ true → Feeds t s v Large (beside a b)
  feeds_halt o = record { fed = λ xs h. stopped t2 v s2 xs a b o (p.fed xs h) }

-- some trees and then others go through a stretch
module _ {t t2 : List ℕ} {s s2 : Collector} (v : List ℕ) (us : List Tree) (ss : List Stage) (g : GroupFree ss) (a b : List Tree) (p : Feeds t s t2 s2 (stages us ss (going a))) where
  pub feeds_more : {r : Collector} → is_large s2 ≡ false → Feeds t2 s2 v r (stages us ss (going b)) → Feeds t s v r (stages us ss (going (a ++ b)))
  feeds_more {r} o k = subst (λ x. Feeds t s v r x) (sym (stages_join us ss a b g)) (feeds_beside v (stages us ss (going a)) (stages us ss (going b)) p o k)

  pub feeds_stop : is_large s2 ≡ true → Feeds t s v Large (stages us ss (going (a ++ b)))
  feeds_stop o = subst (λ x. Feeds t s v Large x) (sym (stages_join us ss a b g)) (feeds_halt v (stages us ss (going a)) (stages us ss (going b)) p o)

feeds_nothing : (t : List ℕ) (s : Collector) → Feeds t s t s (going [])
unfolding Fed bytes tree_fs
feeds_nothing t s = record { fed = λ xs h. subst (λ (l : List ℕ). Collects t s l) (sym (append-nil xs)) h }

pub feeds_none : (t : List ℕ) (s : Collector) (us : List Tree) (ss : List Stage) → GroupFree ss → Feeds t s t s (stages us ss (going []))
feeds_none t s us ss g = subst (λ x. Feeds t s t s x) (sym (stages_none us ss g)) (feeds_nothing t s)

pub feeds_large : (t v : List ℕ) (s : Collector) (us : List Tree) (ss : List Stage) → Feeds t s v Large (stages us ss large)
unfolding Fed
feeds_large t v s us ss = subst (λ x. Feeds t s v Large x) (sym (stages_large us ss)) record { fed = λ xs h. refl }

-- ---- the collector stays open
witness : (t : List ℕ) (s : Collector) → end_part ≤ length t → Open s → (xs : List ℕ) × Collects t s xs
unfolding Open Collects
witness t (Len n) b o = (take n (ends t), (sym (length-take-le n (ends t) (omega (arith, length-drop (collector_at (length t)) t))), o, refl))
witness t Over b o = (replicate (suc trees_max) 0, omega (arith, length-replicate {A = ℕ} (suc trees_max) 0))
witness t Large b o = absurd o

collects_open : (v : List ℕ) (r : Collector) (xs : List ℕ) → Collects v r xs → Open r
unfolding Open Collects
collects_open v (Len n) xs h = h.1
collects_open v Over xs h = tt
collects_open v Large xs h = h

fed_open : (v : List ℕ) (r : Collector) (xs : List ℕ) (st : State) → is_large r ≡ false → Fed v r xs st → Open r
unfolding Fed is_large
fed_open v r xs large o f = let z : is_large r ≡ true = ap is_large f in let y : ◌≡◌ {A = ℕ} 0 1 = cc in absurd (omega arith)
fed_open v r xs (halted i) o f = absurd f
fed_open v r xs (going ys) o f = collects_open v r (xs ++ array_trees ys) f

pub feeds_open : {t v : List ℕ} {s r : Collector} {st : State} → end_part ≤ length t → Open s → Feeds t s v r st → is_large r ≡ false → Open r
feeds_open {t} {v} {s} {r} {st} b o f l = let x = witness t s b o in fed_open v r x.0 st l (f.fed x.0 x.1)

-- ---- what the feed of a lent tail did is what it did in the whole
pub feeds_lent : (a : ℕ) {t : List ℕ} (v y : List ℕ) {s r : Collector} {st : State} → a + end_part ≤ length v → ends v ≡ ends t → length y ≡ length (tail a v)
    → Feeds (tail a v) s y r st → Feeds t s (lent a v y) r st
feeds_lent a v y b n l f =
    feeds_move (ends_tail a v b ∙ n) (sym (ends_lent a v y (omega arith) l b)) f

-- ---- one tree is put behind the n bytes that the collector holds
-- where the collector begins
abbrev pub base : List ℕ → ℕ
base t = collector_at (length t)

front : (w : List ℕ) (a m : ℕ) → a ≤ length w → take m (drop a w) ≡ drop a (take (a + m) w)
front w a m b = sym (ap (drop a) (take-add a m w) ∙ drop_at (take a w) (take m (drop a w)) a (length-take-le a w b))

module _ {t v : List ℕ} {te n : ℕ} {o : Out} (h : CollectReady t te (Len n)) (l : length v ≡ length t)
    (k : Wrote t v (base t + n) (base t + trees_max) (take (te - 0) (drop 0 t)) o) where
  pub appended_end : {e : ℕ} → o ≡ Ok e → base t ≤ e
  appended_end {e} z = omega (arith, (k.fits e z).ends)

  -- so two bytes hold the number
  pub appended_short : {e : ℕ} → o ≡ Ok e → e - base t ≤ trees_max
  appended_short {e} z = omega (arith, (k.fits e z).room)

  pub appended : {e : ℕ} → o ≡ Ok e → Collected t v te (Len n) (Len (e - base t))
  unfolding Collects
  appended {e} z = record {
    taken = λ b xs f c.
        let w = (is_copied {xs = b} f k).fits e z in
        let s = length-append xs b in
        let m : base t + (e - base t) ≡ e = omega (arith, w.ends) in
        let d : length (take (base t + n) t) ≡ base t + n = length-take-le (base t + n) t (omega (arith, c.1, h.wide)) in (
          omega (arith, w.ends, c.0, s),
          omega (arith, w.room, w.ends),
          ap (λ (i : ℕ). take (e - base t) (drop (collector_at i) v)) l ∙ front v (base t) (e - base t) (omega (arith, h.wide)) ∙ ap (λ (i : ℕ). drop (base t) (take i v)) m ∙ ap (drop (base t)) w.below
              ∙ drop-append-le (base t) (take (base t + n) t) b (omega (arith, d))
              ∙ ap (λ (y : List ℕ). y ++ b) (sym (front t (base t) n (omega (arith, h.wide))) ∙ c.2),
        );
  }

  pub overflowed : o ≡ Err too_large → Collected t v te (Len n) Over
  unfolding Collects
  overflowed z = record { taken = λ b xs f c. let w = (is_copied {xs = b} f k).large z in omega (arith, w.over, c.0, length-append xs b) }

pub collect_by : {t : List ℕ} {te : ℕ} {s s2 : Collector} → s ≡ s2 → CollectReady t te s → CollectReady t te s2
collect_by {t} {te} e h = subst (λ (z : Collector). CollectReady t te z) e h

pub collected_by : {t v : List ℕ} {te : ℕ} {s s2 r : Collector} → s ≡ s2 → Collected t v te s2 r → Collected t v te s r
collected_by {t} {v} {te} {r = r} e h = subst (λ (z : Collector). Collected t v te z r) (sym e) h

pub room_of : {t : List ℕ} {te n : ℕ} → CollectReady t te (Len n) → n ≤ trees_max
unfolding Open
room_of h = h.goes

pub collected_over : (t : List ℕ) (te : ℕ) → Collected t t te Over Over
unfolding Collects
collected_over t te = record { taken = λ b xs f h. omega (arith, h, length-append xs b) }

pub collected_large : (t v : List ℕ) (te : ℕ) (r : Collector) → Collected t v te Large r
unfolding Collects
collected_large t v te r = record { taken = λ b xs f h. absurd h }
