-- Totals, of the answers of calls: what stands in the result area of an accepted run that ends in a group has, under the
-- destination of each total, the total of the array that entered the group. And no regrouping is refused by 12.
use Rattle.std.specs.Prelude.{◌≡◌, List, [], ◌∷◌, ◌++◌, map, Bool, true, false, cond, ◌&&◌, ℕ, length, leb}
use Rattle.std.proofs.Common.{sym, ap, subst, ◌∙◌, arith}
use Rattle.std.proofs.Math.Option.{Option, none, some}
use Rattle.spec_trees.specs.Limits.{array_max, work_min}
use Rattle.spec_trees.specs.Lists.{All}
use Rattle.spec_trees.specs.Options.{maybe}
use Rattle.spec_trees.specs.Tree.{Tree}
use Rattle.spec_trees.specs.Size.{array_size}
use Rattle.spec_trees.specs.Bytes.{array_bytes}
use Rattle.spec_trees.specs.Readers.{Tested, accepted}
use Rattle.spec_trees.specs.Decode.{read_array}
use Rattle.spec_queries.specs.Query.{Pair, Stage, group}
use Rattle.spec_queries.specs.Decode.{read_query}
use Rattle.spec_queries.specs.Again.{again, distinct_targets, regrouped, regrouping}
use Rattle.spec_queries.specs.AgainLaws.{regrouping_group, regrouping_alone}
use Rattle.spec_queries.specs.RegroupingLaws.{plain_again}
use Rattle.spec_stages.specs.Totals.{total}
use Rattle.spec_stages.specs.Group.{grouped}
use Rattle.spec_stages.specs.Stages.{too_long, overflow, State, going, halted, entering, performed, leaving, after, step, stages}
use Rattle.spec_stages.specs.Trays.{Tray}
use Rattle.spec_stages.proofs.TrayLaws.{run_grouped}
use Rattle.spec_stages.specs.FitLaws.{plain_fits}
use Rattle.spec_stages.proofs.TotalReadLaws.{group_totals}
use Rattle.spec_run.specs.declared.answer.Refusal.{Refusal}
use Rattle.spec_run.specs.declared.answer.Refusal.TheVariants.{WorkShort, QueryLong, QueryMalformed, InputLong, InputMalformed, TotalLarge, ResultLong}
use Rattle.spec_run.specs.Refusal.{number_of}
use Rattle.spec_run.specs.Run.{Verdict, gives, refused, reading, asking, refusal_at, final, number_in}
use Rattle.spec_run.specs.Regroup.{RegroupCall, regroup_verdict_of, regroup_verdict}
use Rattle.spec_run.specs.Day.{IsQuery, IsArray, RanTray}
use Rattle.spec_run.proofs.RunLaws.{reading_holds, asking_holds, cond_holds}
use Rattle.spec_run.proofs.DayLaws.{ran_tray}

-- ---- the query ends in a group whose destinations are single labels, no two equal
module _ {q j : List ℕ} (ss : List Stage) {us : List Tree} (ag gs : List Pair) (iq : IsQuery q (ss ++ (group ag gs ∷ []))) (ij : IsArray j us)
    (d : distinct_targets ag gs ≡ true) where
  -- the trees that entered it, and what the result has of them under each total's destination
  pub answers_totals : (k : Tray) → RanTray q j k
      → (ts : List Tree) × (stages us ss (going k.input) ≡ going ts) × All (λ p. p.is_total ≡ true → total p.target k.result ≡ total p.source ts) ag
  answers_totals k h =
      let g = run_grouped us ss ag gs k (ran_tray iq ij k h) in
      (g.entering, g.entering_is, group_totals us ag gs d g.entering k.result g.result_is)

-- ---- no regrouping is refused by 12
abbrev NotTotal : Verdict → Type 0
NotTotal x = x ≡ refused TotalLarge → ⊥

reading_not : {A : Type 0} (x : Tested A) (r s : Refusal) (f : A → Verdict) → NotTotal (refused r) → NotTotal (refused s) → ((a : A) → x ≡ accepted a → NotTotal (f a))
    → NotTotal (reading x r s f)
reading_not = reading_holds NotTotal

asking_not : {A : Type 0} (x : Option A) (r : Refusal) (f : A → Verdict) → NotTotal (refused r) → ((a : A) → x ≡ some a → NotTotal (f a)) → NotTotal (asking x r f)
asking_not = asking_holds NotTotal

after_not : (room : ℕ) (x : Option (List Tree)) → NotTotal (final room [] (after x))
unfolding final after
after_not room none e = let z : ◌≡◌ {A = ℕ} 0 1 = cc in omega arith
after_not room (some ts) e = go (leb (array_size ts) array_max && leb (array_size ts) room) e
  where
    go : (b : Bool) → NotTotal (cond b (gives (array_bytes ts) []) (refused ResultLong))
    go true e = let z : ◌≡◌ {A = ℕ} 0 1 = cc in omega arith
    go false e = let z : ◌≡◌ {A = ℕ} 0 1 = cc in omega arith

halted_not : (room : ℕ) → NotTotal (final room [] (halted too_long))
unfolding final refusal_at
halted_not room e = let z : ◌≡◌ {A = ℕ} 0 1 = cc in omega arith

-- a group of which no aggregate is a total
again_not : (room : ℕ) (ag gs : List Pair) (ts : List Tree) → NotTotal (final room [] (stages [] (regrouped ag gs ∷ []) (going ts)))
unfolding stages step entering maybe
again_not room ag gs ts = go (leb (array_size ts) array_max) (plain_fits (map again ag) (plain_again ag) (grouped (map again gs) ts))
  where
    rest : State
    rest = after (leaving (performed [] (regrouped ag gs) ts))

    go : (b : Bool) {f : Bool} → f ≡ true → NotTotal (final room [] (maybe rest halted (cond b (cond f none (some overflow)) (some too_long))))
    go true z = rw z (after_not room (leaving (performed [] (regrouped ag gs) ts)))
    go false z = halted_not room

other_not : (r : Refusal) → (number_of r ≡ 12 → ⊥) → NotTotal (refused r)
unfolding number_in
other_not r n e = n (ap number_in e)

cond_not : (b : Bool) (x : Verdict) (r : Refusal) → NotTotal x → NotTotal (refused r) → NotTotal (cond b x (refused r))
cond_not = cond_holds NotTotal

pub regroup_not_total : (c : RegroupCall) → regroup_verdict c ≡ refused TotalLarge → ⊥
unfolding regroup_verdict regroup_verdict_of
regroup_not_total c =
    let room = length c.result in
    cond_not (leb work_min (length c.work)) _ WorkShort
    (reading_not (read_query c.query) QueryLong QueryMalformed _ (other_not QueryLong (λ z. omega arith)) (other_not QueryMalformed (λ z. omega arith)) λ ss e.
    asking_not (regrouping ss) QueryMalformed _ (other_not QueryMalformed (λ z. omega arith)) λ s k.
    reading_not (read_array c.first) InputLong InputMalformed _ (other_not InputLong (λ z. omega arith)) (other_not InputMalformed (λ z. omega arith)) λ ts a.
    reading_not (read_array c.second) InputLong InputMalformed _ (other_not InputLong (λ z. omega arith)) (other_not InputMalformed (λ z. omega arith)) λ us b.
    such ss s k room (ts ++ us))
    (other_not WorkShort (λ z. omega arith))
  where
    such : (ss : List Stage) (s : Stage) → regrouping ss ≡ some s → (room : ℕ) (ts : List Tree) → NotTotal (final room [] (stages [] (s ∷ []) (going ts)))
    such ss s k room ts =
        let (ag, gs, z) = regrouping_alone ss s k in
        let g = regrouping_group ag gs s (sym (ap regrouping z) ∙ k) in
        subst (λ x. NotTotal (final room [] (stages [] (x ∷ []) (going ts)))) (sym g.1) (again_not room ag gs ts)
