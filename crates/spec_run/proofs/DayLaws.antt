-- The theorems on trays, of the answers of the calls: what stands in the result areas of accepted tray runs joins to
-- what the definitions give for the joined trays, and grouped again it is the grouping of the whole.
use Rattle.std.specs.Prelude.{◌≡◌, refl, List, [], ◌∷◌, ◌++◌, true, ℕ, take}
use Rattle.std.proofs.Common.{sym, ap, ap₂, ◌∙◌}
use Rattle.std.proofs.Math.Option.{some}
use Rattle.spec_trees.specs.Lists.{All}
use Rattle.spec_trees.specs.ListLaws.{All-imply, All-append}
use Rattle.spec_trees.specs.Tree.{Tree}
use Rattle.spec_trees.specs.Bytes.{array_bytes}
use Rattle.spec_trees.specs.Decode.{decode_array}
use Rattle.spec_trees.specs.Within.{Within}
use Rattle.spec_trees.specs.Options.{only}
use Rattle.spec_trees.specs.OptionLaws.{some_equal}
use Rattle.spec_trees.proofs.ArrayLaws.{array_back, read_array_lem}
use Rattle.spec_queries.specs.Query.{Pair, Stage, group}
use Rattle.spec_queries.specs.Again.{regroups, regrouped, regrouping}
use Rattle.spec_queries.specs.QueryLaws.{read_query_lem}
use Rattle.spec_stages.specs.Stages.{going, stages}
use Rattle.spec_stages.specs.Join.{GroupFree}
use Rattle.spec_stages.specs.Positions.{result_positions}
use Rattle.spec_stages.specs.Trays.{Tray, tray_of, inputs, results, TrayRun, Grouped, Folded, nothing, alone, paired}
use Rattle.spec_stages.proofs.TrayLaws.{trays_join, run_grouped, grouped_same, runs_regroup, folded_regroup}
use Rattle.spec_run.specs.Run.{call, result_bytes}
use Rattle.spec_run.specs.Regroup.{regroup_call}
use Rattle.spec_run.specs.Answer.{Answered}
use Rattle.spec_run.specs.Day.{IsQuery, IsArray, RanTray, RegroupedTwo, Day, empty, one, both}
use Rattle.spec_run.proofs.RunLaws.{Gives, accepted_out, accepted_is, accepted_within, result_is}
use Rattle.spec_run.proofs.RegroupLaws.{accepted_regroup, regroup_is, regroup_within}

-- what the result bytes are read as is what was written
read_back : (b : List ℕ) (fs rs : List Tree) → b ≡ array_bytes fs → Within fs → decode_array b ≡ some rs → fs ≡ rs
read_back b fs rs e w d = some_equal fs rs (sym (array_back fs w) ∙ sym (ap decode_array e) ∙ d)

-- ---- one run
module _ {q j : List ℕ} {ss : List Stage} {us : List Tree} (iq : IsQuery q ss) (ij : IsArray j us) where
  -- answered by 0, it read these pieces, and gave what its result bytes are read as
  pub answered_gives : {i work area positions : List ℕ} {n : ℕ} {left cleared entries : List ℕ} {ts : List Tree} (fs : List Tree)
      → Answered (call q i j work area positions) 0 n left cleared entries → IsArray i ts → decode_array (take n left) ≡ some fs
      → Gives (call q i j work area positions) ss ts us fs
  answered_gives {i} {work} {area} {positions} {n} {left} {cleared} {entries} {ts} fs h ii r =
      let c = call q i j work area positions in
      let (ls, is, ws, gs, g) = accepted_out c (sym h.number_is) in
      let a : ls ≡ ss = some_equal ls ss (sym ((read_query_lem q ls).0 g.reads.query) ∙ iq.read) in
      let b : is ≡ ts = some_equal is ts (sym ((read_array_lem i is).0 g.reads.input) ∙ ii.read) in
      let d : ws ≡ us = some_equal ws us (sym ((read_array_lem j ws).0 g.reads.joined) ∙ ij.read) in
      let l : take n left ≡ array_bytes gs =
      ap₂ take h.length_is h.result_is ∙ ap result_bytes (accepted_is c ls is ws gs g) ∙ result_is area work (array_bytes gs) (result_positions ws ls is) in
      let e = read_back (take n left) gs fs l (accepted_within c ls is ws gs iq.bytes ii.bytes ij.bytes g) r in
      rw (a, b, d, e) at g

  pub ran_tray : (k : Tray) → RanTray q j k → TrayRun us ss k
  ran_tray k h = (answered_gives k.result h.answered h.input_is h.result_is).ran

  ran_trays : (ks : List Tray) → All (RanTray q j) ks → All (TrayRun us ss) ks
  ran_trays ks h = All-imply (RanTray q j) (TrayRun us ss) ran_tray ks h

  -- the results of a group-free query join to what the stages give of the joined trays, however long those are
  pub answers_join : GroupFree ss → (ks : List Tray) → All (RanTray q j) ks → TrayRun us ss (tray_of (inputs ks) (results ks))
  answers_join f ks h = trays_join us ss f ks (ran_trays ks h)

-- ---- one regrouping call
such : (ag gs : List Pair) → regroups ag gs ≡ true → regrouping (group ag gs ∷ []) ≡ some (regrouped ag gs)
unfolding regrouping only
such ag gs d = rw d refl

module _ {g : List ℕ} {ag gs : List Pair} (ig : IsQuery g (group ag gs ∷ [])) (d : regroups ag gs ≡ true) where
  regrouped_two : (ps qs rs : List Tree) → RegroupedTwo g ps qs rs → TrayRun [] (regrouped ag gs ∷ []) (tray_of (ps ++ qs) rs)
  regrouped_two ps qs rs h =
      let c = regroup_call g h.first h.second h.work h.area in
      let (ls, s, ts, us, fs, k) = accepted_regroup c (sym h.answered.number_is) in
      let a : ls ≡ group ag gs ∷ [] = some_equal ls (group ag gs ∷ []) (sym ((read_query_lem g ls).0 k.reads.query) ∙ ig.read) in
      let z : s ≡ regrouped ag gs = some_equal s (regrouped ag gs) (sym k.reads.such ∙ ap regrouping a ∙ such ag gs d) in
      let p : ts ≡ ps = some_equal ts ps (sym ((read_array_lem h.first ts).0 k.reads.first) ∙ h.first_is.read) in
      let q : us ≡ qs = some_equal us qs (sym ((read_array_lem h.second us).0 k.reads.second) ∙ h.second_is.read) in
      let l : take h.length h.left ≡ array_bytes fs =
      ap₂ take h.answered.length_is h.answered.result_is ∙ ap result_bytes (regroup_is c ls s ts us fs k) ∙ result_is h.area h.work (array_bytes fs) [] in
      let e = read_back (take h.length h.left) fs rs l (regroup_within c ls s ts us ig.bytes h.first_is.bytes h.second_is.bytes k.reads fs k) h.result_is in
      sym (ap (λ x. stages [] (x ∷ []) (going (ps ++ qs))) z) ∙ sym (ap₂ (λ x y. stages [] (s ∷ []) (going (x ++ y))) p q) ∙ k.ran ∙ ap going e

-- ---- the query ends in its only group, which has no total and whose destinations are single, distinct labels
module _ {q j : List ℕ} (ss : List Stage) {us : List Tree} (ag gs : List Pair) (iq : IsQuery q (ss ++ (group ag gs ∷ []))) (ij : IsArray j us)
    (f : GroupFree ss) (d : regroups ag gs ≡ true) where
  -- all tray results at once, by a run of the regrouping over their join
  pub answers_regroup : {r w : List ℕ} {ws : List Tree} → IsQuery r (regrouped ag gs ∷ []) → IsArray w ws
      → (ks : List Tray) → All (RanTray q j) ks → (rs : List Tree) → RanTray r w (tray_of (results ks) rs) → Grouped us ss ag gs (tray_of (inputs ks) rs)
  answers_regroup {ws = ws} ir iw ks h rs z =
      runs_regroup us ss ag gs f (regrouped ag gs) (such ag gs d) ws ks (ran_trays iq ij ks h) rs (ran_tray ir iw (tray_of (results ks) rs) z)

  -- two by two, by the regrouping call with the group alone
  module _ {g : List ℕ} (ig : IsQuery g (group ag gs ∷ [])) where
    day_folds : {ks : List Tray} {rs : List Tree} → Day q j g ks rs → Folded [] (regrouped ag gs) ks rs × All (TrayRun us (ss ++ (group ag gs ∷ []))) ks
    day_folds empty = (nothing, tt)
    day_folds (one {k = k} h) = (alone, (ran_tray iq ij k h, tt))
    day_folds (both {js = js} {ks = ks} {ps = ps} {qs = qs} {rs = rs} a b h) =
        let x = day_folds a in
        let y = day_folds b in (
          paired x.0 y.0 (regrouped_two ig d ps qs rs h),
          All-append (TrayRun us (ss ++ (group ag gs ∷ []))) js ks x.1 y.1,
        )

    pub answers_fold : {ks : List Tray} {rs : List Tree} → Day q j g ks rs → Grouped us ss ag gs (tray_of (inputs ks) rs)
    answers_fold {ks} h =
        let x = day_folds h in
        folded_regroup us ss ag gs f (regrouped ag gs) (such ag gs d) [] x.0
        (All-imply (TrayRun us (ss ++ (group ag gs ∷ []))) (Grouped us ss ag gs) (run_grouped us ss ag gs) ks x.1)

    -- so a run of the query over all trays together, where it is accepted, gives that list too
    pub answers_whole : {ks : List Tray} {rs fs : List Tree} → Day q j g ks rs → RanTray q j (tray_of (inputs ks) fs) → rs ≡ fs
    answers_whole {ks} {rs} {fs} h z =
        grouped_same us ss ag gs (answers_fold h) (run_grouped us ss ag gs (tray_of (inputs ks) fs) (ran_tray iq ij (tray_of (inputs ks) fs) z))
