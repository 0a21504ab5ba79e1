-- A day's trays: a group-free query run tray by tray joins to what the stages give of the joined trays; where the query
-- ends in its only group, the tray results joined and grouped again are the grouping of the whole, all at once or two
-- by two.
use Rattle.std.specs.Prelude.{◌≡◌, ◌^◌, length}
use Rattle.std.proofs.Math.Path.{refl, sym, ap, ap₂, subst}
use Rattle.std.proofs.Common.{◌∙◌}
use mathlib.Core.List.{List, [], ◌∷◌, ◌++◌, append-nil}
use Rattle.std.proofs.Math.Option.{some}
use Rattle.spec_trees.specs.OptionLaws.{some_equal}
use Rattle.spec_trees.specs.Lists.{filter, All, gather, each}
use Rattle.spec_trees.specs.ListLaws.{All-left, All-right, All-imply}
use Rattle.spec_trees.specs.FilterLaws.{gather_append}
use Rattle.spec_trees.specs.Tree.{Tree}
use Rattle.spec_queries.specs.Query.{Pair, Stage, group}
use Rattle.spec_queries.specs.Again.{regrouping}
use Rattle.spec_queries.specs.AgainLaws.{regrouping_group}
use Rattle.spec_stages.specs.Group.{having, classes, upto, grouped, class_tree}
use Rattle.spec_stages.specs.Stages.{performed, going, stages}
use Rattle.spec_stages.specs.Join.{beside, in_turn, GroupFree}
use Rattle.spec_stages.specs.Trays.{Tray, tray_of, inputs, results, TrayRun, GroupGives, Grouped, Folded, nothing, alone, paired}
use Rattle.spec_stages.proofs.JoinLaws.{stages_join, stages_each, stages_append}
use Rattle.spec_stages.specs.GoingLaws.{step_accepted, stages_going}
use Rattle.spec_stages.proofs.RegroupLaws.{regroup_law}

-- ---- group-free queries
pub trays_join : (us : List Tree) (ss : List Stage) → GroupFree ss → (ks : List Tray) → All (TrayRun us ss) ks → TrayRun us ss (tray_of (inputs ks) (results ks))
unfolding gather beside in_turn
trays_join us ss f [] h = stages_each us ss f []
trays_join us ss f (k ∷ ks) h = stages_join us ss k.input (inputs ks) f ∙ ap₂ beside h.0 (trays_join us ss f ks h.1)

-- ---- accepted runs
pub run_accepted : (us : List Tree) (s : Stage) (k : Tray) → TrayRun us (s ∷ []) k → performed us s k.input ≡ some k.result
unfolding stages
run_accepted us s k h = step_accepted us s k.input h

module _ (us : List Tree) (ss : List Stage) (ag gs : List Pair) where
  -- an accepted run of the query
  pub run_grouped : (k : Tray) → TrayRun us (ss ++ (group ag gs ∷ [])) k → Grouped us ss ag gs k
  unfolding stages
  run_grouped k h =
      let x = stages us ss (going k.input) in
      let y = sym (stages_append us ss (group ag gs ∷ []) (going k.input)) ∙ h in
      let z = stages_going us (group ag gs ∷ []) x y in
      record {
        entering = z.0;
        entering_is = z.1;
        result_is = step_accepted us (group ag gs) z.0 (sym (ap (stages us (group ag gs ∷ [])) z.1) ∙ y);
      }

  -- an input has one grouping: that of an accepted run over the whole is it too
  pub grouped_same : {ts rs qs : List Tree} → Grouped us ss ag gs (tray_of ts rs) → Grouped us ss ag gs (tray_of ts qs) → rs ≡ qs
  grouped_same {ts} {rs} {qs} g h =
      let z : g.entering ≡ h.entering = cc (g.entering_is, h.entering_is) in
      some_equal rs qs (sym g.result_is ∙ ap (performed us (group ag gs)) z ∙ h.result_is)

-- ---- no tray
gather_nothing : {A B : Type 0} (xs : List A) → gather {A = A} {B = B} (λ x. []) xs ≡ []
unfolding gather
gather_nothing [] = refl
gather_nothing (x ∷ xs) = gather_nothing xs

-- no tree, no class
group_nothing : (us : List Tree) (ag gs : List Pair) → performed us (group ag gs) [] ≡ some []
unfolding performed grouped having filter classes each
group_nothing us ag gs = ap (each (class_tree ag gs)) (gather_nothing (upto (2 ^ length gs)))

-- ---- the query ends in its only group, and s is that group's regrouping
module _ (us : List Tree) (ss : List Stage) (ag gs : List Pair) (f : GroupFree ss) (s : Stage) (r : regrouping (group ag gs ∷ []) ≡ some s) where
  -- what entered the group, tray by tray
  entered : (ks : List Tray) → All (Grouped us ss ag gs) ks → List Tray
  entered [] h = []
  entered (k ∷ ks) h = tray_of h.0.entering k.result ∷ entered ks h.1

  entered_groups : (ks : List Tray) (h : All (Grouped us ss ag gs) ks) → All (GroupGives us ag gs) (entered ks h)
  unfolding entered
  entered_groups [] h = tt
  entered_groups (k ∷ ks) h = (h.0.result_is, entered_groups ks h.1)

  entered_results : (ks : List Tray) (h : All (Grouped us ss ag gs) ks) → results (entered ks h) ≡ results ks
  unfolding entered gather
  entered_results [] h = refl
  entered_results (k ∷ ks) h = ap (λ l. k.result ++ l) (entered_results ks h.1)

  entered_inputs : (ks : List Tray) (h : All (Grouped us ss ag gs) ks) → stages us ss (going (inputs ks)) ≡ going (inputs (entered ks h))
  unfolding entered gather beside in_turn
  entered_inputs [] h = stages_each us ss f []
  entered_inputs (k ∷ ks) h = stages_join us ss k.input (inputs ks) f ∙ ap₂ beside h.0.entering_is (entered_inputs ks h.1)

  -- all at once. What comes of it is itself a tray result, that of the joined trays
  pub trays_regroup : (ws : List Tree) (ks : List Tray) → All (Grouped us ss ag gs) ks → (rs : List Tree)
      → performed ws s (results ks) ≡ some rs → Grouped us ss ag gs (tray_of (inputs ks) rs)
  trays_regroup ws ks h rs z =
      let a = regrouping_group ag gs s r in
      record {
        entering = inputs (entered ks h);
        entering_is = entered_inputs ks h;
        result_is =
            sym (regroup_law us ag gs a.0 (entered ks h) (entered_groups ks h) ws)
            ∙ ap₂ (performed ws) (sym a.1) (entered_results ks h) ∙ z;
      }

  -- with every run accepted
  pub runs_regroup : (ws : List Tree) (ks : List Tray) → All (TrayRun us (ss ++ (group ag gs ∷ []))) ks → (rs : List Tree)
      → TrayRun ws (s ∷ []) (tray_of (results ks) rs) → Grouped us ss ag gs (tray_of (inputs ks) rs)
  runs_regroup ws ks h rs z = trays_regroup ws ks
      (All-imply (TrayRun us (ss ++ (group ag gs ∷ []))) (Grouped us ss ag gs) (run_grouped us ss ag gs) ks h) rs
      (run_accepted ws s (tray_of (results ks) rs) z)

  -- two results at a time
  pub two_regroup : (ws : List Tree) (j k : Tray) → Grouped us ss ag gs j → Grouped us ss ag gs k → (rs : List Tree)
      → TrayRun ws (s ∷ []) (tray_of (j.result ++ k.result) rs) → Grouped us ss ag gs (tray_of (j.input ++ k.input) rs)
  unfolding gather
  two_regroup ws j k hj hk rs z =
      let y = ap (λ l. performed ws s (j.result ++ l)) (append-nil k.result) ∙ run_accepted ws s (tray_of (j.result ++ k.result) rs) z in
      subst (λ l. Grouped us ss ag gs (tray_of (j.input ++ l) rs)) (append-nil k.input) (trays_regroup ws (j ∷ k ∷ []) (hj, (hk, tt)) rs y)

  -- so two by two in any bracketing, as one tray after another
  pub folded_regroup : (ws : List Tree) {ks : List Tray} {rs : List Tree} → Folded ws s ks rs → All (Grouped us ss ag gs) ks
      → Grouped us ss ag gs (tray_of (inputs ks) rs)
  unfolding gather in_turn
  folded_regroup ws nothing h = record { entering = []; entering_is = stages_each us ss f []; result_is = group_nothing us ag gs }
  folded_regroup ws (alone {k = k}) h = subst (λ l. Grouped us ss ag gs (tray_of l k.result)) (sym (append-nil k.input)) h.0
  folded_regroup ws (paired {js = js} {ks = ks} {ps = ps} {qs = qs} {rs = rs} a b z) h =
      subst (λ l. Grouped us ss ag gs (tray_of l rs)) (sym (gather_append (λ k. k.input) js ks))
      (two_regroup ws (tray_of (inputs js) ps) (tray_of (inputs ks) qs) (folded_regroup ws a (All-left (Grouped us ss ag gs) js ks h))
      (folded_regroup ws b (All-right (Grouped us ss ag gs) js ks h)) rs z)
