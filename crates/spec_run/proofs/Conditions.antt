-- Conditions 2 and 3 of document 01 for the plain run: what follows for each stage alone, and for a list of stages.
-- That a run of the code answers as the plain run is its promise, `Answered`; what then follows of the code stands in
-- crate `certificate`.
use Rattle.std.specs.Prelude.{◌≡◌, refl, List, [], ◌∷◌, Bool, true, false, cond, ℕ, ◌≤◌, length}
use Rattle.std.proofs.Math.Path.{ap}
use Rattle.std.proofs.Common.{◌∙◌}
use Rattle.std.proofs.Math.Option.{none, some}
use Rattle.spec_trees.specs.Limits.{depth_max, array_max, work_min, positions_min}
use Rattle.spec_trees.specs.Options.{maybe}
use Rattle.spec_trees.specs.OptionLaws.{leb_yes}
use Rattle.spec_trees.specs.Lists.{filter, all, gather, each}
use Rattle.spec_trees.specs.ListLaws.{All-filter, All-gather}
use Rattle.spec_trees.specs.Tree.{Tree}
use Rattle.spec_trees.specs.Size.{array_size, fits}
use Rattle.spec_trees.specs.Bytes.{array_bytes}
use Rattle.spec_trees.specs.Within.{Allowed, AllowedA, Within}
use Rattle.spec_trees.proofs.ArrayLaws.{array_back, read_array_lem}
use Rattle.spec_queries.specs.Query.{Path, Criterion, Item, Pair, Stage, match, unwind, project, group, lookup}
use Rattle.spec_queries.specs.Bytes.{query_bytes}
use Rattle.spec_queries.specs.Rules.{OkQ}
use Rattle.spec_queries.specs.QueryLaws.{query_back, read_query_lem}
use Rattle.spec_stages.specs.Criteria.{holds}
use Rattle.spec_stages.specs.Unwind.{unwound}
use Rattle.spec_stages.specs.Project.{projected}
use Rattle.spec_stages.specs.Lookup.{looked}
use Rattle.spec_stages.specs.Group.{grouped, class_tree, totals_fit}
use Rattle.spec_stages.specs.Stages.{too_long, overflow, State, going, halted, entering, performed, leaving, after, step, stages}
use Rattle.spec_stages.specs.Positions.{result_positions}
use Rattle.spec_stages.proofs.UnwoundLaws.{unwound_allowed}
use Rattle.spec_stages.proofs.StageLaws.{fits_of}
use Rattle.spec_stages.proofs.LeaveLaws.{projected_leave, looked_leave, classes_leave}
use Rattle.spec_run.specs.Run.{Call, call, final, Outcome, outcome_of, positions_after, plain_run, plain_positions}
use Rattle.spec_run.proofs.RunLaws.{reads_verdict}

all_fit : (ts : List Tree) → AllowedA ts → all fits ts ≡ true
unfolding all
all_fit [] h = refl
all_fit (t ∷ ts) h = rw (fits_of h.0) (all_fit ts h.1)

leave : (ts : List Tree) → AllowedA ts → leaving (some ts) ≡ some ts
unfolding leaving
leave ts h = rw (all_fit ts h) refl

halts_or : (b : Bool) (x : State) → maybe x halted (cond b none (some overflow)) ≡ cond b x (halted overflow)
unfolding maybe
halts_or true x = refl
halts_or false x = refl

-- ---- condition 2: a stage over an array within the limits, with a joined array within the limits, comes to what
-- document 01's
-- definition of the stage gives, or to 8 where a tree tested in it is too large, or to 12 where a total does not fit: no
-- test is left to be named
pub stage_alone : (us ts : List Tree) → Within ts → (s : Stage) → OkQ (s ∷ [])
    → step us s (going ts) ≡ maybe (after (performed us s ts)) halted (entering s ts)
unfolding step entering maybe performed
stage_alone us ts w (match c) o =
    ap after (leave (filter (holds c) ts) (All-filter (Allowed depth_max) (holds c) ts w.allowed))
stage_alone us ts w (unwind p) o =
    let fit : (t : Tree) → Allowed depth_max t → AllowedA (unwound p t) = λ t h. unwound_allowed p t o.stages.0 h in
    ap after (leave (gather (unwound p) ts) (All-gather (Allowed depth_max) (Allowed depth_max) (unwound p) fit ts w.allowed))
stage_alone us ts w (project is) o = ap after (projected_leave is ts)
stage_alone us ts w (group ag gs) o = ap (λ x. maybe (after x) halted (entering (group ag gs) ts)) (classes_leave ag gs (grouped gs ts))
stage_alone us ts w (lookup q r p) o = ap after (looked_leave q r p us ts w.allowed)

-- an input and a joined array within the limits, a work and a position area that are long enough, any result area
module _ (ts us : List Tree) (wt : Within ts) (wu : Within us)
    (work : List ℕ) (enough : work_min ≤ length work) (area positions : List ℕ) (entries : positions_min ≤ length positions) where
  -- the call with the query of these stages
  abbrev asked : List Stage → Call
  asked ss = call (query_bytes ss) (array_bytes ts) (array_bytes us) work area positions

  -- its outcome, and the position area after it
  abbrev ran : List Stage → Outcome × List ℕ
  ran ss = (plain_run (asked ss), plain_positions (asked ss))

  -- those of a run whose stages come to this state, the trees of the list bearing their positions
  abbrev comes : List Stage → State → Outcome × List ℕ
  comes ss st =
      let x = final (length area) (result_positions us ss ts) st in
      (outcome_of area work x, positions_after positions x)

  -- what a list of stages, of none to eight, comes to: one statement about the whole list
  pub run_stages : (ss : List Stage) → OkQ ss → ran ss ≡ comes ss (stages us ss (going ts))
  unfolding plain_run plain_positions
  run_stages ss o =
      ap (λ x. (outcome_of area work x, positions_after positions x))
      (reads_verdict (asked ss) ss ts us
      record {
        enough = enough;
        entries = entries;
        query = (read_query_lem (query_bytes ss) ss).1 (query_back ss o);
        input = (read_array_lem (array_bytes ts) ts).1 (array_back ts wt);
        joined = (read_array_lem (array_bytes us) us).1 (array_back us wu);
      })

  -- the query of one stage
  pub run_alone : (s : Stage) → OkQ (s ∷ []) → ran (s ∷ []) ≡ comes (s ∷ []) (maybe (after (performed us s ts)) halted (entering s ts))
  unfolding stages
  run_alone s o = run_stages (s ∷ []) o ∙ ap (comes (s ∷ [])) (stage_alone us ts wt s o)

  -- ---- and so, stage by stage
  -- the trees that meet the criterion, in order
  pub match_alone : (c : Criterion) → OkQ (match c ∷ [])
      → ran (match c ∷ []) ≡ comes (match c ∷ []) (going (filter (holds c) ts))
  unfolding performed entering maybe after
  match_alone c o = run_alone (match c) o

  -- the outcomes of each tree, in order
  pub unwind_alone : (p : Path) → OkQ (unwind p ∷ [])
      → ran (unwind p ∷ []) ≡ comes (unwind p ∷ []) (going (gather (unwound p) ts))
  unfolding performed entering maybe after
  unwind_alone p o = run_alone (unwind p) o

  -- what the items make of each tree; 8, if one is too large
  pub project_alone : (is : List Item) → OkQ (project is ∷ [])
      → ran (project is ∷ []) ≡ comes (project is ∷ []) (after (each (projected is) ts))
  unfolding performed entering maybe
  project_alone is o = run_alone (project is) o

  -- the tree of each class; 12, if a total of one does not fit; else 8, if one is too large
  pub group_alone : (ag gs : List Pair) → OkQ (group ag gs ∷ [])
      → ran (group ag gs ∷ []) ≡ comes (group ag gs ∷ []) (cond (totals_fit ag (grouped gs ts)) (after (each (class_tree ag gs) (grouped gs ts))) (halted overflow))
  unfolding performed entering
  group_alone ag gs o =
      run_alone (group ag gs) o
      ∙ ap (λ b. comes (group ag gs ∷ []) (maybe (after (each (class_tree ag gs) (grouped gs ts))) halted (cond b (cond (totals_fit ag (grouped gs ts)) none (some overflow)) (some too_long))))
      (leb_yes (array_size ts) array_max wt.small)
      ∙ ap (comes (group ag gs ∷ [])) (halts_or (totals_fit ag (grouped gs ts)) (after (each (class_tree ag gs) (grouped gs ts))))

  -- each tree with its place of the joined trees that match; 8, if one is too large
  pub lookup_alone : (q r p : Path) → OkQ (lookup q r p ∷ [])
      → ran (lookup q r p ∷ []) ≡ comes (lookup q r p ∷ []) (after (each (looked q r p us) ts))
  unfolding performed entering maybe
  lookup_alone q r p o = run_alone (lookup q r p) o
