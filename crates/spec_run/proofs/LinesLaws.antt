-- Where a line came from, of the answers of calls: the lines of an accepted run are what its input, numbered from 1, is
-- carried to, and for a group-free query those that bear i hang on the i-th input tree alone.
use Rattle.std.specs.Prelude.{◌≡◌, refl, List, ℕ, suc, ◌≤◌, length, drop}
use Rattle.std.proofs.Common.{sym, ap, subst, ◌∙◌}
use Rattle.std.proofs.Math.ListN.{get_elem?}
use Rattle.spec_trees.specs.Lists.{All}
use Rattle.spec_trees.specs.Tree.{Tree}
use Rattle.spec_queries.specs.Query.{Stage}
use Rattle.spec_stages.specs.Join.{GroupFree}
use Rattle.spec_stages.specs.Positions.{Borne, unmarked, numbered, carried, result_positions, lines, bearing}
use Rattle.spec_stages.proofs.PositionLaws.{lines_front, result_trees, result_lines, carried_within}
use Rattle.spec_stages.proofs.LocalLaws.{carried_local}
use Rattle.spec_run.specs.Run.{call}
use Rattle.spec_run.specs.Day.{IsQuery, IsArray}
use Rattle.spec_run.specs.Lines.{RanLines}
use Rattle.spec_run.proofs.RunLaws.{accepted_positions}
use Rattle.spec_run.proofs.DayLaws.{answered_gives}

module _ {q j : List ℕ} {ss : List Stage} {us : List Tree} (iq : IsQuery q ss) (ij : IsArray j us) where
  module _ {ts : List Tree} {ls : List Borne} (run : RanLines q j ts ls) where
    -- the lines are what the input, numbered from 1, is carried to
    pub runs_carried : ls ≡ carried us ss (numbered 1 ts)
    runs_carried =
        let fs = run.result in
        let c = call q run.input j run.work run.area run.positions in
        let g = answered_gives iq ij fs run.answered run.input_is run.result_is in
        let p = accepted_positions c ss ts us fs g in
        run.lines_are ∙ ap (λ e. lines e fs) (run.answered.positions_is ∙ p.0)
        ∙ lines_front (result_positions us ss ts) (drop (length fs) run.positions) fs p.1
        ∙ result_lines us ss ts g.ran

    -- one line for each result tree, in order
    pub runs_lined : unmarked ls ≡ run.result
    runs_lined =
        let g = answered_gives iq ij run.result run.answered run.input_is run.result_is in
        ap unmarked runs_carried ∙ result_trees us ss ts g.ran

    -- every line bears the position of an input tree
    pub runs_within : All (λ l. (1 ≤ l.position) × (l.position ≤ length ts)) ls
    runs_within = subst (All (λ l. (1 ≤ l.position) × (l.position ≤ length ts))) (sym runs_carried) (carried_within us ss ts)

  -- Locality: for a group-free query and two accepted runs over inputs of equal count, an equal i-th input tree gives
  -- equal result trees bearing its position, in equal order, however the other inputs differ. Here i counts from 0, and
  -- positions count from 1
  pub runs_local : GroupFree ss → {ts₁ ts₂ : List Tree} {ls₁ ls₂ : List Borne} → RanLines q j ts₁ ls₁ → RanLines q j ts₂ ls₂
      → length ts₁ ≡ length ts₂ → (i : ℕ) → get_elem? ts₁ i ≡ get_elem? ts₂ i → bearing (suc i) ls₁ ≡ bearing (suc i) ls₂
  runs_local free {ts₁} {ts₂} run₁ run₂ counts i same =
      rw (runs_carried run₁, runs_carried run₂, carried_local us ss free i ts₁, carried_local us ss free i ts₂, same) refl
