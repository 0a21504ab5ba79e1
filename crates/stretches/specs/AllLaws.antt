-- The first stretch and the later ones come to what the plain run's stages come to.
use Rattle.std.specs.Prelude.{◌≡◌, refl, List, ℕ, ◌≤◌, length}
use Rattle.std.proofs.Common.{sym, ap, subst, ◌∙◌, arith}
use Rattle.spec_trees.specs.Limits.{positions_min, work_min}
use Rattle.spec_trees.specs.Lists.{All}
use Rattle.spec_trees.specs.ListLaws.{All-left, All-imply}
use Rattle.spec_trees.specs.Tree.{Tree}
use Rattle.spec_trees.specs.Bytes.{array_bytes}
use Rattle.spec_trees.specs.SizeLaws.{length_array}
use Rattle.spec_trees.specs.Within.{Within, AllowedA}
use Rattle.spec_queries.specs.Query.{Stage}
use Rattle.spec_queries.specs.Bytes.{query_bytes}
use Rattle.spec_queries.specs.Rules.{OkS, OkQ}
use Rattle.queries.specs.TreesLaws.{array_reads}
use Rattle.queries.specs.Places.{ReadsQuery}
use Rattle.areas.specs.declared.span.Span.{Span}
use Rattle.spec_stages.specs.Stages.{State, going, large, halted, stages}
use Rattle.spec_stages.proofs.KeepLaws.{stages_allowed}
use Rattle.stream.specs.declared.collector.Collector.{Collector}
use Rattle.spec_stages.specs.Stretch.{before, behind}
use Rattle.spec_stages.proofs.StretchLaws.{before_behind, stretch, before_short}
use Rattle.spec_stages.specs.Positions.{numbered, carried}
use Rattle.spec_stages.proofs.PositionLaws.{carried_then, carried_within}
use Rattle.map.specs.MapLaws.{first_fits}
use Rattle.positions.specs.BearingLaws.{few_trees}
use Rattle.stream.specs.Feed.{Planned}
use Rattle.stretches.specs.Ended.{Ended, EndedIs, Forms, Runs}
use Rattle.first_stretch.specs.First.{FirstReady, FirstPost}
use Rattle.stretch.specs.Carry.{Positions}
use Rattle.stretches.specs.Later.{Allows, LaterReady, LaterPost}
use Rattle.stretches.specs.LaterLaws.{size_is}

module _ {q : List ℕ} {x : Span} (reads : ReadsQuery q x) where
  plan : {j : List ℕ} (ss : List Stage) (us : List Tree) → q ≡ query_bytes ss → OkQ ss → j ≡ array_bytes us → Within us → Planned q x j ss us
  plan {j} ss us a b c d = record { stages_ok = b.stages; stages_is = reads ss a; joined_ok = d.allowed; joined_is = array_reads j us c }

  module _ {i j : List ℕ} (h : Forms q i j) (w : List ℕ) (l : length w ≡ work_min) where
    pub all_first : FirstReady i w q x j
    all_first = record {
      input = record { value = h.input; allowed = h.input_ok.allowed; value_is = array_reads i h.input h.input_is };
      short = omega (arith, ap length h.input_is, length_array h.input, h.input_ok.small);
      list = h.query;
      joined = h.joined;
      planned = plan h.query h.joined h.query_is h.query_ok h.joined_is h.joined_ok;
      room = first_fits (length (before h.query)) (omega (arith, before_short h.query, h.query_ok.count));
      size = l;
    }

    module _ {v : List ℕ} {s : Collector} (k : length v ≡ length w) (f : FirstPost i v q x j s) where
      allows : (ss : List Stage) (ts us : List Tree) → All OkS ss → AllowedA ts → AllowedA us → (st : State) → stages us (before ss) (going ts) ≡ st → Allows st
      allows ss ts us a b c (going ys) y =
          stages_allowed us (before ss) ts ys c (All-left OkS (before ss) (behind ss) (subst (All OkS) (sym (before_behind ss)) a)) b y
      allows ss ts us a b c large y = tt
      allows ss ts us a b c (halted h) y = tt

      positions_of : (ss : List Stage) (ts us : List Tree) → Within ts → Positions (carried us (before ss) (numbered 1 ts))
      positions_of ss ts us o =
          let n : length ts ≤ positions_min = omega (arith, few_trees ts, size_is ts, o.small) in
          All-imply _ _ (λ b k. (k.0, omega (arith, k.1))) (carried us (before ss) (numbered 1 ts)) (carried_within us (before ss) ts)

      pub all_later : LaterReady v q x j s
      all_later =
          let p = plan h.query h.joined h.query_is h.query_ok h.joined_is h.joined_ok in
          record {
            state = stages h.joined (before h.query) (going h.input);
            borne = carried h.joined (before h.query) (numbered 1 h.input);
            shown = f h.input h.query h.joined h.input_ok.allowed (array_reads i h.input h.input_is) p;
            allowed = allows h.query h.input h.joined h.query_ok.stages h.input_ok.allowed h.joined_ok.allowed _ refl;
            positions = positions_of h.query h.input h.joined h.input_ok;
            list = h.query;
            joined = h.joined;
            planned = p;
            few = h.query_ok.count;
            size = k ∙ l;
          }

      pub all_runs : {u : List ℕ} {r : Ended} → LaterPost v u q x j s r → Runs q i j u r
      all_runs {u} {r} g ss ts us a b c d e1 o =
          let p = plan ss us a b e1 o in
          let borne : carried us ss (numbered 1 ts) ≡ carried us (behind ss) (carried us (before ss) (numbered 1 ts)) =
          ap (λ l. carried us l (numbered 1 ts)) (sym (before_behind ss)) ∙ carried_then us (before ss) (behind ss) (numbered 1 ts) in
          subst (λ st. EndedIs u r st (carried us ss (numbered 1 ts))) (sym (stretch us ss (going ts)))
          (subst (λ bs. EndedIs u r (stages us (behind ss) (stages us (before ss) (going ts))) bs) (sym borne)
          (g (stages us (before ss) (going ts)) (carried us (before ss) (numbered 1 ts)) ss us (f ts ss us d.allowed (array_reads i ts c) p)
          (allows ss ts us b.stages d.allowed o.allowed _ refl) (positions_of ss ts us d) p))
