-- Each stage alone, from the promise of `run` and what one stage comes to.
use Rattle.std.specs.Prelude.{◌≡◌, refl, List, [], ◌∷◌, ℕ}
use Rattle.std.proofs.Common.{ap, ◌∙◌}
use Rattle.spec_trees.specs.Bytes.{array_bytes}
use Rattle.spec_queries.specs.Bytes.{query_bytes}
use Rattle.spec_run.specs.Run.{call, outcome_of, plain_run, plain_positions}
use Rattle.spec_run.specs.Answer.{numbered, lengthened, Answered, Answer}
use Rattle.spec_run.proofs.Conditions.{run_alone}
use Rattle.certificate.specs.Alone.{AloneGives}

pub alone_gives : {q i j w r p : List ℕ} {a : Answer} {left work noted : List ℕ} → Answered (call q i j w r p) (numbered a) (lengthened a) left work noted
    → AloneGives q i j w r p a left noted
unfolding outcome_of
alone_gives {q} {i} {j} {w} {r} {p} h s ts us o wt wu eq ei ej enough entries =
    let e : call q i j w r p ≡ call (query_bytes (s ∷ [])) (array_bytes ts) (array_bytes us) w r p = rw (eq, ei, ej) refl in
    let y = run_alone ts us wt wu w enough r p entries s o in
    let x : plain_run (call q i j w r p) ≡ _ = ap plain_run e ∙ ap (λ z. z.0) y in (
      record { number_is = h.number_is ∙ ap (λ z. z.number) x; length_is = h.length_is ∙ ap (λ z. z.length) x; result_is = h.result_is ∙ ap (λ z. z.result) x },
      h.positions_is ∙ ap plain_positions e ∙ ap (λ z. z.1) y,
    )
