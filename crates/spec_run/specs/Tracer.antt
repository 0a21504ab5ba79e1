-- The plain answer of the call that makes an array of a tracer's message. It takes a message and a result area, and no
-- other.
use Rattle.std.specs.Prelude.{List, [], ◌∷◌, ℕ, length}
use Rattle.spec_tracer.specs.Traced.{traced}
use Rattle.spec_stages.specs.Stages.{going}
use Rattle.spec_run.specs.declared.answer.Refusal.TheVariants.{MessageMalformed}
use Rattle.spec_run.specs.Run.{Outcome, Verdict, asking, final, outcome_of}

-- 13 where no tree is made of the message; else the array of its tree alone, or 10
unfoldable pub tracer_verdict : List ℕ → ℕ → Verdict
tracer_verdict m room = asking (traced m) MessageMalformed λ t. final room [] (going (t ∷ []))

-- of a message and a result area; what is left in the area is as after a run
unfoldable pub plain_tracer : List ℕ → List ℕ → Outcome
plain_tracer m area = outcome_of area [] (tracer_verdict m (length area))
