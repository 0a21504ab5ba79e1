-- How a call ends whose message is in form.
use Rattle.std.specs.Prelude.{◌≡◌, List, ℕ, length, replicate, Ok, Err}
use Rattle.spec_run.specs.declared.answer.Refusal.TheVariants.{ResultLong}
use Rattle.areas.specs.Area.{Out, too_large}
use Rattle.spec_run.specs.Answer.{Answer}

-- by what the writer answered, with the area as it left it: accepted; or refused, and all is zero
pub record EndsAs (r : Out) (area left : List ℕ) (a : Answer) : Type 0 where
  pub fits : (e : ℕ) → r ≡ Ok e → (a ≡ Ok e) × (left ≡ area)
  pub large : r ≡ Err too_large → (a ≡ Err ResultLong) × (left ≡ replicate (length area) 0)
