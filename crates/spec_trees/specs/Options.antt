-- Values that may be missing. The value tested is an argument, never the scrutinee of an `elim`, so that a proof can
-- rewrite it.
use Rattle.std.specs.Prelude.{Bool, true, false}
use Rattle.std.proofs.Math.Option.{Option, none, some}

infixl 1 ◌>>=◌
unfoldable pub ◌>>=◌ : {A B : Type 0} → Option A → (A → Option B) → Option B
◌>>=◌ none f = none
◌>>=◌ (some a) f = f a

-- x, but only if the test passes
unfoldable pub only : {A : Type 0} → Bool → Option A → Option A
only true x = x
only false x = none

-- f of what is there, or b
unfoldable pub maybe : {A B : Type 0} → B → (A → B) → Option A → B
maybe b f none = b
maybe b f (some a) = f a

unfoldable pub some? : {A : Type 0} → Option A → Bool
some? none = false
some? (some a) = true
