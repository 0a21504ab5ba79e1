-- What the tests of the regrouping call say: what it has read, or the refusal.
use Rattle.std.specs.Prelude.{◌≡◌, List, ℕ, ◌≤◌, Ok, Err, Result}
use Rattle.spec_trees.specs.Limits.{work_min}
use Rattle.spec_trees.specs.Tree.{Tree}
use Rattle.spec_trees.specs.Readers.{accepted}
use Rattle.spec_trees.specs.Decode.{read_array}
use Rattle.spec_queries.specs.Query.{Stage}
use Rattle.spec_queries.specs.Decode.{read_query}
use Rattle.spec_queries.specs.Again.{regrouping}
use Rattle.queries.specs.declared.stage.GroupAt.{GroupAt}
use Rattle.trays.specs.TrayGroup.{IsTrayGroup}
use Rattle.spec_run.specs.declared.answer.Refusal.{Refusal}
use Rattle.spec_run.specs.declared.answer.Refusal.TheVariants.{QueryMalformed, InputLong, InputMalformed}
use Rattle.spec_run.specs.Run.{Verdict, reading, asking}
use Rattle.spec_run.specs.Regroup.{regroup_verdict_of}
use Rattle.checks.specs.Check.{Early}

-- the query is read as a tray group alone whose pairs stand there, and the arrays as these trees
pub record Read (q a b : List ℕ) (at : GroupAt) : Type 0 where
  pub stages : List Stage
  pub query_is : read_query q ≡ accepted stages
  pub such : IsTrayGroup q stages at
  pub first : List Tree
  pub first_is : read_array a ≡ accepted first
  pub second : List Tree
  pub second_is : read_array b ≡ accepted second

-- the two arrays, and then f; before them whether the query is a tray group alone
abbrev pub both_read : (a b : List ℕ) → (Stage → List Tree → List Tree → Verdict) → Stage → Verdict
both_read a b f s = reading (read_array a) InputLong InputMalformed λ ts. reading (read_array b) InputLong InputMalformed λ us. f s ts us

abbrev pub tested : (a b : List ℕ) → List Stage → (Stage → List Tree → List Tree → Verdict) → Verdict
tested a b ss f = asking (regrouping ss) QueryMalformed (both_read a b f)

-- behind that of the query
pub record TraysCheck (q a b : List ℕ) (r : Result GroupAt Refusal) : Type 0 where
  pub passed : (at : GroupAt) → r ≡ Ok at → Read q a b at
  pub refuses : (t : Refusal) → r ≡ Err t → (ss : List Stage) → read_query q ≡ accepted ss
      → (f : Stage → List Tree → List Tree → Verdict) → Early (tested a b ss f) t

-- all of them; work is the length of the work area
pub record RegroupChecked (q a b : List ℕ) (work : ℕ) (r : Result GroupAt Refusal) : Type 0 where
  pub passed : (at : GroupAt) → r ≡ Ok at → (work_min ≤ work) × Read q a b at
  pub refuses : (t : Refusal) → r ≡ Err t → (room : ℕ) → Early (regroup_verdict_of q a b work room) t
