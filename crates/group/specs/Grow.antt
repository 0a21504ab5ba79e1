-- A tree that grows pair by pair: what each pair of a group adds to the tree of a class, and what was added.
use Rattle.std.specs.Prelude.{◌≡◌, List, [], ◌∷◌, true, cond, ℕ, ◌+◌, ◌*◌, ◌≤◌, length, take, drop, Err, Ok as At}
use Rattle.std.proofs.Math.Option.{none, some}
use Rattle.spec_trees.specs.Limits.{tree_max, depth_max, work_min}
use Rattle.spec_trees.specs.Lists.{All, gather}
use Rattle.spec_trees.specs.Tree.{Tree}
use Rattle.spec_trees.specs.Bytes.{tree_bytes}
use Rattle.spec_trees.specs.Within.{Ok, Allowed, AllowedA}
use Rattle.areas.specs.Area.{IsAt, span, Out, too_large}
use Rattle.areas.specs.declared.span.Span.{Span}
use Rattle.spec_queries.specs.Query.{Pair}
use Rattle.spec_queries.specs.Rules.{OkPair}
use Rattle.queries.specs.Places.{pair_bytes, pairs_bytes, array_trees, OkAt}
use Rattle.spec_stages.specs.Paths.{Given, over, apply}
use Rattle.spec_stages.specs.Project.{placed}
use Rattle.spec_stages.specs.Merge.{build}
use Rattle.spec_stages.specs.Totals.{total, fits_signed, total_given}
use Rattle.spec_stages.specs.Group.{aggregate, total_fits, sourced, Class}
use Rattle.build.specs.Build.{Standing}
use Rattle.data.specs.Value.{Value, WroteFound}

-- ---- what a pair adds

-- the value of an aggregate: of one that is no total, and of one that is
abbrev pub aggregate_value : Class → Pair → Given
aggregate_value c p = aggregate p (c.0 ∷ c.1)

abbrev pub joined_value : Class → Pair → Given
joined_value c p = over (apply p.source) (c.0 ∷ c.1)

abbrev pub total_value : Class → Pair → Given
total_value c p = total_given (total p.source (c.0 ∷ c.1))

-- the value of a grouping pair

abbrev pub identity_value : Class → Pair → Given
identity_value c p = apply p.source c.0

-- a value placed, as the only part
abbrev pub one_part : (Class → Pair → Given) → Class → Pair → List Tree
one_part f c p = placed p.target (f c p) ∷ []

-- a grouping value placed, if the pair is in the class's subset
abbrev pub sourced_part : Class → Pair → List Tree
sourced_part c p = cond (sourced c p) (one_part identity_value c p) []

-- ---- when its value can be written

-- always; a total if it fits
abbrev pub Always : Class → Pair → Type 0
Always c p = Unit {0}

abbrev pub Fits : Class → Pair → Type 0
Fits c p = total_fits p c ≡ true

abbrev pub TotalFits : Class → Pair → Type 0
TotalFits c p = fits_signed (total p.source (c.0 ∷ c.1)) ≡ true

-- a pair that the rules allow, whose value can be written as Q says
abbrev pub Sound : (Q : Class → Pair → Type 0) → Class → Pair → Type 0
Sound Q c p = OkPair p × Q c p

-- ---- the class that stands in the area

-- the first tree of c stands there, below s
pub record FirstAt (first_at : Span) (s : ℕ) (w : List ℕ) (c : Class) : Type 0 where
  pub allowed : Allowed depth_max c.0
  pub first_is : IsAt w first_at (tree_bytes c.0)
  pub below : first_at.to ≤ s

-- all its members stand there, one behind another, below s
pub record ClassAt (members_at : Span) (s : ℕ) (w : List ℕ) (c : Class) : Type 0 where
  pub allowed : AllowedA (c.0 ∷ c.1)
  pub members_are : IsAt w members_at (array_trees (c.0 ∷ c.1))
  pub below : members_at.to ≤ s

-- ---- the tree that grows

-- z with the parts built in stands in v there
pub record GrownTo (v : List ℕ) (built : Span) (z : Tree) (parts : List Tree) : Type 0 where
  pub tree : Tree
  pub ok : Ok tree
  pub same : build z parts ≡ some tree
  pub stands : IsAt v built (tree_bytes tree)
  pub within : built.to ≤ built.from + tree_max

-- w became v when the parts were built into z at s; or one was too large. Below s, and from three rooms above s on,
-- all is as it was
pub record Grown (w v : List ℕ) (s : ℕ) (z : Tree) (parts : List Tree) (r : Out) : Type 0 where
  pub tree_is : (e : ℕ) → r ≡ At e → GrownTo v (span s e) z parts
  pub large : r ≡ Err too_large → build z parts ≡ none
  pub below : take s v ≡ take s w
  pub beyond : drop (s + 3 * tree_max) v ≡ drop (s + 3 * tree_max) w

-- ---- one pair, or pairs one behind another

-- a class stands there as C says, and in q what P allows of it, of which k gives the bytes; from the start of the tree
-- so far on there are three rooms
pub record GrowReady {A : Type 0} (C : List ℕ → Class → Type 0) (P : Class → A → Type 0) (k : A → List ℕ) (w q : List ℕ) (at built : Span) : Type 0 where
  pub members : Class
  pub there : C w members
  pub asked : OkAt (P members) k q at
  pub whole : Standing w built
  pub within : built.to ≤ built.from + tree_max
  pub room : built.from + 3 * tree_max ≤ length w
  pub small : length w ≤ work_min

-- whatever class, pair or pairs, and tree stand there, the parts that f gives were built in
abbrev pub Grows : {A : Type 0} (C : List ℕ → Class → Type 0) (P : Class → A → Type 0) (k : A → List ℕ) (f : Class → A → List Tree) (w v q : List ℕ) (at built : Span) → Out → Type 0
Grows {A} C P k f w v q at built r = (c : Class) (y : A) (z : Tree)
    → C w c → P c y → IsAt q at (k y) → Ok z → IsAt w built (tree_bytes z) → Grown w v built.from z (f c y) r

abbrev pub PairReady : (C : List ℕ → Class → Type 0) (Q : Class → Pair → Type 0) (w q : List ℕ) (pair_at built : Span) → Type 0
PairReady C Q w q pair_at built = GrowReady C (Sound Q) pair_bytes w q pair_at built

abbrev pub PairGrows : (C : List ℕ → Class → Type 0) (Q : Class → Pair → Type 0) (f : Class → Pair → List Tree) (w v q : List ℕ) (pair_at built : Span) → Out → Type 0
PairGrows C Q f w v q pair_at built r = Grows C (Sound Q) pair_bytes f w v q pair_at built r

abbrev pub PairsReady : (C : List ℕ → Class → Type 0) (Q : Class → Pair → Type 0) (w q : List ℕ) (pairs_at built : Span) → Type 0
PairsReady C Q w q pairs_at built = GrowReady C (λ c. All (Sound Q c)) pairs_bytes w q pairs_at built

abbrev pub PairsGrow : (C : List ℕ → Class → Type 0) (Q : Class → Pair → Type 0) (f : Class → Pair → List Tree) (w v q : List ℕ) (pairs_at built : Span) → Out → Type 0
PairsGrow C Q f w v q pairs_at built r = Grows C (λ c. All (Sound Q c)) pairs_bytes (λ c. gather (f c)) w v q pairs_at built r

-- ---- the value of a pair

-- whatever class and pair stand there, the value that f gives was written
abbrev pub Values : (C : List ℕ → Class → Type 0) (Q : Class → Pair → Type 0) (f : Class → Pair → Given) (w v q : List ℕ) (pair_at into : Span) → Value → Type 0
Values C Q f w v q pair_at into r = (c : Class) (y : Pair) → C w c → Q c y → IsAt q pair_at (pair_bytes y)
    → WroteFound w v into.from into.to (f c y) r
