-- Whether totals fit, of the classes that stand at the front: what the answers say, of whatever pairs and classes stand
-- there.
use Rattle.std.specs.Prelude.{◌≡◌, List, Bool, ℕ}
use Rattle.spec_trees.specs.Lists.{all}
use Rattle.spec_trees.specs.Tree.{Tree}
use Rattle.spec_trees.specs.Within.{AllowedA}
use Rattle.areas.specs.Area.{IsAt}
use Rattle.areas.specs.declared.span.Span.{Span}
use Rattle.spec_queries.specs.Query.{Route}
use Rattle.queries.specs.Places.{route_bytes, pair_bytes, pairs_bytes}
use Rattle.spec_stages.specs.Totals.{total, fits_signed}
use Rattle.spec_stages.specs.Group.{Class, total_fits, totals_fit}
use Rattle.spec_stages.specs.Flat.{members, flat}
use Rattle.arrange.specs.Arrange.{Arranged}
use Rattle.classes.specs.Read.{Stems}

-- r is what f says of whatever stands in q, of which k gives the bytes, and of whatever classes stand in w
abbrev pub SaysClasses : {A : Type 0} (k : A → List ℕ) (f : A → List Class → Bool) (w : List ℕ) (n : ℕ) (q : List ℕ) (at : Span) → Bool → Type 0
SaysClasses {A} k f w n q at r = (x : A) (p : Tree → ℕ) (cs : List Class)
    → IsAt q at (k x) → Stems p cs → AllowedA (flat cs) → Arranged w n p cs → r ≡ f x cs

-- whether the total of the path fits, of each class
unfoldable pub source_fits : Route → List Class → Bool
source_fits p cs = all (λ c. fits_signed (total p (members c))) cs

abbrev pub SourceFits : (w : List ℕ) (n : ℕ) (q : List ℕ) (source_at : Span) → Bool → Type 0
SourceFits w n q source_at r = SaysClasses route_bytes source_fits w n q source_at r

abbrev pub PairFits : (w : List ℕ) (n : ℕ) (q : List ℕ) (pair_at : Span) → Bool → Type 0
PairFits w n q pair_at r = SaysClasses pair_bytes (λ x. all (total_fits x)) w n q pair_at r

abbrev pub PairsFit : (w : List ℕ) (n : ℕ) (q : List ℕ) (pairs_at : Span) → Bool → Type 0
PairsFit w n q pairs_at r = SaysClasses pairs_bytes totals_fit w n q pairs_at r
