-- What stands at a place of a query's bytes, and what the answers of `criterion`, `data`, `item` and `stage` say of
-- it. An answer names a constructor, and where its parts stand: paths, criteria and data by their whole fields, an array
-- by its trees, pairs by themselves.
use Rattle.std.specs.Prelude.{◌≡◌, List, map, Bool, ℕ, ◌+◌, ◌*◌, ◌≤◌, get_or, Option, Some, None}
use Rattle.spec_trees.specs.Limits.{aggregates_max, grouping_max}
use Rattle.spec_trees.specs.Tree.{Tree, trees}
use Rattle.spec_trees.specs.Bytes.{field_bytes, bytes}
use Rattle.areas.specs.Area.{Is, IsAt}
use Rattle.areas.specs.declared.span.Span.{Span}
use Rattle.format.specs.Stand.{trees_bytes, Holds}
use Rattle.spec_queries.specs.Query.{Path, Route, Criterion, always, exists, equal, same, negated, both, either, Data, literal, path, listed, test, choice, reduced, Datas, Item, keep, place, Pair, pair_with, Stage, match, unwind, project, group, lookup}
use Rattle.spec_queries.specs.Bytes.{path_f, route_f, criterion_f, data_f, data_fs, item_f, pair_f, stage_f, query_bytes}
use Rattle.spec_queries.specs.Rules.{OkD, OkPairs}
use Rattle.queries.specs.declared.criterion.CriterionAt.{CriterionAt}
use Rattle.queries.specs.declared.data.DataAt.{DataAt}
use Rattle.queries.specs.declared.item.ItemAt.{ItemAt}
use Rattle.queries.specs.declared.item.PairAt.{PairAt}
use Rattle.queries.specs.declared.stage.GroupAt.{GroupAt}
use Rattle.queries.specs.declared.stage.LookupAt.{LookupAt}
use Rattle.queries.specs.declared.stage.StageAt.{StageAt}

-- ---- the bytes of each kind of value, as they stand at its places
abbrev pub path_bytes : Path → List ℕ
path_bytes p = field_bytes (path_f p)

abbrev pub route_bytes : Route → List ℕ
route_bytes p = field_bytes (route_f p)

abbrev pub array_trees : List Tree → List ℕ
array_trees a = trees_bytes (trees a)

abbrev pub criterion_bytes : Criterion → List ℕ
criterion_bytes c = field_bytes (criterion_f c)

abbrev pub data_bytes : Data → List ℕ
data_bytes d = field_bytes (data_f d)

abbrev pub datas_bytes : Datas → List ℕ
datas_bytes ds = bytes (data_fs ds)

abbrev pub item_bytes : Item → List ℕ
item_bytes i = field_bytes (item_f i)

abbrev pub items_bytes : List Item → List ℕ
items_bytes is = bytes (map item_f is)

abbrev pub pair_bytes : Pair → List ℕ
pair_bytes p = field_bytes (pair_f p)

abbrev pub pairs_bytes : List Pair → List ℕ
pairs_bytes ps = bytes (map pair_f ps)

abbrev pub stage_bytes : Stage → List ℕ
stage_bytes s = field_bytes (stage_f s)

abbrev pub stages_bytes : List Stage → List ℕ
stages_bytes ss = bytes (map stage_f ss)

-- the tag at p is not k
abbrev pub TagNot : List ℕ → ℕ → ℕ → Type 0
TagNot q p k = get_or q p 0 ≡ k → ⊥

-- some value stands in q at a place; f gives its bytes
abbrev pub HoldsAt : {A : Type 0} (f : A → List ℕ) (q : List ℕ) → Span → Type 0
HoldsAt f q at = Holds f q at.from at.to

-- some value that P allows stands in q from p to e; f gives its bytes
pub record HoldsOk {A : Type 0} (P : A → Type 0) (f : A → List ℕ) (q : List ℕ) (p e : ℕ) : Type 0 where
  pub value : A
  pub allowed : P value
  pub value_is : Is q p e (f value)

-- the same at a place
abbrev pub OkAt : {A : Type 0} (P : A → Type 0) (f : A → List ℕ) (q : List ℕ) → Span → Type 0
OkAt P f q at = HoldsOk P f q at.from at.to

-- ---- x, which stands at a place, is c of its parts, each of which stands there too, one behind another; a, b and c give
-- their bytes
pub record OnePart {X A : Type 0} (k : A → X) (a : A → List ℕ) (q : List ℕ) (at : Span) (x : X) (one : Span) : Type 0 where
  pub part : A
  pub same : x ≡ k part
  pub part_is : IsAt q one (a part)
  pub after : at.from + 3 ≤ one.from
  pub within : one.to ≤ at.to

pub record TwoParts {X A B : Type 0} (k : A → B → X) (a : A → List ℕ) (b : B → List ℕ) (q : List ℕ) (at : Span) (x : X)
    (one two : Span) : Type 0 where
  pub first : A
  pub second : B
  pub same : x ≡ k first second
  pub first_is : IsAt q one (a first)
  pub second_is : IsAt q two (b second)
  pub after : at.from + 3 ≤ one.from
  pub between : one.to ≤ two.from
  pub within : two.to ≤ at.to

pub record ThreeParts {X A B C : Type 0} (k : A → B → C → X) (a : A → List ℕ) (b : B → List ℕ) (c : C → List ℕ)
    (q : List ℕ) (at : Span) (x : X) (one two three : Span) : Type 0 where
  pub first : A
  pub second : B
  pub third : C
  pub same : x ≡ k first second third
  pub first_is : IsAt q one (a first)
  pub second_is : IsAt q two (b second)
  pub third_is : IsAt q three (c third)
  pub after : at.from + 3 ≤ one.from
  pub between : one.to ≤ two.from
  pub between_2 : two.to ≤ three.from
  pub within : three.to ≤ at.to

-- ---- criteria
pub record CriterionIs (q : List ℕ) (at : Span) (x : Criterion) (r : CriterionAt) : Type 0 where
  pub always_is : r ≡ CriterionAt.Always → x ≡ always
  pub exists_is : (f : Span) → r ≡ CriterionAt.Exists f → OnePart exists route_bytes q at x f
  pub equal_is : (f g : Span) → r ≡ CriterionAt.Equal f g → TwoParts equal route_bytes array_trees q at x f g
  pub same_is : (f g : Span) → r ≡ CriterionAt.Same f g → TwoParts same route_bytes route_bytes q at x f g
  pub negated_is : (f : Span) → r ≡ CriterionAt.Negated f → OnePart negated criterion_bytes q at x f
  pub both_is : (f g : Span) → r ≡ CriterionAt.Both f g → TwoParts both criterion_bytes criterion_bytes q at x f g
  pub either_is : (f g : Span) → r ≡ CriterionAt.Either f g → TwoParts either criterion_bytes criterion_bytes q at x f g

-- r is right of whatever criterion stands there; and so below
abbrev pub ReadsCriterion : (q : List ℕ) (at : Span) → CriterionAt → Type 0
ReadsCriterion q at r = (x : Criterion) → IsAt q at (criterion_bytes x) → CriterionIs q at x r

-- ---- data

-- what the two bytes of the divisor field at m say
abbrev pub divisor_at : List ℕ → ℕ → ℕ
divisor_at q m = get_or q (m + 3) 0 * 256 + get_or q (m + 4) 0

-- x is a reduced whose path stands at f. n is its divisor if the rules allow x: two bytes do not hold every number
pub record ReducedIs (q : List ℕ) (at : Span) (x : Data) (f : Span) (n : ℕ) : Type 0 where
  pub source : Route
  pub divisor : ℕ
  pub same : x ≡ reduced source divisor
  pub source_is : IsAt q f (route_bytes source)
  pub divisor_is : OkD x → n ≡ divisor
  pub after : at.from + 3 ≤ f.from
  pub within : f.to ≤ at.to

pub record DataIs (q : List ℕ) (at : Span) (x : Data) (r : DataAt) : Type 0 where
  pub literal_is : (f : Span) → r ≡ DataAt.Literal f → OnePart literal array_trees q at x f
  pub path_is : (f : Span) → r ≡ DataAt.Path f → OnePart path route_bytes q at x f
  pub listed_is : (f : Span) → r ≡ DataAt.Listed f → OnePart listed datas_bytes q at x f
  pub test_is : (f : Span) → r ≡ DataAt.Test f → OnePart test criterion_bytes q at x f
  pub choice_is : (f g h : Span) → r ≡ DataAt.Choice f g h → ThreeParts choice criterion_bytes data_bytes data_bytes q at x f g h
  pub reduced_is : (f : Span) (n : ℕ) → r ≡ DataAt.Reduced f n → ReducedIs q at x f n

abbrev pub ReadsData : (q : List ℕ) (at : Span) → DataAt → Type 0
ReadsData q at r = (x : Data) → IsAt q at (data_bytes x) → DataIs q at x r

-- ---- items and pairs
pub record ItemIs (q : List ℕ) (at : Span) (x : Item) (r : ItemAt) : Type 0 where
  pub keep_is : (f : Span) → r ≡ ItemAt.Keep f → OnePart keep path_bytes q at x f
  pub place_is : (f g : Span) → r ≡ ItemAt.Place f g → TwoParts place data_bytes path_bytes q at x f g

abbrev pub ReadsItem : (q : List ℕ) (at : Span) → ItemAt → Type 0
ReadsItem q at r = (x : Item) → IsAt q at (item_bytes x) → ItemIs q at x r

abbrev pub PairIs : (q : List ℕ) (at : Span) → Pair → PairAt → Type 0
PairIs q at x r = TwoParts (pair_with x.is_total) route_bytes path_bytes q at x r.source r.target

abbrev pub ReadsPair : (q : List ℕ) (at : Span) → PairAt → Type 0
ReadsPair q at r = (x : Pair) → IsAt q at (pair_bytes x) → PairIs q at x r

-- r is whether the pair that stands there is a total
abbrev pub TotalIs : (q : List ℕ) (at : Span) → Bool → Type 0
TotalIs q at r = (x : Pair) → IsAt q at (pair_bytes x) → r ≡ x.is_total

-- ---- stages
abbrev pub GroupIs : (q : List ℕ) (at : Span) → Stage → GroupAt → Type 0
GroupIs q at x r = TwoParts group pairs_bytes pairs_bytes q at x r.aggregates r.keys

-- the pairs of a group, its aggregates and those of its key, stand in q there, and the rules allow them
pub record Pairs (q : List ℕ) (at : GroupAt) (ags gs : List Pair) : Type 0 where
  pub aggregates_ok : OkPairs aggregates_max ags
  pub aggregates_is : IsAt q at.aggregates (pairs_bytes ags)
  pub grouping_ok : OkPairs grouping_max gs
  pub grouping_is : IsAt q at.keys (pairs_bytes gs)

abbrev pub LookupIs : (q : List ℕ) (at : Span) → Stage → LookupAt → Type 0
LookupIs q at x r = ThreeParts lookup route_bytes route_bytes path_bytes q at x r.own r.theirs r.target

pub record StageIs (q : List ℕ) (at : Span) (x : Stage) (r : StageAt) : Type 0 where
  pub match_is : (f : Span) → r ≡ StageAt.Match f → OnePart match criterion_bytes q at x f
  pub unwind_is : (f : Span) → r ≡ StageAt.Unwind f → OnePart unwind path_bytes q at x f
  pub project_is : (f : Span) → r ≡ StageAt.Project f → OnePart project items_bytes q at x f
  pub group_is : (f : GroupAt) → r ≡ StageAt.Group f → GroupIs q at x f
  pub lookup_is : (f : LookupAt) → r ≡ StageAt.Lookup f → LookupIs q at x f

-- the parts of a group, if the stage is one
abbrev pub group_of : StageAt → Option GroupAt
group_of (StageAt.Match f) = None
group_of (StageAt.Unwind f) = None
group_of (StageAt.Project f) = None
group_of (StageAt.Group g) = Some g
group_of (StageAt.Lookup f) = None

abbrev pub ReadsStage : (q : List ℕ) (at : Span) → StageAt → Type 0
ReadsStage q at r = (x : Stage) → IsAt q at (stage_bytes x) → StageIs q at x r

-- r is where the stages stand, if q is the bytes of a query
abbrev pub ReadsQuery : List ℕ → Span → Type 0
ReadsQuery q r = (ss : List Stage) → q ≡ query_bytes ss → IsAt q r (stages_bytes ss)
