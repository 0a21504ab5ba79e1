-- The table by tag: which tags may stand inside a field, in which order and how many. The code's constant is this list
-- (`table::rule_of`), and `TableLaws` shows that it says what the readers of `Decode` read.
use Rattle.std.specs.Prelude.{List, [], ◌∷◌, Bool, ◌&&◌, ◌||◌, ℕ, zero, suc, get_or, eqb, leb}
use Rattle.spec_trees.specs.Limits.{stages_max, items_max, members_max, aggregates_max, grouping_max}
use Rattle.queries.specs.declared.table.Child.{Child}
use Rattle.queries.specs.declared.table.Rule.{Rule}
use Rattle.queries.specs.declared.table.Kind.{Kind}

-- ---- children
-- what a child may be: its tag is `low` to `high`, or `also`, or `further`, and its content has at least `least` bytes
abbrev pub child : ℕ → ℕ → ℕ → ℕ → ℕ → Child
child low high also further least = record { low = low; high = high; also = also; further = further; least = least }

-- no child: no tag is 1 to 0, and no byte is 256
abbrev pub no_tags : Child
no_tags = child 1 0 256 256 0

-- a kind of the tags `low` to `high`: where there are no further tags, the first one stands for them
abbrev pub range : ℕ → ℕ → Child
range low high = child low high low low 0

-- whether a child may have the tag t
unfoldable pub may_be : Child → ℕ → Bool
may_be ch t = (leb ch.low t && leb t ch.high) || (eqb t ch.also || eqb t ch.further)

-- and whether such a child may have n content bytes
unfoldable pub allowed : Child → ℕ → ℕ → Bool
allowed ch t n = may_be ch t && leb ch.least n

-- the kinds of children: a path that is applied (`Route`) has the same tags for now, one that must be given is not empty,
-- and an aggregate is a pair, which may be a total
unfoldable pub child_by : Kind → Child
child_by Kind.Nothing = no_tags
child_by Kind.Array = range 1 1
child_by Kind.Stage = range 17 21
child_by Kind.Path = range 32 32
child_by Kind.Route = range 32 32
child_by Kind.Given = child 32 32 32 32 1
child_by Kind.Criterion = range 33 39
child_by Kind.Data = range 40 45
child_by Kind.Divisor = range 46 46
child_by Kind.Item = range 47 48
child_by Kind.Pair = range 49 49
child_by Kind.Aggregate = child 49 49 54 54 0
child_by Kind.Aggregates = range 50 50
child_by Kind.Grouping = range 51 51

-- ---- rules
-- by kinds, the first child, the second, and the rest; the least and the greatest count
abbrev pub rule : Kind → Kind → Kind → ℕ → ℕ → Rule
rule first second rest least most = record { first = first; second = second; rest = rest; least = least; most = most }

-- what the child behind n others may be
unfoldable pub child_at : Rule → ℕ → Child
child_at r zero = child_by r.first
child_at r (suc zero) = child_by r.second
child_at r (suc (suc n)) = child_by r.rest

-- no child; just one, two or three
abbrev pub holds_nothing : Rule
holds_nothing = rule Kind.Nothing Kind.Nothing Kind.Nothing 0 0

abbrev pub holds_one : Kind → Rule
holds_one a = rule a Kind.Nothing Kind.Nothing 1 1

abbrev pub holds_two : Kind → Kind → Rule
holds_two a b = rule a b Kind.Nothing 2 2

abbrev pub holds_three : Kind → Kind → Kind → Rule
holds_three a b c = rule a b c 3 3

-- n to m children of one kind
abbrev pub holds_many : Kind → ℕ → ℕ → Rule
holds_many a n m = rule a a a n m

-- no content passes, not even an empty one: the least count is above the greatest
abbrev pub never : Rule
never = rule Kind.Nothing Kind.Nothing Kind.Nothing 1 0

-- ---- the table
abbrev pub rules : List Rule
rules =
    -- 0 to 15 belong to trees
    never ∷ never ∷ never ∷ never ∷ never ∷ never ∷ never ∷ never
    ∷ never ∷ never ∷ never ∷ never ∷ never ∷ never ∷ never ∷ never
    -- 16 query
    ∷ holds_many Kind.Stage 0 stages_max
    -- 17 match, 18 unwind, 19 project, 20 group, 21 lookup
    ∷ holds_one Kind.Criterion
    ∷ holds_one Kind.Path
    ∷ holds_many Kind.Item 1 items_max
    ∷ holds_two Kind.Aggregates Kind.Grouping
    ∷ holds_three Kind.Route Kind.Route Kind.Given
    -- 22 to 31 are no tags
    ∷ never ∷ never ∷ never ∷ never ∷ never ∷ never ∷ never ∷ never ∷ never ∷ never
    -- 32 path: labels, and no fields
    ∷ never
    -- 33 true, 34 exists, 35 equal, 36 same, 37 not, 38 and, 39 or
    ∷ holds_nothing
    ∷ holds_one Kind.Route
    ∷ holds_two Kind.Route Kind.Array
    ∷ holds_two Kind.Route Kind.Route
    ∷ holds_one Kind.Criterion
    ∷ holds_two Kind.Criterion Kind.Criterion
    ∷ holds_two Kind.Criterion Kind.Criterion
    -- 40 literal, 41 path, 42 list, 43 criterion, 44 choice, 45 reduced
    ∷ holds_one Kind.Array
    ∷ holds_one Kind.Route
    ∷ holds_many Kind.Data 1 members_max
    ∷ holds_one Kind.Criterion
    ∷ holds_three Kind.Criterion Kind.Data Kind.Data
    ∷ holds_two Kind.Route Kind.Divisor
    -- 46 divisor: two bytes, and no fields
    ∷ never
    -- 47 keep, 48 place
    ∷ holds_one Kind.Path
    ∷ holds_two Kind.Data Kind.Given
    -- 49 pair, 50 aggregates, 51 grouping
    ∷ holds_two Kind.Route Kind.Given
    ∷ holds_many Kind.Aggregate 0 aggregates_max
    ∷ holds_many Kind.Pair 0 grouping_max
    -- 52 and 53 are no tags
    ∷ never ∷ never
    -- 54 total
    ∷ holds_two Kind.Route Kind.Given
    ∷ []

-- the rule of a tag
unfoldable pub rule_at : ℕ → Rule
rule_at t = get_or rules t never
