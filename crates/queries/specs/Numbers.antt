-- The kinds of children by number: a kind is named by its place here.
use Rattle.std.specs.Prelude.{List, [], ◌∷◌, ℕ, get_or}
use Rattle.queries.specs.declared.table.Kind.{Kind}
use Rattle.queries.specs.declared.table.Child.{Child}
use Rattle.queries.specs.Table.{child, no_tags, range}

abbrev pub numbered : List Kind
numbered =
    Kind.Nothing
    ∷ Kind.Array
    ∷ Kind.Stage
    ∷ Kind.Path
    ∷ Kind.Route
    ∷ Kind.Given
    ∷ Kind.Criterion
    ∷ Kind.Data
    ∷ Kind.Divisor
    ∷ Kind.Item
    ∷ Kind.Pair
    ∷ Kind.Aggregate
    ∷ Kind.Aggregates
    ∷ Kind.Grouping
    ∷ []

-- the kind that has a number; no child for any other
unfoldable pub kind_of : ℕ → Kind
kind_of k = get_or numbered k Kind.Nothing

-- what a child of each may be
abbrev pub kinds : List Child
kinds =
    no_tags
    ∷ range 1 1
    ∷ range 17 21
    ∷ range 32 32
    ∷ range 32 32
    ∷ child 32 32 32 32 1
    ∷ range 33 39
    ∷ range 40 45
    ∷ range 46 46
    ∷ range 47 48
    ∷ range 49 49
    ∷ child 49 49 54 54 0
    ∷ range 50 50
    ∷ range 51 51
    ∷ []

unfoldable pub kind_at : ℕ → Child
kind_at k = get_or kinds k no_tags
