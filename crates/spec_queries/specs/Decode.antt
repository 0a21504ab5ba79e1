-- Bytes read as queries. By tag, what may stand inside and how many: `criterion_table`, `data_table`, `item_table`,
-- `aggregate_table`, `stage_table`.
use Rattle.std.specs.Prelude.{List, [], ◌∷◌, ℕ, zero, suc, length, eqb, leb}
use Rattle.std.proofs.Math.Option.{Option, none, some}
use Rattle.spec_trees.specs.Options.{only}
use Rattle.spec_trees.specs.Limits.{query_max, nest_max, stages_max, items_max, members_max, aggregates_max, grouping_max}
use Rattle.spec_trees.specs.Readers.{Reader, Table, inside, one, two, three, many, among, tagged, emptied, big_value, Tested, tested}
use Rattle.spec_trees.specs.Decode.{array_r}
use Rattle.spec_queries.specs.Query.{Path, Route, Criterion, always, exists, equal, same, negated, both, either, Data, literal, path, listed, test, choice, reduced, datas, Item, keep, place, Pair, pair_of, total_pair, Stage, match, unwind, project, group, lookup, is_path, is_divisor}

-- ---- paths
unfoldable pub path_r : Reader Path
path_r = tagged 32 (λ c. only (is_path c) (some c))

abbrev pub route_r : Reader Route
route_r = path_r

-- a path not empty
unfoldable pub path_r⁺ : Reader Path
path_r⁺ f = only (leb 1 (length f.1)) (path_r f)

-- ---- criteria; r reads those inside
abbrev pub criterion_table : Reader Criterion → Table Criterion
criterion_table r =
    (33, emptied always)
    ∷ (34, inside (one exists route_r))
    ∷ (35, inside (two equal route_r array_r))
    ∷ (36, inside (two same route_r route_r))
    ∷ (37, inside (one negated r))
    ∷ (38, inside (two both r r))
    ∷ (39, inside (two either r r))
    ∷ []

-- where criteria may nest d deep, this one included
unfoldable pub criterion_r : ℕ → Reader Criterion
criterion_r zero f = none
criterion_r (suc d) f = among (criterion_table (criterion_r d)) f

-- ---- data; s reads the criteria inside, r the data
unfoldable pub divisor_r : Reader ℕ
divisor_r = tagged 46 (λ c. only (eqb (length c) 2) (only (is_divisor (big_value c)) (some (big_value c))))

abbrev pub data_table : Reader Criterion → Reader Data → Table Data
data_table s r =
    (40, inside (one literal array_r))
    ∷ (41, inside (one path route_r))
    ∷ (42, inside (many (λ ds. listed (datas ds)) 1 members_max r))
    ∷ (43, inside (one test s))
    ∷ (44, inside (three choice s r r))
    ∷ (45, inside (two reduced route_r divisor_r))
    ∷ []

-- where criteria and data may nest d deep, this one included
unfoldable pub data_r : ℕ → Reader Data
data_r zero f = none
data_r (suc d) f = among (data_table (criterion_r d) (data_r d)) f

-- ---- items and pairs
abbrev pub item_table : Table Item
item_table =
    (47, inside (one keep path_r))
    ∷ (48, inside (two place (data_r nest_max) path_r⁺))
    ∷ []

unfoldable pub item_r : Reader Item
item_r = among item_table

unfoldable pub pair_r : Reader Pair
pair_r = tagged 49 (inside (two pair_of route_r path_r⁺))

-- an aggregate may be a total
abbrev pub aggregate_table : Table Pair
aggregate_table =
    (49, inside (two pair_of route_r path_r⁺))
    ∷ (54, inside (two total_pair route_r path_r⁺))
    ∷ []

unfoldable pub aggregate_r : Reader Pair
aggregate_r = among aggregate_table

-- 0 to n pairs, each read by r, under the tag k
unfoldable pub pairs_r : Reader Pair → ℕ → ℕ → Reader (List Pair)
pairs_r r k n = tagged k (inside (many (λ ps. ps) 0 n r))

-- ---- stages and queries
abbrev pub stage_table : Table Stage
stage_table =
    (17, inside (one match (criterion_r nest_max)))
    ∷ (18, inside (one unwind path_r))
    ∷ (19, inside (many project 1 items_max item_r))
    ∷ (20, inside (two group (pairs_r aggregate_r 50 aggregates_max) (pairs_r pair_r 51 grouping_max)))
    ∷ (21, inside (three lookup route_r route_r path_r⁺))
    ∷ []

unfoldable pub stage_r : Reader Stage
stage_r = among stage_table

unfoldable pub query_r : Reader (List Stage)
query_r = tagged 16 (inside (many (λ ss. ss) 0 stages_max stage_r))

-- one query field that spans all the bytes. A query is admitted, in document 01's term, if this gives its stages
unfoldable pub decode_query : List ℕ → Option (List Stage)
decode_query b = only (leb (length b) query_max) (inside (one (λ q. q) query_r) b)

-- a query that is lent: over 4,096 bytes, malformed, or its stages
unfoldable pub read_query : List ℕ → Tested (List Stage)
read_query b = tested query_max b (decode_query b)
