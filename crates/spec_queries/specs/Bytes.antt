-- The byte form of queries.
use Rattle.std.specs.Prelude.{List, [], ◌∷◌, map, Bool, cond, ℕ}
use Rattle.spec_trees.specs.Bytes.{Field, field_bytes, bytes, big, array_f}
use Rattle.spec_queries.specs.Query.{Path, Route, Criterion, always, exists, equal, same, negated, both, either, Data, literal, path, listed, test, choice, reduced, Datas, ended, more, Item, keep, place, Pair, Stage, match, unwind, project, group, lookup}

unfoldable pub path_f : Path → Field
path_f p = (32, p)

abbrev pub route_f : Route → Field
route_f p = path_f p

unfoldable pub criterion_f : Criterion → Field
criterion_f always = (33, [])
criterion_f (exists p) = (34, bytes (route_f p ∷ []))
criterion_f (equal p a) = (35, bytes (route_f p ∷ array_f a ∷ []))
criterion_f (same p q) = (36, bytes (route_f p ∷ route_f q ∷ []))
criterion_f (negated c) = (37, bytes (criterion_f c ∷ []))
criterion_f (both c d) = (38, bytes (criterion_f c ∷ criterion_f d ∷ []))
criterion_f (either c d) = (39, bytes (criterion_f c ∷ criterion_f d ∷ []))

unfoldable pub divisor_f : ℕ → Field
divisor_f n = (46, big 2 n)

unfoldable mutual
  pub data_f : Data → Field
  data_f (literal a) = (40, bytes (array_f a ∷ []))
  data_f (path p) = (41, bytes (route_f p ∷ []))
  data_f (listed ds) = (42, bytes (data_fs ds))
  data_f (test c) = (43, bytes (criterion_f c ∷ []))
  data_f (choice c d e) = (44, bytes (criterion_f c ∷ data_f d ∷ data_f e ∷ []))
  data_f (reduced p n) = (45, bytes (route_f p ∷ divisor_f n ∷ []))

  pub data_fs : Datas → List Field
  data_fs ended = []
  data_fs (more d ds) = data_f d ∷ data_fs ds

unfoldable pub item_f : Item → Field
item_f (keep p) = (47, bytes (path_f p ∷ []))
item_f (place d p) = (48, bytes (data_f d ∷ path_f p ∷ []))

-- tag 54 for a total, 49 for other pairs
abbrev pub pair_tag : Bool → ℕ
pair_tag b = cond b 54 49

unfoldable pub pair_f : Pair → Field
pair_f p = (pair_tag p.is_total, bytes (route_f p.source ∷ path_f p.target ∷ []))

-- tag 50 for aggregates, 51 for grouping
unfoldable pub pairs_f : ℕ → List Pair → Field
pairs_f k ps = (k, bytes (map pair_f ps))

unfoldable pub stage_f : Stage → Field
stage_f (match c) = (17, bytes (criterion_f c ∷ []))
stage_f (unwind p) = (18, bytes (path_f p ∷ []))
stage_f (project is) = (19, bytes (map item_f is))
stage_f (group ag gs) = (20, bytes (pairs_f 50 ag ∷ pairs_f 51 gs ∷ []))
stage_f (lookup q r p) = (21, bytes (route_f q ∷ route_f r ∷ path_f p ∷ []))

unfoldable pub query_f : List Stage → Field
query_f ss = (16, bytes (map stage_f ss))

unfoldable pub query_bytes : List Stage → List ℕ
query_bytes ss = field_bytes (query_f ss)
