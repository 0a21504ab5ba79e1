-- The byte form of a query that the rules allow holds bytes only: so an area can hold it.
use Rattle.std.specs.Prelude.{List, [], ◌∷◌, map, Bool, true, false, ℕ, ◌<◌, T}
use Rattle.std.proofs.Common.{arith}
use Rattle.spec_trees.specs.Lists.{All, all}
use Rattle.spec_trees.specs.Limits.{aggregates_max, grouping_max}
use Rattle.spec_trees.specs.Tree.{is_label}
use Rattle.spec_trees.specs.Bytes.{big, array_f}
use Rattle.spec_trees.specs.Within.{AllBytes}
use Rattle.spec_trees.specs.OptionLaws.{T_and}
use Rattle.spec_trees.specs.ListLaws.{All-map}
use Rattle.spec_trees.specs.ByteLaws.{FieldInBytes, field_in, nested_in, big_in, label_in, array_in}
use Rattle.spec_queries.specs.Query.{Path, Route, Criterion, always, exists, equal, same, negated, both, either, Data, literal, path, listed, test, choice, reduced, Datas, ended, more, Item, keep, place, Pair, Stage, match, unwind, project, group, lookup}
use Rattle.spec_queries.specs.Bytes.{path_f, route_f, criterion_f, divisor_f, data_f, data_fs, item_f, pair_tag, pair_f, pairs_f, stage_f, query_f, query_bytes}
use Rattle.spec_queries.specs.Rules.{OkP, OkRoute, OkC, OkD, OkDs, OkI, OkPair, OkPairs, OkS, OkQ}
use Rattle.spec_queries.specs.PathLaws.{path_labels}

steps_in : (p : Path) → T (all is_label p) → AllBytes p
unfolding all
steps_in [] h = tt
steps_in (k ∷ p) h = let t = T_and (is_label k) (all is_label p) h in (label_in k t.0, steps_in p t.1)

path_in : (p : Path) → OkP p → FieldInBytes (path_f p)
unfolding path_f
path_in p h = field_in 32 p (omega arith) (λ l. steps_in p (path_labels p h))

route_in : (p : Route) → OkRoute p → FieldInBytes (route_f p)
route_in p h = path_in p h

criterion_in : (c : Criterion) → OkC c → FieldInBytes (criterion_f c)
unfolding criterion_f
criterion_in always h = field_in 33 [] (omega arith) (λ l. tt)
criterion_in (exists p) h = nested_in 34 (route_f p ∷ []) (omega arith) (route_in p h, tt)
criterion_in (equal p a) h = nested_in 35 (route_f p ∷ array_f a ∷ []) (omega arith) (route_in p h.0, (array_in a h.1, tt))
criterion_in (same p q) h = nested_in 36 (route_f p ∷ route_f q ∷ []) (omega arith) (route_in p h.0, (route_in q h.1, tt))
criterion_in (negated c) h = nested_in 37 (criterion_f c ∷ []) (omega arith) (criterion_in c h, tt)
criterion_in (both c d) h = nested_in 38 (criterion_f c ∷ criterion_f d ∷ []) (omega arith) (criterion_in c h.0, (criterion_in d h.1, tt))
criterion_in (either c d) h = nested_in 39 (criterion_f c ∷ criterion_f d ∷ []) (omega arith) (criterion_in c h.0, (criterion_in d h.1, tt))

divisor_in : (n : ℕ) → FieldInBytes (divisor_f n)
unfolding divisor_f
divisor_in n = field_in 46 (big 2 n) (omega arith) (λ l. big_in 2 n)

mutual
  unfolding data_f

  data_in : (x : Data) → OkD x → FieldInBytes (data_f x)
  data_in (literal a) h = nested_in 40 (array_f a ∷ []) (omega arith) (array_in a h, tt)
  data_in (path p) h = nested_in 41 (route_f p ∷ []) (omega arith) (route_in p h, tt)
  data_in (listed ds) h = nested_in 42 (data_fs ds) (omega arith) (datas_in ds h.0)
  data_in (test c) h = nested_in 43 (criterion_f c ∷ []) (omega arith) (criterion_in c h, tt)
  data_in (choice c d e) h =
      nested_in 44 (criterion_f c ∷ data_f d ∷ data_f e ∷ []) (omega arith)
      (criterion_in c h.0, (data_in d h.1, (data_in e h.2, tt)))
  data_in (reduced p n) h = nested_in 45 (route_f p ∷ divisor_f n ∷ []) (omega arith) (route_in p h.0, (divisor_in n, tt))

  datas_in : (ds : Datas) → OkDs ds → All FieldInBytes (data_fs ds)
  datas_in ended h = tt
  datas_in (more d ds) h = (data_in d h.0, datas_in ds h.1)

item_in : (x : Item) → OkI x → FieldInBytes (item_f x)
unfolding item_f
item_in (keep p) h = nested_in 47 (path_f p ∷ []) (omega arith) (path_in p h, tt)
item_in (place d p) h = nested_in 48 (data_f d ∷ path_f p ∷ []) (omega arith) (data_in d h.0.0, (path_in p h.1.0, tt))

tag_in : (b : Bool) → pair_tag b < 256
tag_in true = omega arith
tag_in false = omega arith

pair_in : (p : Pair) → OkPair p → FieldInBytes (pair_f p)
unfolding pair_f
pair_in p h = nested_in (pair_tag p.is_total) (route_f p.source ∷ path_f p.target ∷ []) (tag_in p.is_total) (route_in p.source h.0, (path_in p.target h.1.0, tt))

pairs_in : (t n : ℕ) (ps : List Pair) → t < 256 → OkPairs n ps → FieldInBytes (pairs_f t ps)
unfolding pairs_f
pairs_in t n ps s h = nested_in t (map pair_f ps) s (All-map OkPair FieldInBytes pair_f pair_in ps h.0)

stage_in : (s : Stage) → OkS s → FieldInBytes (stage_f s)
unfolding stage_f
stage_in (match c) h = nested_in 17 (criterion_f c ∷ []) (omega arith) (criterion_in c h.0, tt)
stage_in (unwind p) h = nested_in 18 (path_f p ∷ []) (omega arith) (path_in p h, tt)
stage_in (project is) h = nested_in 19 (map item_f is) (omega arith) (All-map OkI FieldInBytes item_f item_in is h.0)
stage_in (group ag gs) h =
    nested_in 20 (pairs_f 50 ag ∷ pairs_f 51 gs ∷ []) (omega arith)
    (pairs_in 50 aggregates_max ag (omega arith) h.0, (pairs_in 51 grouping_max gs (omega arith) h.1, tt))
stage_in (lookup q r p) h =
    nested_in 21 (route_f q ∷ route_f r ∷ path_f p ∷ []) (omega arith) (route_in q h.0, (route_in r h.1, (path_in p h.2.0, tt)))

-- the byte form of a query
pub query_bytes_lem : (ss : List Stage) → OkQ ss → AllBytes (query_bytes ss)
unfolding query_bytes query_f
query_bytes_lem ss h = nested_in 16 (map stage_f ss) (omega arith) (All-map OkS FieldInBytes stage_f stage_in ss h.stages) (omega (arith, h.size))
