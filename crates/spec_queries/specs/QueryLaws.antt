-- Every query that the rules allow has exactly one byte form, which is accepted; all other bytes are refused.
use Rattle.std.specs.Prelude.{◌≡◌, refl, List, [], ◌∷◌, Bool, true, false, ◌↔◌, ℕ, ◌≤◌, ◌<◌, length, leb}
use Rattle.std.proofs.Common.{sym, ap, ◌∙◌, inl, inr, arith, leb→le}
use Rattle.std.proofs.Math.Option.{some}
use Rattle.spec_trees.specs.Options.{only}
use Rattle.spec_trees.specs.Lists.{All}
use Rattle.spec_trees.specs.ListLaws.{All-imply, All-both}
use Rattle.spec_trees.specs.Limits.{nest_max, stages_max, items_max, aggregates_max, grouping_max, query_max}
use Rattle.spec_trees.specs.Bytes.{Field, bytes}
use Rattle.spec_trees.specs.Readers.{Reader, inside, one, two, many, chosen, among, tagged, accepted, malformed, overlong}
use Rattle.spec_trees.specs.Within.{AllBytes}
use Rattle.spec_trees.specs.OptionLaws.{leb_yes, eqb_same, only_some}
use Rattle.spec_trees.proofs.FieldLaws.{bytes_one}
use Rattle.spec_trees.proofs.ReaderLaws.{Law, field_eq, OneOf, among_some, tagged_some, one_back, one_form, two_back, two_form, three_back, three_form, many_back, many_form, tested_only, tested_overlong, malformed_form}
use Rattle.spec_queries.specs.Query.{Path, Route, Item, keep, place, Pair, pair_with, pair_of, Stage, match, unwind, project, group, lookup}
use Rattle.spec_queries.specs.Bytes.{path_f, route_f, item_f, pair_tag, pair_f, pairs_f, stage_f, query_f, query_bytes}
use Rattle.spec_queries.specs.Decode.{path_r⁺, route_r, item_table, item_r, pair_r, aggregate_table, aggregate_r, pairs_r, stage_table, stage_r, query_r, decode_query, read_query}
use Rattle.spec_queries.specs.Rules.{OkRoute, OkP⁺, OkI, OkPair, OkPairs, Plain, OkS, OkQ}
use Rattle.spec_queries.specs.CriterionLaws.{path_law, path⁺_law, route_law, criterion_law}
use Rattle.spec_queries.specs.DataLaws.{data_law}

item_back : (x : Item) → OkI x → item_r (item_f x) ≡ some x
unfolding item_r item_f among chosen
item_back (keep p) o = one_back path_law keep p o
item_back (place d p) o = two_back (data_law nest_max) path⁺_law place d p o.0 o.1

item_law : Law item_r item_f OkI
unfolding item_r item_f
item_law = record { back = item_back; form = λ f x h e. go f x h (among_some item_table f x e) }
  where
    go : (f : Field) (x : Item) → AllBytes f.1 → OneOf item_table f x → (item_f x ≡ f) × OkI x
    go f x h (inl p) = let (a, q, l, w) = one_form path_law keep f.1 x h p.1 in rw (← q) (field_eq f 47 _ p.0 (sym w), l)
    go f x h (inr (inl p)) = let (a, b, q, l, m, w) = two_form (data_law nest_max) path⁺_law place f.1 x h p.1 in rw (← q) (field_eq f 48 _ p.0 (sym w), (l, m))
    go f x h (inr (inr p)) = absurd p

-- a pair by its two paths, under the tag of a total or of another
pair_back : (b : Bool) (p : Route) (q : Path) → OkRoute p × OkP⁺ q
    → inside (two (pair_with b) route_r path_r⁺) (bytes (route_f p ∷ path_f q ∷ [])) ≡ some (pair_with b p q)
pair_back b p q o = two_back route_law path⁺_law (pair_with b) p q o.0 o.1

pair_form : (b : Bool) (f : Field) (x : Pair) → AllBytes f.1 → f.0 ≡ pair_tag b → inside (two (pair_with b) route_r path_r⁺) f.1 ≡ some x
    → (pair_f x ≡ f) × OkPair x × (x.is_total ≡ b)
unfolding pair_f
pair_form b f x h t e =
    let (p, q, y, l, m, w) = two_form route_law path⁺_law (pair_with b) f.1 x h e in
    rw (← y) (field_eq f (pair_tag b) _ t (sym w), (l, m), refl)

plain_law : Law pair_r pair_f (λ p. OkPair p × Plain p)
unfolding pair_r pair_f tagged only
plain_law = record {
  back = λ p o. back p o.0 o.1;
  form = λ f x h e. let u = tagged_some 49 (inside (two pair_of route_r path_r⁺)) f x e in
      let g = pair_form false f x h u.0 u.1 in (g.0, (g.1, g.2));
}
  where
    back : (p : Pair) → OkPair p → p.is_total ≡ false → pair_r (pair_f p) ≡ some p
    back p o z = rw z (pair_back false p.source p.target o)

aggregate_law : Law aggregate_r pair_f OkPair
unfolding aggregate_r pair_f among chosen
aggregate_law = record {
  back = λ p o. back p p.is_total refl o;
  form = λ f x h e. go f x h (among_some aggregate_table f x e);
}
  where
    back : (p : Pair) (b : Bool) → p.is_total ≡ b → OkPair p → aggregate_r (pair_f p) ≡ some p
    back p true y o = rw y (pair_back true p.source p.target o)
    back p false y o = rw y (pair_back false p.source p.target o)

    go : (f : Field) (x : Pair) → AllBytes f.1 → OneOf aggregate_table f x → (pair_f x ≡ f) × OkPair x
    go f x h (inl p) = let g = pair_form false f x h p.0 p.1 in (g.0, g.1)
    go f x h (inr (inl p)) = let g = pair_form true f x h p.0 p.1 in (g.0, g.1)
    go f x h (inr (inr p)) = absurd p

-- pairs that a reader reads of which P says what is allowed
pairs_law : {r : Reader Pair} {P : Pair → Type 0} → Law r pair_f P → (k n : ℕ) → Law (pairs_r r k n) (pairs_f k) (λ ps. All P ps × (length ps ≤ n))
unfolding pairs_r pairs_f tagged only
pairs_law {r} L k n = record {
  back = λ ps o. rw (eqb_same k) (many_back L (λ x. x) 0 n ps o.0 (omega arith) o.1);
  form = λ f ps h e.
      let u = tagged_some k (inside (many (λ x. x) 0 n r)) f ps e in
      let (xs, q, l, a, b, w) = many_form L (λ x. x) 0 n f.1 ps h u.1 in
      rw (← q) (field_eq f k _ u.0 (sym w), (l, b));
}

abbrev aggregates_law : Law (pairs_r aggregate_r 50 aggregates_max) (pairs_f 50) (OkPairs aggregates_max)
aggregates_law = pairs_law aggregate_law 50 aggregates_max

abbrev grouping_law : Law (pairs_r pair_r 51 grouping_max) (pairs_f 51) (λ ps. All (λ p. OkPair p × Plain p) ps × (length ps ≤ grouping_max))
grouping_law = pairs_law plain_law 51 grouping_max

stage_back : (x : Stage) → OkS x → stage_r (stage_f x) ≡ some x
unfolding stage_r stage_f among chosen
stage_back (match c) o = one_back (criterion_law nest_max) match c o
stage_back (unwind p) o = one_back path_law unwind p o
stage_back (project is) o = many_back item_law project 1 items_max is o.0 o.1 o.2
stage_back (group ag gs) o = two_back aggregates_law grouping_law group ag gs o.0 (All-both OkPair Plain gs o.1.0 o.2, o.1.1)
stage_back (lookup q r p) o = three_back route_law route_law path⁺_law lookup q r p o.0 o.1 o.2

stage_law : Law stage_r stage_f OkS
unfolding stage_r stage_f
stage_law = record { back = stage_back; form = λ f x h e. go f x h (among_some stage_table f x e) }
  where
    go : (f : Field) (x : Stage) → AllBytes f.1 → OneOf stage_table f x → (stage_f x ≡ f) × OkS x
    go f x h (inl p) = let (a, q, l, w) = one_form (criterion_law nest_max) match f.1 x h p.1 in rw (← q) (field_eq f 17 _ p.0 (sym w), l)
    go f x h (inr (inl p)) = let (a, q, l, w) = one_form path_law unwind f.1 x h p.1 in rw (← q) (field_eq f 18 _ p.0 (sym w), l)
    go f x h (inr (inr (inl p))) = let (xs, q, l, a, b, w) = many_form item_law project 1 items_max f.1 x h p.1 in rw (← q) (field_eq f 19 _ p.0 (sym w), (l, a, b))
    go f x h (inr (inr (inr (inl p)))) = let (a, b, q, l, m, w) = two_form aggregates_law grouping_law group f.1 x h p.1 in rw (← q) (field_eq f 20 _ p.0 (sym w), (l, (All-imply _ OkPair (λ _ o. o.0) b m.0, m.1), All-imply _ Plain (λ _ o. o.1) b m.0))
    go f x h (inr (inr (inr (inr (inl p))))) = let (a, b, c, q, l, m, n, w) = three_form route_law route_law path⁺_law lookup f.1 x h p.1 in rw (← q) (field_eq f 21 _ p.0 (sym w), (l, m, n))
    go f x h (inr (inr (inr (inr (inr p))))) = absurd p

query_law : Law query_r query_f (λ ss. All OkS ss × (length ss ≤ stages_max))
unfolding query_r query_f tagged only
query_law = record {
  back = λ ss o. many_back stage_law (λ x. x) 0 stages_max ss o.0 (omega arith) o.1;
  form = λ f ss h e.
      let u = tagged_some 16 (inside (many (λ x. x) 0 stages_max stage_r)) f ss e in
      let (xs, q, l, a, b, w) = many_form stage_law (λ x. x) 0 stages_max f.1 ss h u.1 in
      rw (← q) (field_eq f 16 _ u.0 (sym w), (l, b));
}

pub query_back : (ss : List Stage) → OkQ ss → decode_query (query_bytes ss) ≡ some ss
unfolding decode_query query_bytes only
query_back ss o = rw (leb_yes (length (query_bytes ss)) query_max o.size, ← bytes_one (query_f ss)) (one_back query_law (λ q. q) ss (o.stages, o.count))

pub query_only : (b : List ℕ) (ss : List Stage) → AllBytes b → decode_query b ≡ some ss → (query_bytes ss ≡ b) × OkQ ss
unfolding decode_query query_bytes
query_only b ss h e =
    let o = only_some (leb (length b) query_max) _ e in
    let (xs, q, l, w) = one_form query_law (λ q. q) b ss h o.1 in
    let z : query_bytes xs ≡ b = sym (bytes_one (query_f xs)) ∙ w in
    let n : length (query_bytes xs) ≤ query_max = rw z (leb→le (length b) query_max o.0) in
    rw (← q) (z, record { stages = l.0; count = l.1; size = n })

-- the theorem
pub query_form : (b : List ℕ) → AllBytes b → (ss : List Stage) → (decode_query b ≡ some ss) ↔ ((query_bytes ss ≡ b) × OkQ ss)
query_form b h ss = (query_only b ss h, λ p. sym (ap decode_query p.0) ∙ query_back ss p.1)

pub read_query_lem : (b : List ℕ) (ss : List Stage) → (read_query b ≡ accepted ss) ↔ (decode_query b ≡ some ss)
unfolding read_query decode_query
read_query_lem b ss = tested_only query_max b (inside (one (λ q. q) query_r) b) ss

-- ---- a lent query: over its limit, by its length alone
pub query_overlong : (b : List ℕ) → (read_query b ≡ overlong) ↔ (query_max < length b)
unfolding read_query
query_overlong b = tested_overlong query_max b (decode_query b)

-- malformed: short enough, and not the byte form of any query that the rules allow
pub query_malformed : (b : List ℕ) → AllBytes b → (read_query b ≡ malformed) ↔ ((length b ≤ query_max) × ((ss : List Stage) → OkQ ss → query_bytes ss ≡ b → ⊥))
unfolding read_query
query_malformed b h = malformed_form query_max b (decode_query b) query_bytes OkQ (query_form b h)
