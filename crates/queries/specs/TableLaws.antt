-- The table says what the readers read: one theorem over all tags, `table_agrees`.
use Rattle.std.specs.Prelude.{◌≡◌, List, [], ◌∷◌, Bool, ◌&&◌, ◌||◌, ◌⊎◌, ℕ, zero, suc, ◌+◌, ◌-◌, ◌≤◌, ◌<◌, length, T, eqb, ltb}
use Rattle.std.proofs.Math.Path.{refl}
use Rattle.std.proofs.Common.{sym, ap, subst, ◌∙◌, inl, inr, sub-one, zero-add, add-zero, leb→le}
use Rattle.std.proofs.Math.Bool.{true, false, cond, and-true, and-false}
use Rattle.std.proofs.Math.Option.{Option}
use native.Mathlib.Omega.{arith}
use Rattle.std.proofs.Math.ListN.{get_or-eq_default}
use Rattle.std.proofs.Math.Dec.{leb, leb-zero}
use borrow.Author.Tests.{eqb-true, eqb-false, ne_eqb, le-leb, lt-leb, leb-true, leb-false}
use Rattle.spec_trees.specs.Options.{only, some?}
use Rattle.spec_trees.specs.Limits.{nest_max, stages_max, items_max, members_max, aggregates_max, grouping_max}
use Rattle.spec_trees.specs.Bytes.{Field}
use Rattle.spec_trees.specs.Readers.{Reader, Table, chosen, among, tagged}
use Rattle.spec_trees.specs.Decode.{array_with, array_r}
use Rattle.spec_trees.specs.OptionLaws.{T_and}
use Rattle.spec_queries.specs.Query.{always, exists, equal, same, negated, both, either, literal, path, listed, test, choice, reduced, datas, keep, place, pair_of, total_pair, match, unwind, project, group, lookup}
use Rattle.spec_queries.specs.Decode.{path_r, path_r⁺, route_r, criterion_r, criterion_table, divisor_r, data_r, data_table, item_r, item_table, pair_r, aggregate_r, pairs_r, stage_r, stage_table, query_r}
use Rattle.queries.specs.declared.table.Kind.TheVariants as Kind
use Rattle.queries.specs.Table.{child, no_tags, range, may_be, allowed, child_by, never, rules, rule_at}
use Rattle.queries.specs.Numbers.{kinds, kind_at}
use Rattle.queries.specs.Accept.{criterion_ok, data_ok, field_ok, child_ok, content_ok, by_rule, leaf, nested, deeper, by_table}
use Rattle.queries.specs.ShapeLaws.{some_only, Takes, Reads, one_ok, two_ok, three_ok, many_ok, none_ok, never_ok}

-- ---- kinds: the reader of a kind reads what may stand as a child of it
-- a tag outside low to high
abbrev pub Outside : ℕ → ℕ → ℕ → Type 0
Outside low high t = (t < low) ⊎ (high < t)

-- a kind by its range and its two further tags
module _ (d low high second third : ℕ) {A : Type 0} (r : Reader A)
    (in_range : (t : ℕ) (c : List ℕ) → low ≤ t → t ≤ high → field_ok d (t, c) ≡ some? (r (t, c)))
    (at_second : (c : List ℕ) → field_ok d (second, c) ≡ some? (r (second, c)))
    (at_third : (c : List ℕ) → field_ok d (third, c) ≡ some? (r (third, c)))
    (outside : (t : ℕ) (c : List ℕ) → Outside low high t → (t ≡ second → ⊥) → (t ≡ third → ⊥) → some? (r (t, c)) ≡ false) where
  -- a tag is one of the further two, or no tag of this kind
  by_singles : (f : Field) (a b : Bool) → Outside low high f.0 → eqb f.0 second ≡ a → eqb f.0 third ≡ b → some? (r f) ≡ (a || b) && field_ok d f
  by_singles f true b o p q = subst (λ t. some? (r (t, f.1)) ≡ field_ok d (t, f.1)) (sym (eqb-true f.0 second p)) (sym (at_second f.1))
  by_singles f false true o p q = subst (λ t. some? (r (t, f.1)) ≡ field_ok d (t, f.1)) (sym (eqb-true f.0 third q)) (sym (at_third f.1))
  by_singles f false false o p q = outside f.0 f.1 o (eqb-false f.0 second p) (eqb-false f.0 third q)

  by_tests : (f : Field) (a b : Bool) → leb low f.0 ≡ a → leb f.0 high ≡ b
      → some? (r f) ≡ ((a && b) || (eqb f.0 second || eqb f.0 third)) && field_ok d f
  by_tests f true true p q = sym (in_range f.0 f.1 (leb-true low f.0 p) (leb-true f.0 high q))
  by_tests f true false p q = by_singles f _ _ (inr (leb-false f.0 high q)) refl refl
  by_tests f false b p q = by_singles f _ _ (inl (leb-false low f.0 p)) refl refl

  kind_reads : Takes (field_ok d) r (child low high second third 0)
  unfolding child_ok allowed may_be
  kind_reads f = rw (leb-zero (length f.1), and-true) (by_tests f (leb low f.0) (leb f.0 high) refl refl)

-- a range, and no further tags
range_reads : (d low high : ℕ) {A : Type 0} (r : Reader A) → low ≤ high
    → ((t : ℕ) (c : List ℕ) → low ≤ t → t ≤ high → field_ok d (t, c) ≡ some? (r (t, c)))
    → ((t : ℕ) (c : List ℕ) → Outside low high t → some? (r (t, c)) ≡ false) → Takes (field_ok d) r (range low high)
range_reads d low high r l h o =
    let first : (c : List ℕ) → field_ok d (low, c) ≡ some? (r (low, c)) = λ c. h low c (omega arith) l in
    kind_reads d low high low low r h first first (λ t c out a b. o t c out)

outside_other : (k t : ℕ) → Outside k k t → t ≡ k → ⊥
outside_other k t (inl l) e = omega arith
outside_other k t (inr l) e = omega arith

-- a reader of one tag
tagged_outside : {A : Type 0} (k : ℕ) (p : List ℕ → Option A) (t : ℕ) (c : List ℕ) → Outside k k t → some? (tagged k p (t, c)) ≡ false
unfolding tagged only some?
tagged_outside k p t c o = rw (ne_eqb t k (outside_other k t o)) refl

tagged_reads : {A : Type 0} (d k : ℕ) (p : List ℕ → Option A) → ((c : List ℕ) → field_ok d (k, c) ≡ some? (tagged k p (k, c))) → Takes (field_ok d) (tagged k p) (range k k)
tagged_reads d k p h = range_reads d k k (tagged k p) (omega arith) (λ t c a b. let e : t ≡ k = omega arith in rw e (h c)) (tagged_outside k p)

-- a reader by a table: no entry has a tag outside
unfoldable tags_within : {A : Type 0} → ℕ → ℕ → Table A → Bool
tags_within low high [] = true
tags_within low high (x ∷ xs) = leb low x.0 && (leb x.0 high && tags_within low high xs)

chosen_outside : {A : Type 0} (low high : ℕ) (xs : Table A) (t : ℕ) (c : List ℕ) → T (tags_within low high xs) → Outside low high t → some? (chosen xs t c) ≡ false
unfolding tags_within chosen some?
chosen_outside low high [] t c w o = refl
chosen_outside low high (x ∷ xs) t c w o =
    let p = T_and (leb low x.0) _ w in
    let q = T_and (leb x.0 high) _ p.1 in
    rw (ne_eqb t x.0 (differ o (leb→le low x.0 p.0) (leb→le x.0 high q.0))) (chosen_outside low high xs t c q.1 o)
  where
    differ : Outside low high t → low ≤ x.0 → x.0 ≤ high → t ≡ x.0 → ⊥
    differ (inl l) a b e = omega arith
    differ (inr l) a b e = omega arith

-- where no child may stand, no byte is the tag of one
pub none_allowed : (t n : ℕ) → t < 256 → allowed (child_by Kind.Nothing) t n ≡ false
unfolding child_by allowed may_be
none_allowed zero n l = refl
none_allowed (suc t) n l = rw (ne_eqb (suc t) 256 (λ e. omega arith), le-leb 1 (suc t) (omega arith), lt-leb (suc t) 0 (omega arith)) refl

module _ (d : ℕ) where
  array_reads : Reads (field_ok d) array_r Kind.Array
  unfolding child_by field_ok array_r array_with
  array_reads = record { takes = tagged_reads d 1 _ (λ c. refl) }

  path_reads : Reads (field_ok d) path_r Kind.Path
  unfolding child_by field_ok path_r
  path_reads = record { takes = tagged_reads d 32 _ (λ c. refl) }

  route_reads : Reads (field_ok d) route_r Kind.Route
  unfolding child_by
  route_reads = record { takes = path_reads.takes }

  divisor_reads : Reads (field_ok d) divisor_r Kind.Divisor
  unfolding child_by field_ok divisor_r
  divisor_reads = record { takes = tagged_reads d 46 _ (λ c. refl) }

  pair_reads : Reads (field_ok d) pair_r Kind.Pair
  unfolding child_by field_ok pair_r
  pair_reads = record { takes = tagged_reads d 49 _ (λ c. refl) }

  -- a pair, which may be a total
  aggregate_reads : Reads (field_ok d) aggregate_r Kind.Aggregate
  unfolding child_by field_ok pair_r tagged only aggregate_r among chosen some?
  aggregate_reads = record {
    takes = kind_reads d 49 49 54 54 aggregate_r
        (λ t c a b. let e : t ≡ 49 = omega arith in rw e refl)
        (λ c. refl)
        (λ c. refl)
        (λ t c o n m. rw (ne_eqb t 49 (outside_other 49 t o), ne_eqb t 54 n) refl);
  }

  aggregates_reads : Reads (field_ok d) (pairs_r aggregate_r 50 aggregates_max) Kind.Aggregates
  unfolding child_by field_ok pairs_r
  aggregates_reads = record { takes = tagged_reads d 50 _ (λ c. refl) }

  grouping_reads : Reads (field_ok d) (pairs_r pair_r 51 grouping_max) Kind.Grouping
  unfolding child_by field_ok pairs_r
  grouping_reads = record { takes = tagged_reads d 51 _ (λ c. refl) }

  -- a path not empty
  given_reads : Reads (field_ok d) path_r⁺ Kind.Given
  unfolding child_by path_r⁺ child_ok allowed may_be
  given_reads = record {
    takes = λ f.
        some_only (leb 1 (length f.1)) (path_r f)
        ∙ (ap (λ x. leb 1 (length f.1) && x) (path_reads.takes f)
        ∙ rw (leb-zero (length f.1)) (go (leb 1 (length f.1)) (may_be (range 32 32) f.0) (field_ok d f)));
  }
    where
      go : (n a x : Bool) → n && ((a && true) && x) ≡ (a && n) && x
      go true a x = refl
      go false true x = refl
      go false false x = refl

  stage_reads : Reads (field_ok d) stage_r Kind.Stage
  unfolding child_by field_ok stage_r among tags_within
  stage_reads = record {
    takes = range_reads d 17 21 stage_r (omega arith)
        (λ t c a b. rw (lt-leb t 15 (omega arith), lt-leb t 16 (omega arith), le-leb t 31 (omega arith)) refl)
        (λ t c o. chosen_outside 17 21 stage_table t c tt o);
  }

  item_reads : Reads (field_ok d) item_r Kind.Item
  unfolding child_by field_ok item_r among tags_within
  item_reads = record {
    takes = range_reads d 47 48 item_r (omega arith)
        (λ t c a b. rw (lt-leb t 15 (omega arith), lt-leb t 16 (omega arith), lt-leb t 31 (omega arith), lt-leb t 32 (omega arith), lt-leb t 39 (omega arith), lt-leb t 45 (omega arith), lt-leb t 46 (omega arith), le-leb t 48 b) refl)
        (λ t c o. chosen_outside 47 48 item_table t c tt o);
  }

  pub criterion_field : (t : ℕ) (c : List ℕ) → 33 ≤ t → t ≤ 39 → field_ok d (t, c) ≡ criterion_ok d (t, c)
  unfolding field_ok
  criterion_field t c a b = rw (lt-leb t 15 (omega arith), lt-leb t 16 (omega arith), lt-leb t 31 (omega arith), lt-leb t 32 (omega arith), le-leb t 39 b) refl

  pub data_field : (t : ℕ) (c : List ℕ) → 40 ≤ t → t ≤ 45 → field_ok d (t, c) ≡ data_ok d (t, c)
  unfolding field_ok
  data_field t c a b = rw (lt-leb t 15 (omega arith), lt-leb t 16 (omega arith), lt-leb t 31 (omega arith), lt-leb t 32 (omega arith), lt-leb t 39 (omega arith), le-leb t 45 b) refl

criterion_outside : (d t : ℕ) (c : List ℕ) → Outside 33 39 t → some? (criterion_r d (t, c)) ≡ false
unfolding criterion_r among tags_within some?
criterion_outside zero t c o = refl
criterion_outside (suc d) t c o = chosen_outside 33 39 (criterion_table (criterion_r d)) t c tt o

criterion_reads : (d : ℕ) → Reads (field_ok d) (criterion_r d) Kind.Criterion
unfolding child_by criterion_ok
criterion_reads d = record { takes = range_reads d 33 39 (criterion_r d) (omega arith) (criterion_field d) (criterion_outside d) }

data_outside : (d t : ℕ) (c : List ℕ) → Outside 40 45 t → some? (data_r d (t, c)) ≡ false
unfolding data_r among tags_within some?
data_outside zero t c o = refl
data_outside (suc d) t c o = chosen_outside 40 45 (data_table (criterion_r d) (data_r d)) t c tt o

data_reads : (d : ℕ) → Reads (field_ok d) (data_r d) Kind.Data
unfolding child_by data_ok
data_reads d = record { takes = range_reads d 40 45 (data_r d) (omega arith) (data_field d) (data_outside d) }

-- ---- the agreement
abbrev Agrees : ℕ → Type 0
Agrees t = leaf t ≡ false → (d : ℕ) (c : List ℕ) → field_ok d (t, c) ≡ by_table d t c

leaf_agrees : (t : ℕ) → leaf t ≡ true → Agrees t
leaf_agrees t e l = let z : ◌≡◌ {A = ℕ} 0 1 = cc in absurd (omega arith)

nested_agrees : (t : ℕ) → ((c : List ℕ) → field_ok 0 (t, c) ≡ by_table 0 t c) → ((d : ℕ) (c : List ℕ) → field_ok (suc d) (t, c) ≡ by_table (suc d) t c) → Agrees t
nested_agrees t z s l zero c = z c
nested_agrees t z s l (suc d) c = s d c

no_tag : ◌≡◌ {A = Bool} false false → (d : ℕ) (c : List ℕ) → false ≡ content_ok (field_ok nest_max) never 0 c
no_tag l d c = sym (never_ok (field_ok nest_max) c)

-- P of each number from k on, n in all
abbrev Each : (ℕ → Type 0) → ℕ → ℕ → Type 0
Each P k zero = Unit {0}
Each P k (suc n) = P k × Each P (suc k) n

-- one after another
infixr 20 ◌also◌
◌also◌ : {A B : Type 0} → A → B → A × B
◌also◌ a b = (a, b)

each_has : (P : ℕ → Type 0) (n k : ℕ) → Each P k n → (i : ℕ) → i < n → P (k + i)
each_has P zero k e i l = absurd (omega arith)
each_has P (suc n) k e zero l = rw (add-zero k) e.0
each_has P (suc n) k e (suc i) l = let q : k + suc i ≡ suc k + i = omega arith in rw q (each_has P n (suc k) e.1 i (omega arith))

-- over the whole table: at each tag both sides compute, and the shape's law joins them
agreement : Each Agrees 0 55
unfolding field_ok array_r array_with tagged only query_r stage_r among chosen path_r criterion_ok criterion_r data_ok data_r divisor_r item_r pair_r aggregate_r pairs_r some? by_table deeper nested leaf rule_at
agreement =
    -- 0 to 15
    no_tag
    also leaf_agrees 1 refl
    also no_tag also no_tag also no_tag also no_tag also no_tag also no_tag also no_tag also no_tag also no_tag also no_tag also no_tag also no_tag also no_tag also no_tag
    -- 16 to 21: the query, and the stages
    also (λ l d. many_ok (λ ss. ss) 0 stages_max (stage_reads nest_max))
    also (λ l d. one_ok match (criterion_reads nest_max))
    also (λ l d. one_ok unwind (path_reads nest_max))
    also (λ l d. many_ok project 1 items_max (item_reads nest_max))
    also (λ l d. two_ok group (aggregates_reads nest_max) (grouping_reads nest_max))
    also (λ l d. three_ok lookup (route_reads nest_max) (route_reads nest_max) (given_reads nest_max))
    -- 22 to 31
    also no_tag also no_tag also no_tag also no_tag also no_tag also no_tag also no_tag also no_tag also no_tag also no_tag
    -- 32: paths
    also leaf_agrees 32 refl
    -- 33 to 39: criteria
    also nested_agrees 33 (λ c. refl) (λ d. none_ok (field_ok d) always)
    also nested_agrees 34 (λ c. refl) (λ d. one_ok exists (route_reads d))
    also nested_agrees 35 (λ c. refl) (λ d. two_ok equal (route_reads d) (array_reads d))
    also nested_agrees 36 (λ c. refl) (λ d. two_ok same (route_reads d) (route_reads d))
    also nested_agrees 37 (λ c. refl) (λ d. one_ok negated (criterion_reads d))
    also nested_agrees 38 (λ c. refl) (λ d. two_ok both (criterion_reads d) (criterion_reads d))
    also nested_agrees 39 (λ c. refl) (λ d. two_ok either (criterion_reads d) (criterion_reads d))
    -- 40 to 45: data
    also nested_agrees 40 (λ c. refl) (λ d. one_ok literal (array_reads d))
    also nested_agrees 41 (λ c. refl) (λ d. one_ok path (route_reads d))
    also nested_agrees 42 (λ c. refl) (λ d. many_ok (λ ds. listed (datas ds)) 1 members_max (data_reads d))
    also nested_agrees 43 (λ c. refl) (λ d. one_ok test (criterion_reads d))
    also nested_agrees 44 (λ c. refl) (λ d. three_ok choice (criterion_reads d) (data_reads d) (data_reads d))
    also nested_agrees 45 (λ c. refl) (λ d. two_ok reduced (route_reads d) (divisor_reads d))
    -- 46: divisors
    also leaf_agrees 46 refl
    -- 47 to 54: items, pairs, aggregates and grouping, totals
    also (λ l d. one_ok keep (path_reads nest_max))
    also (λ l d. two_ok place (data_reads nest_max) (given_reads nest_max))
    also (λ l d. two_ok pair_of (route_reads nest_max) (given_reads nest_max))
    also (λ l d. many_ok (λ ps. ps) 0 aggregates_max (aggregate_reads nest_max))
    also (λ l d. many_ok (λ ps. ps) 0 grouping_max (pair_reads nest_max))
    also no_tag also no_tag
    also (λ l d. two_ok total_pair (route_reads nest_max) (given_reads nest_max))
    also tt

-- above it
above_agrees : (t : ℕ) → 55 ≤ t → Agrees t
unfolding field_ok aggregate_r among chosen some? by_table nested rule_at
above_agrees t h l d c =
    rw (lt-leb t 15 (omega arith), lt-leb t 16 (omega arith), lt-leb t 31 (omega arith), lt-leb t 32 (omega arith), lt-leb t 39 (omega arith), lt-leb t 45 (omega arith), lt-leb t 46 (omega arith), lt-leb t 48 (omega arith), lt-leb t 49 (omega arith), lt-leb t 50 (omega arith), lt-leb t 51 (omega arith), le-leb 33 t (omega arith), ne_eqb t 49 (λ e. omega arith), ne_eqb t 54 (λ e. omega arith), get_or-eq_default rules never {n = t} h)
    (sym (never_ok (field_ok nest_max) c))

-- the theorem: of every tag that holds fields, the table says what the reader of its kind reads
pub table_agrees : (t : ℕ) → leaf t ≡ false → (d : ℕ) (c : List ℕ) → field_ok d (t, c) ≡ by_table d t c
table_agrees t = go (ltb t 55) refl
  where
    go : (b : Bool) → ltb t 55 ≡ b → Agrees t
    go true e = rw zero-add at (each_has Agrees 55 0 agreement t (leb-true (suc t) 55 e))
    go false e = above_agrees t (omega (arith, leb-false (suc t) 55 e))

-- ---- beside the table's rows, and beside the kinds' numbers
-- a number that is none of the list, the last one first, as a match leaves it
abbrev pub NoneOf : ℕ → List ℕ → Type 0
NoneOf t [] = Unit {0}
NoneOf t (k ∷ ks) = NoneOf t ks × (t ≡ k → ⊥)

unfoldable has : ℕ → List ℕ → Bool
has t [] = false
has t (k ∷ ks) = eqb t k || has t ks

has_none : (t : ℕ) (ks : List ℕ) → NoneOf t ks → has t ks ≡ false
unfolding has
has_none t [] n = refl
has_none t (k ∷ ks) n = rw (ne_eqb t k n.1) (has_none t ks n.0)

-- f is x outside the list, by a look at each number below m
module _ {A : Type 0} (f : ℕ → A) (x : A) (ks : List ℕ) where
  abbrev Else : ℕ → Type 0
  Else t = has t ks ≡ false → f t ≡ x

  by_rows : (m : ℕ) → Each Else 0 m → ((t : ℕ) → m ≤ t → f t ≡ x) → (t : ℕ) → NoneOf t ks → f t ≡ x
  by_rows m rows out t n = go (ltb t m) refl
    where
      go : (b : Bool) → ltb t m ≡ b → f t ≡ x
      go true e = rw zero-add at (each_has Else m 0 rows t (leb-true (suc t) m e)) (has_none t ks n)
      go false e = out t (omega (arith, leb-false (suc t) m e))

-- a row that the list has, and one that is x
listed_row : {A : Type 0} {a b : A} → true ≡ false → a ≡ b
listed_row e = let z : ◌≡◌ {A = ℕ} 0 1 = cc in absurd (omega arith)

other_row : {A : Type 0} {a : A} → false ≡ false → a ≡ a
other_row e = refl

pub rule_out : (t : ℕ) → 55 ≤ t → rule_at t ≡ never
unfolding rule_at
rule_out t l = get_or-eq_default rules never {n = t} l

abbrev pub child_kinds : List ℕ
child_kinds = 13 ∷ 12 ∷ 11 ∷ 10 ∷ 9 ∷ 8 ∷ 7 ∷ 6 ∷ 5 ∷ 4 ∷ 3 ∷ 2 ∷ 1 ∷ []

pub kind_else : (k : ℕ) → NoneOf k child_kinds → kind_at k ≡ no_tags
unfolding kind_at has
kind_else =
    by_rows kind_at no_tags child_kinds 14
    (other_row also listed_row also listed_row also listed_row also listed_row also listed_row also listed_row
    also listed_row also listed_row also listed_row also listed_row also listed_row also listed_row also listed_row also tt)
    (λ k l. get_or-eq_default kinds no_tags {n = k} l)

-- ---- the same by the parts of the code
-- where no level is left
pub criterion_deep : (d : ℕ) (f : Field) → d ≡ 0 → criterion_ok d f ≡ false
unfolding criterion_ok criterion_r some?
criterion_deep d f e = rw e refl

pub data_deep : (d : ℕ) (f : Field) → d ≡ 0 → data_ok d f ≡ false
unfolding data_ok data_r some?
data_deep d f e = rw e refl

deeper_less : (d t : ℕ) (c : List ℕ) → (d ≡ 0 → ⊥) → deeper d t c ≡ by_rule (d - 1) t c
unfolding deeper
deeper_less zero t c n = absurd (n refl)
deeper_less (suc d) t c n = rw (sub-one (suc d)) refl

pub not_leaf : (t : ℕ) → (t ≡ 1 → ⊥) → (t ≡ 32 → ⊥) → (t ≡ 46 → ⊥) → leaf t ≡ false
unfolding leaf
not_leaf t a b c = rw (ne_eqb t 1 a, ne_eqb t 32 b, ne_eqb t 46 c) refl

module _ (d t : ℕ) (c : List ℕ) where
  nested_rule : 33 ≤ t → t ≤ 45 → (d ≡ 0 → ⊥) → field_ok d (t, c) ≡ by_rule (d - 1) t c
  unfolding by_table nested
  nested_rule a b n =
      table_agrees t (not_leaf t (λ e. omega arith) (λ e. omega arith) (λ e. omega arith)) d c
      ∙ rw (le-leb 33 t a, le-leb t 45 b) (deeper_less d t c n)

  pub criterion_rule : 33 ≤ t → t ≤ 39 → (d ≡ 0 → ⊥) → criterion_ok d (t, c) ≡ by_rule (d - 1) t c
  criterion_rule a b n = sym (criterion_field d t c a b) ∙ nested_rule a (omega arith) n

  pub data_rule : 40 ≤ t → t ≤ 45 → (d ≡ 0 → ⊥) → data_ok d (t, c) ≡ by_rule (d - 1) t c
  data_rule a b n = sym (data_field d t c a b) ∙ nested_rule (omega arith) b n

  pub other_rule : leaf t ≡ false → Outside 33 45 t → field_ok d (t, c) ≡ by_rule nest_max t c
  unfolding by_table nested
  other_rule n o = table_agrees t n d c ∙ go o
    where
      go : Outside 33 45 t → cond (leb 33 t && leb t 45) (deeper d t c) (by_rule nest_max t c) ≡ by_rule nest_max t c
      go (inl l) = rw (lt-leb 33 t l) refl
      go (inr l) = rw (lt-leb t 45 l, and-false (leb 33 t)) refl
