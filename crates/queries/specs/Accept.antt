-- What the check of a query's bytes comes to: whether the readers of `Decode` read them, as a test; and the same by the
-- table.
use Rattle.std.specs.Prelude.{◌≡◌, List, [], ◌∷◌, Bool, true, false, cond, ◌&&◌, ◌||◌, ℕ, zero, suc, ◌+◌, ◌≤◌, ◌<◌, length, eqb, leb, ltb}
use Rattle.std.proofs.Math.Seq.{slice}
use Rattle.spec_trees.specs.Options.{maybe, some?}
use Rattle.spec_trees.specs.Limits.{nest_max, aggregates_max, grouping_max}
use Rattle.spec_trees.specs.Bytes.{Field}
use Rattle.spec_trees.specs.Readers.{fields}
use Rattle.spec_trees.specs.Decode.{array_r}
use Rattle.spec_queries.specs.Decode.{path_r, criterion_r, divisor_r, data_r, item_r, pair_r, aggregate_r, pairs_r, stage_r, query_r}
use Rattle.areas.specs.declared.span.Span.{Span}
use Rattle.queries.specs.declared.check.Next.{Next}
use Rattle.queries.specs.declared.check.Next.TheVariants.{Behind, Inside}
use Rattle.std.specs.Prelude.{Option as Maybe, Some, None}
use Rattle.queries.specs.declared.table.Child.{Child}
use Rattle.queries.specs.declared.table.Rule.{Rule}
use Rattle.queries.specs.Table.{allowed, child_at, rule_at}

-- ---- by the readers
-- a criterion, and data, that may nest d deep
unfoldable pub criterion_ok : ℕ → Field → Bool
criterion_ok d f = some? (criterion_r d f)

unfoldable pub data_ok : ℕ → Field → Bool
data_ok d f = some? (data_r d f)

-- any field: the reader of the kind that its tag belongs to reads it, where criteria and data may nest d deep
unfoldable pub field_ok : ℕ → Field → Bool
field_ok d f =
    cond (leb f.0 15) (some? (array_r f))
    (cond (leb f.0 16) (some? (query_r f))
    (cond (leb f.0 31) (some? (stage_r f))
    (cond (leb f.0 32) (some? (path_r f))
    (cond (leb f.0 39) (criterion_ok d f)
    (cond (leb f.0 45) (data_ok d f)
    (cond (leb f.0 46) (some? (divisor_r f))
    (cond (leb f.0 48) (some? (item_r f))
    (cond (leb f.0 49) (some? (pair_r f))
    (cond (leb f.0 50) (some? (pairs_r aggregate_r 50 aggregates_max f))
    (cond (leb f.0 51) (some? (pairs_r pair_r 51 grouping_max f))
    (some? (aggregate_r f))))))))))))

-- ---- by the table; ok is the test of the fields inside
-- a field that stands where the table allows such a child
unfoldable pub child_ok : (Field → Bool) → Child → Field → Bool
child_ok ok ch f = allowed ch f.0 (length f.1) && ok f

-- the children behind n others: not too many, each as the rule says, not too few
unfoldable pub children_ok : (Field → Bool) → Rule → ℕ → List Field → Bool
children_ok ok r n [] = leb r.least n
children_ok ok r n (f ∷ fs) = ltb n r.most && (child_ok ok (child_at r n) f && children_ok ok r (suc n) fs)

-- a content that is those children
unfoldable pub content_ok : (Field → Bool) → Rule → ℕ → List ℕ → Bool
content_ok ok r n c = maybe false (children_ok ok r n) (fields c)

-- a content by the rule of the tag t, criteria and data inside nesting at most d deep
abbrev pub by_rule : ℕ → ℕ → List ℕ → Bool
by_rule d t c = content_ok (field_ok d) (rule_at t) 0 c

-- 1 an array, 32 a path and 46 a divisor hold no fields of a query
unfoldable pub leaf : ℕ → Bool
leaf t = eqb t 1 || (eqb t 32 || eqb t 46)

-- a criterion or data
unfoldable pub nested : ℕ → Bool
nested t = leb 33 t && leb t 45

-- inside a criterion or data one level less is left, and where none is left they do not pass
unfoldable pub deeper : ℕ → ℕ → List ℕ → Bool
deeper zero t c = false
deeper (suc d) t c = by_rule d t c

-- inside any other field all levels are left
unfoldable pub by_table : ℕ → ℕ → List ℕ → Bool
by_table d t c = cond (nested t) (deeper d t c) (by_rule nest_max t c)

-- ---- the walk
-- what is told of a field, however deep criteria and data may nest
abbrev pub Tells : ℕ → List ℕ → Maybe Bool → Type 0
Tells t c (Some true) = (d : ℕ) → field_ok d (t, c) ≡ true
Tells t c None = leaf t ≡ false
Tells t c (Some false) = (d : ℕ) → field_ok d (t, c) ≡ false

-- whether a rule's children behind n others stand in s from a place on
abbrev pub rest_ok : ℕ → Rule → ℕ → List ℕ → ℕ → ℕ → Bool
rest_ok d x n s at end = content_ok (field_ok d) x n (slice at end s)

-- a good child, which ends at e
pub record Passed (x : Rule) (n : ℕ) (s : List ℕ) (rest : Span) (e : ℕ) : Type 0 where
  pub rises : rest.from < e
  pub within : e ≤ rest.to
  pub same : (d : ℕ) → rest_ok d x n s rest.from rest.to ≡ rest_ok d x (n + 1) s e rest.to

-- a child with the tag t that holds fields
pub record Held (x : Rule) (n : ℕ) (s : List ℕ) (rest : Span) (t : ℕ) (c : Span) : Type 0 where
  pub holds : leaf t ≡ false
  pub after : rest.from < c.from
  pub order : c.from ≤ c.to
  pub within : c.to ≤ rest.to
  pub same : (d : ℕ) → rest_ok d x n s rest.from rest.to ≡ field_ok d (t, slice c.from c.to s) && rest_ok d x (n + 1) s c.to rest.to

abbrev pub NextIs : Rule → ℕ → List ℕ → Span → Maybe Next → Type 0
NextIs x n s rest (Some (Behind e)) = Passed x n s rest e
NextIs x n s rest (Some (Inside f)) = Held x n s rest f.tag f.content
NextIs x n s rest None = (d : ℕ) → rest_ok d x n s rest.from rest.to ≡ false
