-- The steps of the check, in the terms in which the code meets them, and what an accepted query is.
use Rattle.std.specs.Prelude.{◌≡◌, List, [], ◌∷◌, Bool, true, ◌&&◌, length, get_or, eqb, ltb}
use Rattle.std.proofs.Math.Path.{refl, ap}
use Rattle.std.proofs.Common.{sym, subst, ◌∙◌, add-zero}
use Rattle.std.proofs.Math.Bool.{false}
use Rattle.std.specs.List.{list_all, range_with_len}
use Rattle.std.proofs.Math.Option.{Option, none, some, map}
use Prim.Native.Nat.{ℕ, zero, suc, ◌+◌, ◌-◌, ◌*◌, ◌≤◌, ◌<◌}
use Rattle.std.proofs.Math.Numerals.{add-one}
use native.Mathlib.Omega.{arith}
use Rattle.std.proofs.Math.Seq.{slice, slice-cons, slice_empty, length-slice, take-length}
use Rattle.std.proofs.Math.Dec.{leb}
use borrow.Author.Tests.{ne_eqb, le-leb, lt-leb, lt-ltb, le-ltb}
use Rattle.spec_trees.specs.Options.{only, maybe, some?}
use Rattle.spec_trees.specs.Lists.{all}
use Rattle.spec_trees.specs.Limits.{query_max, path_max, depth_max}
use Rattle.spec_trees.specs.Tree.{is_label}
use Rattle.spec_trees.specs.Bytes
use Rattle.spec_trees.specs.Readers.{fields, inside, one, tagged, low_value, big_value, well_formed, tested}
use Rattle.spec_trees.specs.Decode.{array_r}
use Rattle.areas.specs.declared.span.Span.{Span}
use Rattle.areas.specs.Area.{span}
use Rattle.format.specs.declared.head.FieldAt.{FieldAt}
use Rattle.format.specs.declared.check.Fault.TheVariants.{Overlong, Malformed}
use Rattle.format.specs.Head.{Head, field_at, head_at, span_at}
use Rattle.format.specs.Check.{array_ok, check_of}
use Rattle.format.specs.CheckLaws.{check_some, check_none}
use Rattle.format.specs.HeadLaws.{head_found, fields_nothing, fields_end, inside_one, span_none}
use Rattle.spec_queries.specs.Query.{Stage, is_path, is_divisor}
use Rattle.spec_queries.specs.Decode.{path_r, divisor_r, query_r, decode_query, read_query}
use Rattle.queries.specs.Steps.{step_in}
use Rattle.queries.specs.declared.check.Next.{Next}
use Rattle.queries.specs.declared.check.Next.TheVariants.{Behind, Inside}
use Rattle.std.specs.Prelude.{Option as Maybe, Some, None, Ok, Err}
use Rattle.queries.specs.declared.table.Rule.{Rule}
use Rattle.queries.specs.Table.{allowed, child_at}
use Rattle.queries.specs.Accept.{field_ok, child_ok, children_ok, content_ok, leaf, Tells, rest_ok, Passed, Held, NextIs}
use Rattle.queries.specs.ShapeLaws.{some_only}

-- ---- paths
some_if : {A : Type 0} (b : Bool) (x : A) → some? (only b (some x)) ≡ b
unfolding only some?
some_if true x = refl
some_if false x = refl

long_path : (p : List ℕ) → path_max < length p → is_path p ≡ false
unfolding is_path
long_path p l = rw (lt-leb (length p) path_max l) refl

short_path : (p : List ℕ) → length p ≤ path_max → is_path p ≡ all is_label p
unfolding is_path
short_path p l = rw (le-leb (length p) path_max l) refl

module _ (s : List ℕ) (from to : ℕ) (within : to ≤ length s) where
  pub path_long : path_max < to - from → is_path (slice from to s) ≡ false
  path_long l = long_path (slice from to s) (omega (arith, length-slice from to s within))

  pub path_short : to - from ≤ path_max → is_path (slice from to s) ≡ all is_label (slice from to s)
  path_short l = short_path (slice from to s) (omega (arith, length-slice from to s within))

  -- n steps from the step i on, to the end
  labels_from : (n i : ℕ) → from + i + n ≡ to → list_all (λ k. is_label (step_in s from k)) (range_with_len i n) ≡ all is_label (slice (from + i) to s)
  unfolding all
  labels_from zero i e = let q : from + i ≡ to = omega arith in rw (q, slice_empty to s) refl
  labels_from (suc n) i e =
      let q : suc (from + i) ≡ from + (i + 1) = omega arith in
      ap (λ x. is_label (step_in s from i) && x) (labels_from n (i + 1) (omega arith))
      ∙ sym (ap (all is_label) (slice-cons (from + i) to s 0 (omega arith) within ∙ ap (λ k. get_or s (from + i) 0 ∷ slice k to s) q))

  -- so few steps, each of them a label: the code's test is that of a path
  pub path_labels : from ≤ to → to - from ≤ path_max → list_all (λ k. is_label (step_in s from k)) (range_with_len 0 (to - from)) ≡ is_path (slice from to s)
  path_labels o l = labels_from (to - from) 0 (omega arith) ∙ (rw (add-zero from) refl ∙ sym (path_short l))

-- ---- divisors
divisor_tests : (c : List ℕ) → some? (divisor_r (46, c)) ≡ eqb (length c) 2 && is_divisor (big_value c)
unfolding divisor_r tagged only
divisor_tests c = some_only (eqb (length c) 2) _ ∙ ap (λ x. eqb (length c) 2 && x) (some_if (is_divisor (big_value c)) (big_value c))

two_bytes_lem : (a b : ℕ) → big_value (a ∷ b ∷ []) ≡ a * 256 + b
unfolding big_value low_value
two_bytes_lem a b = omega arith

module _ (s : List ℕ) (from to : ℕ) (within : to ≤ length s) where
  pub divisor_size : (to - from ≡ 2 → ⊥) → some? (divisor_r (46, slice from to s)) ≡ false
  divisor_size n = divisor_tests (slice from to s) ∙ rw (ne_eqb (length (slice from to s)) 2 (λ e. n (sym (length-slice from to s within) ∙ e))) refl

  module _ (two : to - from ≡ 2) (n : ℕ) (q : n ≡ get_or s from 0 * 256 + get_or s (from + 1) 0) where
    content : slice from to s ≡ get_or s from 0 ∷ get_or s (from + 1) 0 ∷ []
    content =
        let e : suc (suc from) ≡ to = omega arith in
        slice-cons from to s 0 (omega arith) within
        ∙ ap (λ x. get_or s from 0 ∷ x) (slice-cons (suc from) to s 0 (omega arith) within ∙ rw (e, slice_empty to s, add-one) refl)

    pub divisor_is : some? (divisor_r (46, slice from to s)) ≡ is_divisor n
    divisor_is = divisor_tests (slice from to s) ∙ rw (content, two_bytes_lem, ← q) refl

-- ---- fields by their tag
module _ (d t : ℕ) (c : List ℕ) where
  pub field_array : t ≡ 1 → field_ok d (t, c) ≡ array_ok depth_max (t, c)
  unfolding field_ok array_ok array_r
  field_array e = rw e refl

  pub field_path : t ≡ 32 → field_ok d (t, c) ≡ is_path c
  unfolding field_ok path_r tagged only
  field_path e = rw e (some_if (is_path c) c)

  pub field_divisor : t ≡ 46 → field_ok d (t, c) ≡ some? (divisor_r (46, c))
  unfolding field_ok
  field_divisor e = rw e refl

-- ---- children, one after another
next_child : (g h : List Bytes.Field → Bool) (f : Bytes.Field) (o : Option (List Bytes.Field)) → ((fs : List Bytes.Field) → g (f ∷ fs) ≡ h fs)
    → maybe false g (map (λ fs. f ∷ fs) o) ≡ maybe false h o
unfolding maybe
next_child g h f none e = refl
next_child g h f (some fs) e = e fs

bad_child : (g : List Bytes.Field → Bool) (f : Bytes.Field) (o : Option (List Bytes.Field)) → ((fs : List Bytes.Field) → g (f ∷ fs) ≡ false)
    → maybe false g (map (λ fs. f ∷ fs) o) ≡ false
unfolding maybe
bad_child g f none e = refl
bad_child g f (some fs) e = e fs

and_good : (a b c : Bool) → a && b ≡ true → a && (b && c) ≡ c
and_good true b c e = rw e refl
and_good false b c e = let z : ◌≡◌ {A = ℕ} 0 1 = cc in absurd (omega arith)

and_bad : (a b c : Bool) → a && b ≡ false → a && (b && c) ≡ false
and_bad true b c e = rw e refl
and_bad false b c e = refl

module _ (s : List ℕ) (at end : ℕ) (within : end ≤ length s) (ok : Bytes.Field → Bool) (x : Rule) (n : ℕ) where
  module _ (t f e : ℕ) (h : head_at s at end ≡ Some (field_at t f e)) where
    children_next : ltb n x.most && child_ok ok (child_at x n) (t, slice f e s) ≡ true → content_ok ok x n (slice at end s) ≡ content_ok ok x (n + 1) (slice e end s)
    unfolding content_ok children_ok
    children_next k =
        ap (maybe false (children_ok ok x n)) (head_found s at end within t f e h).reads
        ∙ next_child (children_ok ok x n) (children_ok ok x (n + 1)) (t, slice f e s) (fields (slice e end s))
        (λ fs. and_good (ltb n x.most) _ _ k ∙ rw add-one refl)

    children_bad : ltb n x.most && child_ok ok (child_at x n) (t, slice f e s) ≡ false → content_ok ok x n (slice at end s) ≡ false
    unfolding content_ok children_ok
    children_bad k =
        ap (maybe false (children_ok ok x n)) (head_found s at end within t f e h).reads
        ∙ bad_child (children_ok ok x n) (t, slice f e s) (fields (slice e end s)) (λ fs. and_bad (ltb n x.most) _ _ k)

    children_step : content_ok ok x n (slice at end s) ≡ (ltb n x.most && child_ok ok (child_at x n) (t, slice f e s)) && content_ok ok x (n + 1) (slice e end s)
    children_step = go (ltb n x.most && child_ok ok (child_at x n) (t, slice f e s)) refl
      where
        go : (b : Bool) → ltb n x.most && child_ok ok (child_at x n) (t, slice f e s) ≡ b → content_ok ok x n (slice at end s) ≡ b && content_ok ok x (n + 1) (slice e end s)
        go true k = children_next k
        go false k = children_bad k

  pub children_nothing : at < end → head_at s at end ≡ None → content_ok ok x n (slice at end s) ≡ false
  unfolding content_ok maybe
  children_nothing l h = ap (maybe false (children_ok ok x n)) (fields_nothing s at end within l h)

  pub children_end : at ≤ end → end ≤ at → content_ok ok x n (slice at end s) ≡ leb x.least n
  unfolding content_ok children_ok maybe
  children_end a b = let q : at ≡ end = omega arith in rw q (ap (maybe false (children_ok ok x n)) (fields_end s end))

-- ---- one child
module _ (d n : ℕ) (x : Rule) (t : ℕ) (c : List ℕ) where
  child_over : x.most ≤ n → ltb n x.most && child_ok (field_ok d) (child_at x n) (t, c) ≡ false
  child_over l = rw (le-ltb n x.most l) refl

  module _ (count : n < x.most) (len : ℕ) (q : len ≡ length c) where
    child_passes : allowed (child_at x n) t len ≡ true → ltb n x.most && child_ok (field_ok d) (child_at x n) (t, c) ≡ field_ok d (t, c)
    unfolding child_ok
    child_passes k = rw (lt-ltb n x.most count, ← q, k) refl

    child_fails : allowed (child_at x n) t len ≡ false → ltb n x.most && child_ok (field_ok d) (child_at x n) (t, c) ≡ false
    unfolding child_ok
    child_fails k = rw (lt-ltb n x.most count, ← q, k) refl

-- ---- what is told of a field
module _ (t : ℕ) (c : List ℕ) where
  pub leaf_tells : (good : Bool) → ((d : ℕ) → good ≡ field_ok d (t, c)) → Tells t c (Some good)
  leaf_tells true q = λ d. sym (q d)
  leaf_tells false q = λ d. sym (q d)

  module _ {r : Maybe Bool} (h : Tells t c r) where
    told_good : r ≡ Some true → (d : ℕ) → field_ok d (t, c) ≡ true
    told_good e = subst (Tells t c) e h

    told_fields : r ≡ None → leaf t ≡ false
    told_fields e = subst (Tells t c) e h

    told_bad : r ≡ Some false → (d : ℕ) → field_ok d (t, c) ≡ false
    told_bad e = subst (Tells t c) e h

-- ---- the next child
module _ (x : Rule) (n : ℕ) (s : List ℕ) (rest : Span) (within : rest.to ≤ length s) where
  pub next_nothing : rest.from < rest.to → head_at s rest.from rest.to ≡ None → (d : ℕ) → rest_ok d x n s rest.from rest.to ≡ false
  next_nothing m h d = children_nothing s rest.from rest.to within (field_ok d) x n m h

  pub next_over : x.most ≤ n → rest.from < rest.to → (d : ℕ) → rest_ok d x n s rest.from rest.to ≡ false
  next_over l m d = go (head_at s rest.from rest.to) refl
    where
      go : (h : Head) → head_at s rest.from rest.to ≡ h → rest_ok d x n s rest.from rest.to ≡ false
      go (Some f) h = children_bad s rest.from rest.to within (field_ok d) x n f.tag f.content.from f.content.to h (child_over d n x f.tag (slice f.content.from f.content.to s) l)
      go None h = next_nothing m h d

  module _ (t f e : ℕ) (h : head_at s rest.from rest.to ≡ Some (field_at t f e)) (count : n < x.most) where
    size : e - f ≡ length (slice f e s)
    size = sym (length-slice f e s (omega (arith, (head_found s rest.from rest.to within t f e h).stop)))

    pub next_other : allowed (child_at x n) t (e - f) ≡ false → (d : ℕ) → rest_ok d x n s rest.from rest.to ≡ false
    next_other k d = children_bad s rest.from rest.to within (field_ok d) x n t f e h (child_fails d n x t (slice f e s) count (e - f) size k)

    module _ (may : allowed (child_at x n) t (e - f) ≡ true) where
      next_is : (d : ℕ) → rest_ok d x n s rest.from rest.to ≡ field_ok d (t, slice f e s) && rest_ok d x (n + 1) s e rest.to
      next_is d =
          children_step s rest.from rest.to within (field_ok d) x n t f e h
          ∙ ap (λ b. b && rest_ok d x (n + 1) s e rest.to) (child_passes d n x t (slice f e s) count (e - f) size may)

      next_then : (d : ℕ) {b : Bool} → field_ok d (t, slice f e s) ≡ b → rest_ok d x n s rest.from rest.to ≡ b && rest_ok d x (n + 1) s e rest.to
      next_then d q = next_is d ∙ ap (λ b. b && rest_ok d x (n + 1) s e rest.to) q

      module _ {r : Maybe Bool} (told : Tells t (slice f e s) r) where
        pub next_good : r ≡ Some true → Passed x n s rest e
        next_good q =
            let p = head_found s rest.from rest.to within t f e h in
            record { rises = omega (arith, p.start, p.order); within = p.stop; same = λ d. next_then d (told_good t (slice f e s) told q d) }

        pub next_fields : r ≡ None → Held x n s rest t (span f e)
        next_fields q =
            let p = head_found s rest.from rest.to within t f e h in
            record { holds = told_fields t (slice f e s) told q; after = omega (arith, p.start); order = p.order; within = p.stop; same = next_is }

        pub next_bad : r ≡ Some false → (d : ℕ) → rest_ok d x n s rest.from rest.to ≡ false
        next_bad q d = next_then d (told_bad t (slice f e s) told q d)

-- what the answer says
module _ (x : Rule) (n : ℕ) (s : List ℕ) (rest : Span) {r : Maybe Next} (h : NextIs x n s rest r) where
  pub is_behind : {e : ℕ} → r ≡ Some (Behind e) → Passed x n s rest e
  is_behind q = subst (NextIs x n s rest) q h

  pub is_inside : {f : FieldAt} → r ≡ Some (Inside f) → Held x n s rest f.tag f.content
  is_inside q = subst (NextIs x n s rest) q h

  pub is_bad : r ≡ None → (d : ℕ) → rest_ok d x n s rest.from rest.to ≡ false
  is_bad q = subst (NextIs x n s rest) q h

-- it decides, and then what is behind it
module _ {x : Rule} {n : ℕ} {s : List ℕ} {rest : Span} {t : ℕ} {c : Span} (h : Held x n s rest t c) (d : ℕ) where
  pub held_good : field_ok d (t, slice c.from c.to s) ≡ true → rest_ok d x n s rest.from rest.to ≡ rest_ok d x (n + 1) s c.to rest.to
  held_good q = h.same d ∙ ap (λ b. b && rest_ok d x (n + 1) s c.to rest.to) q

  pub held_bad : field_ok d (t, slice c.from c.to s) ≡ false → rest_ok d x n s rest.from rest.to ≡ false
  held_bad q = h.same d ∙ ap (λ b. b && rest_ok d x (n + 1) s c.to rest.to) q

-- ---- the query field
pub query_field : (d t : ℕ) (c : List ℕ) → t ≡ 16 → some? (query_r (t, c)) ≡ field_ok d (t, c)
unfolding field_ok
query_field d t c e = rw e refl

pub query_tag : (t : ℕ) (c : List ℕ) → (t ≡ 16 → ⊥) → some? (query_r (t, c)) ≡ false
unfolding query_r tagged only some?
query_tag t c n = rw (ne_eqb t 16 n) refl

-- ---- the public check
pub query_over : (b : List ℕ) → query_max < length b → check_of (read_query b) ≡ Err Overlong
unfolding read_query tested
query_over b l = rw (lt-leb (length b) query_max l) refl

module _ (b : List ℕ) (fits : length b ≤ query_max) where
  one_query : Option (List Stage)
  one_query = inside (one (λ q. q) query_r) (slice 0 (length b) b)

  checked : check_of (read_query b) ≡ check_of (well_formed one_query)
  unfolding read_query tested decode_query only one_query
  checked = rw (le-leb (length b) query_max fits, take-length b) refl

  module _ (t f e : ℕ) (h : span_at b 0 (length b) ≡ Some (field_at t f e)) where
    read : some? one_query ≡ some? (query_r (t, slice f e b))
    unfolding one_query
    read = inside_one b 0 (length b) (omega arith) (λ q. q) query_r t f e h

    pub query_accepted : some? (query_r (t, slice f e b)) ≡ true → check_of (read_query b) ≡ Ok tt
    query_accepted k = checked ∙ check_some one_query (read ∙ k)

    pub query_malformed : some? (query_r (t, slice f e b)) ≡ false → check_of (read_query b) ≡ Err Malformed
    query_malformed k = checked ∙ check_none one_query (read ∙ k)

  pub query_nothing : span_at b 0 (length b) ≡ None → check_of (read_query b) ≡ Err Malformed
  unfolding one_query some?
  query_nothing h = checked ∙ check_none one_query (ap some? (span_none b 0 (length b) (omega arith) (λ q. q) query_r (omega arith) h))
