-- The steps of the check, in the terms in which the code meets them, and what an accepted array is.
use Rattle.std.specs.Prelude.{◌≡◌, List, [], ◌∷◌, Bool, ◌&&◌, ℕ, zero, suc, ◌+◌, ◌-◌, ◌*◌, ◌≤◌, ◌<◌, leb, Some, None, Ok, Err}
use Rattle.std.proofs.Math.Path.{refl, sym, ap}
use Rattle.std.proofs.Common.{subst, ◌∙◌, sub-one, arith}
use Rattle.std.proofs.Math.Bool.{true, false}
use Rattle.std.proofs.Math.Option.{Option, none, some, map}
use Rattle.std.proofs.Math.ListN.{length, get_or}
use Rattle.std.proofs.Math.Seq.{slice, slice-cons, slice_empty, length-slice, take-length}
use Rattle.std.proofs.Math.Dec.{eqb, ltb}
use borrow.Author.Tests.{leb-true, leb-false, eqb-true, eqb-false, eq-eqb, ne_eqb, le-leb, lt-leb, lt-ltb, le-ltb}
use Rattle.spec_trees.specs.Options.{◌>>=◌, only, maybe, some?}
use Rattle.spec_trees.specs.Lists.{each}
use Rattle.spec_trees.specs.Limits.{array_max, tree_max, depth_max, label_max, text_max}
use Rattle.spec_trees.specs.Tree.{Tree, is_label}
use Rattle.spec_trees.specs.Readers.{Reader, inside, one, chosen, among, tagged, emptied, well_formed, tested}
use Rattle.spec_trees.specs.Decode.{bit, root_r, array_with, label_c, label_r, labels_with, tree_c, tree_r, array_r, decode_array, read_array}
use Rattle.spec_trees.specs.Bytes
use Rattle.spec_trees.specs.Readers
use Rattle.format.specs.declared.check.Fault.TheVariants.{Overlong, Malformed}
use Rattle.areas.specs.declared.span.Span.{Span}
use Rattle.areas.specs.Area.{span}
use Rattle.format.specs.declared.check.Place.{Place}
use Rattle.format.specs.declared.check.Step.{Step}
use Rattle.format.specs.declared.check.Step.TheVariants.{On, Labels, Done, Bad}
use Rattle.format.specs.Labels.{label_at}
use Rattle.format.specs.Head.{Head, field_at, low_two, head_at, span_at}
use Rattle.format.specs.Check.{root_ok, tree_ok, array_ok, label_ok, trees_ok, labels_ok, input_ok, check_of, place, rest_ok, Onward, Inward, Stepped, BareAt}
use Rattle.spec_trees.specs.Bytes.{label_tag, two_limit}
use Rattle.spec_trees.specs.OptionLaws.{only_some, map_some}
use Rattle.spec_trees.proofs.ReaderLaws.{tagged_some}
use Rattle.format.specs.HeadLaws.{some_map, head_found, head_short, head_field, span_nothing, inside_next, inside_bad, inside_nothing, inside_one, inside_end, inside_none, span_none}

-- ---- roots
empty_ok : {A : Type 0} (a : A) (c : List ℕ) → some? (emptied a c) ≡ eqb (length c) 0
unfolding emptied some?
empty_ok a [] = refl
empty_ok a (b ∷ c) = sym (ne_eqb (length (b ∷ c)) 0 (λ e. omega arith))

bit_ok : (c : List ℕ) → length c ≡ 1 → some? (bit c) ≡ ltb (get_or c 0 0) 2
unfolding bit some?
bit_ok [] e = absurd (omega arith)
bit_ok (zero ∷ []) e = refl
bit_ok (suc zero ∷ []) e = refl
bit_ok (suc (suc n) ∷ []) e = sym (le-ltb (suc (suc n)) 2 (omega arith))
bit_ok (b ∷ x ∷ c) e = absurd (omega arith)

bit_not : (c : List ℕ) → (length c ≡ 1 → ⊥) → some? (bit c) ≡ false
unfolding bit some?
bit_not [] n = refl
bit_not (zero ∷ []) n = absurd (n refl)
bit_not (suc zero ∷ []) n = absurd (n refl)
bit_not (suc (suc m) ∷ []) n = absurd (n refl)
bit_not (b ∷ x ∷ c) n = refl

not_leb : (a b : ℕ) → (a ≤ b → ⊥) → leb a b ≡ false
not_leb a b n = lt-leb a b (omega (arith, n))

only_ok : {A : Type 0} (b : Bool) (a : A) → some? (only b (some a)) ≡ b
unfolding only some?
only_ok true a = refl
only_ok false a = refl

module _ (s : List ℕ) (from to t : ℕ) (within : to ≤ length s) where
  span_length : length (slice from to s) ≡ to - from
  span_length = length-slice from to s within

  pub root_void : t ≡ 3 → root_ok (t, slice from to s) ≡ eqb (to - from) 0
  unfolding root_ok root_r among chosen
  root_void e = rw (e, ← span_length) (empty_ok _ (slice from to s))

  pub root_integer : t ≡ 5 → root_ok (t, slice from to s) ≡ eqb (to - from) 8
  unfolding root_ok root_r among chosen
  root_integer e = rw (e, ← span_length) (only_ok _ _)

  pub root_text : t ≡ 6 → root_ok (t, slice from to s) ≡ leb (to - from) text_max
  unfolding root_ok root_r among chosen
  root_text e = rw (e, ← span_length) (only_ok _ _)

  -- no tag of a root, or none with so many bytes
  pub root_bad : (t ≡ 3 → to - from ≡ 0 → ⊥) → (t ≡ 4 → to - from ≡ 1 → ⊥) → (t ≡ 5 → to - from ≡ 8 → ⊥) → (t ≡ 6 → to - from ≤ text_max → ⊥) → root_ok (t, slice from to s) ≡ false
  unfolding root_ok root_r among chosen some?
  root_bad v b i x = go (eqb t 3) (eqb t 4) (eqb t 5) (eqb t 6) refl refl refl refl
    where
      go : (k l m n : Bool) → eqb t 3 ≡ k → eqb t 4 ≡ l → eqb t 5 ≡ m → eqb t 6 ≡ n → root_ok (t, slice from to s) ≡ false
      go true l m n p q r u = root_void (eqb-true t 3 p) ∙ ne_eqb (to - from) 0 (v (eqb-true t 3 p))
      go false true m n p q r u = rw (p, q) (bit_not (slice from to s) (λ e. b (eqb-true t 4 q) (sym span_length ∙ e)))
      go false false true n p q r u = root_integer (eqb-true t 5 r) ∙ ne_eqb (to - from) 8 (i (eqb-true t 5 r))
      go false false false true p q r u = root_text (eqb-true t 6 u) ∙ not_leb (to - from) text_max (x (eqb-true t 6 u))
      go false false false false p q r u = rw (p, q, r, u) refl

  -- of eight bytes: an integer, or a text
  pub root_eight : to - from ≡ 8 → (t ≡ 5 → ⊥) → root_ok (t, slice from to s) ≡ eqb t 6
  root_eight e n = go (eqb t 6) refl
    where
      go : (x : Bool) → eqb t 6 ≡ x → root_ok (t, slice from to s) ≡ x
      go true q = root_text (eqb-true t 6 q) ∙ le-leb (to - from) text_max (omega arith)
      go false q = root_bad (λ a b. omega arith) (λ a b. omega arith) (λ a b. n a) (λ a b. eqb-false t 6 q a)

module _ (s : List ℕ) (from to : ℕ) (within : to ≤ length s) where
  pub root_bit : to - from ≡ 1 → root_ok (4, slice from to s) ≡ ltb (get_or s from 0) 2
  unfolding root_ok root_r among chosen
  root_bit e =
      let c : slice from to s ≡ get_or s from 0 ∷ slice (suc from) to s = slice-cons from to s 0 (omega arith) within in
      bit_ok (slice from to s) (length-slice from to s within ∙ e) ∙ ap (λ b. ltb (get_or b 0 0) 2) c

  pub root_not_bit : (to - from ≡ 1 → ⊥) → root_ok (4, slice from to s) ≡ false
  unfolding root_ok root_r among chosen
  root_not_bit n = bit_not (slice from to s) (λ e. n (sym (length-slice from to s within) ∙ e))

-- ---- what is read, and what then
bind_good : {A B : Type 0} (x : Option A) (g : A → Option B) (b : Bool) → some? x ≡ true → ((a : A) → some? (g a) ≡ b) → some? (x >>= g) ≡ b
unfolding some? ◌>>=◌
bind_good none g b h k = let z : ◌≡◌ {A = ℕ} 0 1 = cc in absurd (omega arith)
bind_good (some a) g b h k = k a

bind_bad : {A B : Type 0} (x : Option A) (g : A → Option B) → some? x ≡ false → some? (x >>= g) ≡ false
unfolding some? ◌>>=◌
bind_bad none g h = refl
bind_bad (some a) g h = let z : ◌≡◌ {A = ℕ} 0 1 = cc in absurd (omega arith)

-- ---- trees, one after another
module _ (s : List ℕ) (at end : ℕ) (within : end ≤ length s) (d : ℕ) where
  module _ (t f e : ℕ) (h : head_at s at end ≡ Some (field_at t f e)) where
    trees_next : tree_ok d (t, slice f e s) ≡ true → trees_ok d (slice at end s) ≡ trees_ok d (slice e end s)
    unfolding trees_ok tree_ok each
    trees_next k = inside_next s at end within t f e h (each (tree_r d)) (each (tree_r d)) (λ fs. bind_good (tree_r d (t, slice f e s)) _ _ k (λ a. some_map _ _))

    trees_bad : tree_ok d (t, slice f e s) ≡ false → trees_ok d (slice at end s) ≡ false
    unfolding trees_ok tree_ok each
    trees_bad k = inside_bad s at end within t f e h (each (tree_r d)) (λ fs. bind_bad (tree_r d (t, slice f e s)) _ k)

    pub trees_step : trees_ok d (slice at end s) ≡ tree_ok d (t, slice f e s) && trees_ok d (slice e end s)
    trees_step = go (tree_ok d (t, slice f e s)) refl
      where
        go : (b : Bool) → tree_ok d (t, slice f e s) ≡ b → trees_ok d (slice at end s) ≡ b && trees_ok d (slice e end s)
        go true q = trees_next q
        go false q = trees_bad q

  pub trees_nothing : at < end → head_at s at end ≡ None → trees_ok d (slice at end s) ≡ false
  unfolding trees_ok
  trees_nothing l h = inside_nothing s at end within (each (tree_r d)) l h

pub trees_end : (s : List ℕ) (at end d : ℕ) → at ≤ end → end ≤ at → trees_ok d (slice at end s) ≡ true
unfolding trees_ok each some?
trees_end s at end d a b = let q : at ≡ end = omega arith in rw q (inside_end (each (tree_r d)) s end)

-- ---- a tree
pub tree_deep : (d : ℕ) (f : Bytes.Field) → d ≡ 0 → tree_ok d f ≡ false
unfolding tree_ok tree_r some?
tree_deep d f e = rw e refl

pub tree_tag : (d t : ℕ) (c : List ℕ) → (t ≡ 2 → ⊥) → tree_ok d (t, c) ≡ false
unfolding tree_ok tree_r tagged only some?
tree_tag zero t c n = refl
tree_tag (suc d) t c n = rw (ne_eqb t 2 n) refl

large : (d t : ℕ) (c : List ℕ) → tree_max < 3 + length c → tree_ok d (t, c) ≡ false
unfolding tree_ok tree_r tagged only some?
large zero t c n = refl
large (suc d) t c n = rw (lt-leb (3 + length c) tree_max n) (go (eqb t 2))
  where
    go : (b : Bool) → some? {A = Tree} (only b none) ≡ false
    go true = refl
    go false = refl

small : (d t : ℕ) (c : List ℕ) → (d ≡ 0 → ⊥) → t ≡ 2 → 3 + length c ≤ tree_max → tree_ok d (t, c) ≡ some? (inside (tree_c (tree_r (d - 1))) c)
unfolding tree_ok tree_r tagged only
small zero t c z e l = absurd (z refl)
small (suc d) t c z e l = rw (eq-eqb t 2 e, le-leb (3 + length c) tree_max l, sub-one (suc d)) refl

module _ (s : List ℕ) (from to d t : ℕ) (within : to ≤ length s) where
  pub tree_large : tree_max - 3 < to - from → tree_ok d (t, slice from to s) ≡ false
  tree_large n = large d t (slice from to s) (omega (arith, length-slice from to s within))

  module _ (deep : d ≡ 0 → ⊥) (tag : t ≡ 2) (order : from ≤ to) (fits : to - from ≤ tree_max - 3) where
    content : tree_ok d (t, slice from to s) ≡ some? (inside (tree_c (tree_r (d - 1))) (slice from to s))
    content = small d t (slice from to s) deep tag (omega (arith, length-slice from to s within))

    module _ (u f e : ℕ) (h : head_at s from to ≡ Some (field_at u f e)) where
      pub tree_labels : root_ok (u, slice f e s) ≡ true → tree_ok d (t, slice from to s) ≡ labels_ok (d - 1) 0 (slice e to s)
      unfolding root_ok labels_ok tree_c
      tree_labels k =
          content ∙ inside_next s from to within u f e h (tree_c (tree_r (d - 1))) (labels_with (tree_r (d - 1)) 0)
          (λ fs. bind_good (root_r (u, slice f e s)) _ _ k (λ a. some_map _ _))

      pub tree_root : root_ok (u, slice f e s) ≡ false → tree_ok d (t, slice from to s) ≡ false
      unfolding root_ok tree_c
      tree_root k = content ∙ inside_bad s from to within u f e h (tree_c (tree_r (d - 1))) (λ fs. bind_bad (root_r (u, slice f e s)) _ k)

    -- no root
    pub tree_nothing : head_at s from to ≡ None → tree_ok d (t, slice from to s) ≡ false
    unfolding tree_c some?
    tree_nothing h = content ∙ inside_none (tree_c (tree_r (d - 1))) s from to within order refl h

-- ---- a label
-- one array field that spans the bytes
unfoldable span_ok : ℕ → List ℕ → Bool
span_ok d b = some? (inside (one (λ a. a) (array_with (tree_r d))) b)

and_false : (b : Bool) → b && false ≡ false
and_false true = refl
and_false false = refl

and_true : (b : Bool) → b && true ≡ b
and_true true = refl
and_true false = refl

-- the label is known before its array is read
module _ (r : Reader (List Tree)) (j k : ℕ) where
  above : ℕ × List Tree → Bool
  above l = ltb k l.0

  gate_map : (x : Option (List Tree)) → maybe false above (map (λ a. (j, a)) x) ≡ ltb k j && some? (map (λ a. a) x)
  unfolding maybe some? above
  gate_map none = sym (and_false (ltb k j))
  gate_map (some a) = sym (and_true (ltb k j))

  gate : (o : Option (List Bytes.Field)) → maybe false above (o >>= one (λ a. (j, a)) r) ≡ ltb k j && some? (o >>= one (λ a. a) r)
  unfolding maybe some? ◌>>=◌ one
  gate none = sym (and_false (ltb k j))
  gate (some []) = sym (and_false (ltb k j))
  gate (some (f ∷ [])) = gate_map (r f)
  gate (some (f ∷ f' ∷ fs)) = sym (and_false (ltb k j))

maybe_only : {A : Type 0} (g : A → Bool) (b : Bool) (x : Option A) → maybe false g (only b x) ≡ b && maybe false g x
unfolding maybe only
maybe_only g true x = refl
maybe_only g false x = refl

-- the three tests
label_tests : (d k j : ℕ) (b : List ℕ) → label_ok d k (label_tag, j ∷ b) ≡ is_label j && (ltb k j && span_ok d b)
unfolding label_ok label_r label_c tagged only span_ok inside above
label_tests d k j b = maybe_only _ (is_label j) _ ∙ ap (λ x. is_label j && x) (gate (array_with (tree_r d)) j k (Readers.fields b))

pub label_tag_lem : (d k t : ℕ) (c : List ℕ) → (t ≡ label_tag → ⊥) → label_ok d k (t, c) ≡ false
unfolding label_ok label_r tagged only maybe
label_tag_lem d k t c n = rw (ne_eqb t label_tag n) refl

label_no_content : (d k t : ℕ) (b : Bool) → eqb t label_tag ≡ b → label_ok d k (t, []) ≡ false
unfolding label_ok label_r label_c tagged only maybe
label_no_content d k t true e = rw e refl
label_no_content d k t false e = rw e refl

module _ (s : List ℕ) (at to d k t : ℕ) (within : to ≤ length s) where
  label_empty : at + 3 ≤ to → to - at < 4 → label_ok d k (t, slice (at + 3) to s) ≡ false
  label_empty a b =
      let e : at + 3 ≡ to = omega arith in
      rw (e, slice_empty to s) (label_no_content d k t (eqb t label_tag) refl)

  module _ (tag : t ≡ label_tag) (four : 4 ≤ to - at) (j : ℕ) (q : j ≡ label_at s at) where
    label_is : label_ok d k (t, slice (at + 3) to s) ≡ is_label j && (ltb k j && span_ok d (slice (at + 4) to s))
    label_is =
        let c : slice (at + 3) to s ≡ get_or s (at + 3) 0 ∷ slice (suc (at + 3)) to s = slice-cons (at + 3) to s 0 (omega arith) within in
        let n : suc (at + 3) ≡ at + 4 = omega arith in
        rw (tag, c, n, q) (label_tests d k (get_or s (at + 3) 0) (slice (at + 4) to s))

    pub label_low : j ≤ k → label_ok d k (t, slice (at + 3) to s) ≡ false
    label_low l = label_is ∙ rw (le-ltb k j l) (and_false (is_label j))

    pub label_high : label_max < j → label_ok d k (t, slice (at + 3) to s) ≡ false
    unfolding is_label
    label_high l = label_is ∙ rw (lt-leb j label_max l, and_false (leb 1 j)) refl

    pub label_nothing : span_at s (at + 4) to ≡ None → label_ok d k (t, slice (at + 3) to s) ≡ false
    unfolding span_ok some?
    label_nothing h =
        let n : span_ok d (slice (at + 4) to s) ≡ false = ap some? (span_none s (at + 4) to within (λ a. a) (array_with (tree_r d)) (omega arith) h) in
        label_is ∙ rw (n, and_false (ltb k j)) (and_false (is_label j))

    module _ (low : k < j) (high : j ≤ label_max) where
      spans : label_ok d k (t, slice (at + 3) to s) ≡ span_ok d (slice (at + 4) to s)
      unfolding is_label
      spans = label_is ∙ rw (le-leb 1 j (omega arith), le-leb j label_max high, lt-ltb k j low) refl

      pub label_array : (u f e : ℕ) → span_at s (at + 4) to ≡ Some (field_at u f e) → label_ok d k (t, slice (at + 3) to s) ≡ array_ok d (u, slice f e s)
      unfolding span_ok array_ok
      label_array u f e h = spans ∙ inside_one s (at + 4) to within (λ a. a) (array_with (tree_r d)) u f e h

  -- too short for the heads of its array
  pub label_short : t ≡ label_tag → at + 3 ≤ to → to - at < 7 → label_ok d k (t, slice (at + 3) to s) ≡ false
  label_short tag a b = go (leb 4 (to - at)) refl
    where
      go : (x : Bool) → leb 4 (to - at) ≡ x → label_ok d k (t, slice (at + 3) to s) ≡ false
      go true q =
          let four : 4 ≤ to - at = leb-true 4 (to - at) q in
          label_nothing tag four (label_at s at) refl (span_nothing s (at + 4) to (head_short s (at + 4) to within (omega arith)))
      go false q = label_empty a (leb-false 4 (to - at) q)

-- ---- labels, one after another
-- a label field that is read has its label first
name_one : {A : Type 0} (r : Reader A) (j : ℕ) (o : Option (List Bytes.Field)) (l : ℕ × A) → (o >>= one (λ a. (j, a)) r) ≡ some l → l.0 ≡ j
unfolding ◌>>=◌ one
name_one r j none l h = let z : ◌≡◌ {A = ℕ} 0 1 = cc in absurd (omega arith)
name_one r j (some []) l h = let z : ◌≡◌ {A = ℕ} 0 1 = cc in absurd (omega arith)
name_one {A = A} r j (some (f ∷ [])) l h = let m = map_some (λ (a : A). (j, a)) (r f) h in ap (λ (x : ℕ × A). x.0) (sym m.2)
name_one r j (some (f ∷ f' ∷ fs)) l h = let z : ◌≡◌ {A = ℕ} 0 1 = cc in absurd (omega arith)

name_content : (r : Reader Tree) (c : List ℕ) (l : ℕ × List Tree) → label_c r c ≡ some l → (l.0 ≡ get_or c 0 0) × (0 < length c)
unfolding label_c inside
name_content r [] l h = let z : ◌≡◌ {A = ℕ} 0 1 = cc in absurd (omega arith)
name_content r (j ∷ b) l h = (name_one (array_with r) j (Readers.fields b) l (only_some (is_label j) _ h).1, omega arith)

-- and what follows it is above
record Label (d k t : ℕ) (c : List ℕ) : Type 0 where
  l : ℕ × List Tree
  reads : label_r (tree_r d) (t, c) ≡ some l
  name : l.0 ≡ get_or c 0 0
  rises : ltb k l.0 ≡ true
  room : 0 < length c

label_read : (d k t : ℕ) (c : List ℕ) → label_ok d k (t, c) ≡ true → Label d k t c
unfolding label_ok label_r maybe
label_read d k t c h = go (label_r (tree_r d) (t, c)) refl h
  where
    go : (x : Option (ℕ × List Tree)) → label_r (tree_r d) (t, c) ≡ x → maybe false (λ l. ltb k l.0) x ≡ true → Label d k t c
    go none e h = let z : ◌≡◌ {A = ℕ} 0 1 = cc in absurd (omega arith)
    go (some l) e h =
        let u = name_content (tree_r d) c l (tagged_some label_tag (label_c (tree_r d)) (t, c) l e).1 in
        record { l = l; reads = e; name = u.0; rises = h; room = u.1 }

labels_on : (d k : ℕ) (f : Bytes.Field) (fs : List Bytes.Field) (x : Option (ℕ × List Tree)) → label_r (tree_r d) f ≡ x → maybe false (λ l. ltb k l.0) x ≡ false
    → some? (labels_with (tree_r d) k (f ∷ fs)) ≡ false
unfolding labels_with maybe ◌>>=◌ only some?
labels_on d k f fs none e h = rw e refl
labels_on d k f fs (some l) e h = rw (e, h) refl

module _ (s : List ℕ) (at end : ℕ) (within : end ≤ length s) (d k : ℕ) where
  module _ (t f e : ℕ) (h : head_at s at end ≡ Some (field_at t f e)) where
    placed : label_ok d k (t, slice f e s) ≡ label_ok d k (t, slice (at + 3) e s)
    placed = ap (λ i. label_ok d k (t, slice i e s)) (head_found s at end within t f e h).start

    labels_next : (j : ℕ) → j ≡ label_at s at → label_ok d k (t, slice (at + 3) e s) ≡ true → labels_ok d k (slice at end s) ≡ labels_ok d j (slice e end s)
    unfolding labels_ok labels_with ◌>>=◌ only
    labels_next j i q =
        let u = label_read d k t (slice f e s) (placed ∙ q) in
        let p = head_found s at end within t f e h in
        let n : length (slice f e s) ≡ e - f = length-slice f e s (omega (arith, p.stop)) in
        let c : slice f e s ≡ get_or s f 0 ∷ slice (suc f) e s = slice-cons f e s 0 (omega (arith, u.room)) (omega (arith, p.stop)) in
        let y : u.l.0 ≡ j = u.name ∙ (ap (λ b. get_or b 0 0) c ∙ (ap (λ i. get_or s i 0) p.start ∙ sym i)) in
        inside_next s at end within t f e h (labels_with (tree_r d) k) (labels_with (tree_r d) j)
        (λ fs. rw (u.reads, u.rises, y) (some_map _ _))

    labels_bad : label_ok d k (t, slice (at + 3) e s) ≡ false → labels_ok d k (slice at end s) ≡ false
    unfolding labels_ok label_ok
    labels_bad q = inside_bad s at end within t f e h (labels_with (tree_r d) k) (λ fs. labels_on d k (t, slice f e s) fs _ refl (placed ∙ q))

    pub labels_step : (j : ℕ) → j ≡ label_at s at → labels_ok d k (slice at end s) ≡ label_ok d k (t, slice (at + 3) e s) && labels_ok d j (slice e end s)
    labels_step j i = go (label_ok d k (t, slice (at + 3) e s)) refl
      where
        go : (b : Bool) → label_ok d k (t, slice (at + 3) e s) ≡ b → labels_ok d k (slice at end s) ≡ b && labels_ok d j (slice e end s)
        go true q = labels_next j i q
        go false q = labels_bad q

  pub labels_nothing : at < end → head_at s at end ≡ None → labels_ok d k (slice at end s) ≡ false
  unfolding labels_ok
  labels_nothing l h = inside_nothing s at end within (labels_with (tree_r d) k) l h

pub labels_end : (s : List ℕ) (at end d k : ℕ) → at ≤ end → end ≤ at → labels_ok d k (slice at end s) ≡ true
unfolding labels_ok labels_with some?
labels_end s at end d k a b = let q : at ≡ end = omega arith in rw q (inside_end (labels_with (tree_r d) k) s end)

-- ---- an array field
pub array_tag : (d t : ℕ) (c : List ℕ) → (t ≡ 1 → ⊥) → array_ok d (t, c) ≡ false
unfolding array_ok array_with tagged only some?
array_tag d t c n = rw (ne_eqb t 1 n) refl

pub array_trees_lem : (d t : ℕ) (c : List ℕ) → t ≡ 1 → array_ok d (t, c) ≡ trees_ok d c
unfolding array_ok trees_ok array_with tagged only
array_trees_lem d t c e = rw (eq-eqb t 1 e) refl

-- ---- the walk
and_assoc : (a b c : Bool) → (a && b) && c ≡ a && (b && c)
and_assoc true b c = refl
and_assoc false b c = refl

-- no trees before the labels
pub rest_labels : (d : ℕ) (s : List ℕ) (p : Place) (end : ℕ) → p.at ≡ p.stop → rest_ok d s p end ≡ labels_ok d p.last (slice p.stop end s)
unfolding rest_ok
rest_labels d s p end q = ap (λ b. b && labels_ok d p.last (slice p.stop end s)) (trees_end s p.at p.stop d (omega arith) (omega arith))

-- no labels behind the trees
pub rest_trees : (d : ℕ) (s : List ℕ) (p : Place) → rest_ok d s p p.stop ≡ trees_ok d (slice p.at p.stop s)
unfolding rest_ok
rest_trees d s p =
    ap (λ b. trees_ok d (slice p.at p.stop s) && b) (labels_end s p.stop p.stop d p.last (omega arith) (omega arith)) ∙ and_true _

-- a tree
module _ (s : List ℕ) (p : Place) (within : p.stop ≤ length s) (d end : ℕ) (behind : p.stop ≤ end) where
  no_trees : trees_ok d (slice p.at p.stop s) ≡ false → rest_ok d s p end ≡ false
  unfolding rest_ok
  no_trees q = ap (λ b. b && labels_ok d p.last (slice p.stop end s)) q

  pub rest_deep : d ≡ 0 → p.at < p.stop → rest_ok d s p end ≡ false
  rest_deep q l = go (head_at s p.at p.stop) refl
    where
      go : (h : Head) → head_at s p.at p.stop ≡ h → rest_ok d s p end ≡ false
      go (Some f) h = no_trees (trees_bad s p.at p.stop within d f.tag f.content.from f.content.to h (tree_deep d (f.tag, slice f.content.from f.content.to s) q))
      go None h = no_trees (trees_nothing s p.at p.stop within d l h)

  pub rest_nothing : p.at < p.stop → head_at s p.at p.stop ≡ None → rest_ok d s p end ≡ false
  rest_nothing l h = no_trees (trees_nothing s p.at p.stop within d l h)

  module _ (t f e : ℕ) (h : head_at s p.at p.stop ≡ Some (field_at t f e)) where
    pub rest_bad : tree_ok d (t, slice f e s) ≡ false → rest_ok d s p end ≡ false
    rest_bad q = no_trees (trees_bad s p.at p.stop within d t f e h q)

    module _ (deep : 0 < d) (tag : t ≡ 2) (fits : e - f ≤ tree_max - 3) (u g l : ℕ) (r : head_at s f e ≡ Some (field_at u g l)) (good : root_ok (u, slice g l s) ≡ true) where
      rest_tree : rest_ok d s p end ≡ labels_ok (d - 1) 0 (slice l e s) && rest_ok d s (place e p.stop p.last) end
      unfolding rest_ok
      rest_tree =
          let x = head_found s p.at p.stop within t f e h in
          let y : tree_ok d (t, slice f e s) ≡ labels_ok (d - 1) 0 (slice l e s) = tree_labels s f e d t (omega (arith, x.stop)) (λ z. omega arith) tag x.order fits u g l r good in
          let z : trees_ok d (slice p.at p.stop s) ≡ labels_ok (d - 1) 0 (slice l e s) && trees_ok d (slice e p.stop s) =
          trees_step s p.at p.stop within d t f e h ∙ ap (λ b. b && trees_ok d (slice e p.stop s)) y in
          ap (λ b. b && labels_ok d p.last (slice p.stop end s)) z ∙ and_assoc (labels_ok (d - 1) 0 (slice l e s)) (trees_ok d (slice e p.stop s)) (labels_ok d p.last (slice p.stop end s))

      pub rest_inward : Inward d s p end (span l e)
      rest_inward =
          let x = head_found s p.at p.stop within t f e h in
          let y = head_found s f e (omega (arith, x.stop)) u g l r in
          record {
            deep = deep;
            rises = omega (arith, x.start, x.order);
            order = y.stop;
            within = x.stop;
            same = rest_tree ∙ ap (λ b. b && rest_ok d s (place e p.stop p.last) end) (sym (rest_labels (d - 1) s (place l l 0) e refl));
          }

      pub rest_on : l ≡ e → Onward d s p end (place e p.stop p.last)
      rest_on q =
          let x = head_found s p.at p.stop within t f e h in
          record {
            rises = omega (arith, x.start, x.order);
            order = x.stop;
            within = behind;
            same = rest_tree ∙ ap (λ b. b && rest_ok d s (place e p.stop p.last) end) (labels_end s l e (d - 1) 0 (omega arith) (omega arith));
          }

  -- one without labels, known by its heads
  pub rest_bare : (tag len : ℕ) → 0 < d → BareAt s p.at p.stop tag len → root_ok (tag, slice (p.at + 6) (p.at + (6 + len)) s) ≡ true
      → Onward d s p end (place (p.at + (6 + len)) p.stop p.last)
  rest_bare tag len deep b good = rest_on 2 _ _ b.tree deep refl (omega (arith, b.small)) tag _ _ b.root good refl

-- a label, or the end
module _ (s : List ℕ) (p : Place) (d end : ℕ) (here : p.at ≡ p.stop) (behind : p.stop ≤ end) (within : end ≤ length s) where
  pub rest_done : p.stop ≡ end → rest_ok d s p end ≡ true
  rest_done q = rest_labels d s p end here ∙ labels_end s p.stop end d p.last (omega arith) (omega arith)

  pub rest_no_label : (p.stop ≡ end → ⊥) → head_at s p.stop end ≡ None → rest_ok d s p end ≡ false
  rest_no_label n h = rest_labels d s p end here ∙ labels_nothing s p.stop end within d p.last (omega (arith, n)) h

  module _ (t f e : ℕ) (h : head_at s p.stop end ≡ Some (field_at t f e)) where
    pub rest_bad_label : label_ok d p.last (t, slice (p.stop + 3) e s) ≡ false → rest_ok d s p end ≡ false
    rest_bad_label q = rest_labels d s p end here ∙ labels_bad s p.stop end within d p.last t f e h q

    pub rest_label : (j g : ℕ) → j ≡ label_at s p.stop → label_ok d p.last (t, slice (p.stop + 3) e s) ≡ trees_ok d (slice g e s) → p.stop < g → g ≤ e
        → Onward d s p end (place g e j)
    unfolding rest_ok
    rest_label j g i q rises order =
        let x = head_found s p.stop end within t f e h in
        let y = labels_step s p.stop end within d p.last t f e h j i in
        record {
          rises = omega arith;
          order = order;
          within = x.stop;
          same = rest_labels d s p end here ∙ y ∙ ap (λ b. b && labels_ok d j (slice e end s)) q;
        }

-- what an answer says
module _ (d : ℕ) (s : List ℕ) (p : Place) (end : ℕ) {r : Step} (h : Stepped d s p end r) where
  pub step_on : {q : Place} → r ≡ On q → Onward d s p end q
  step_on e = subst (Stepped d s p end) e h

  pub step_inward : {l : Span} → r ≡ Labels l → Inward d s p end l
  step_inward e = subst (Stepped d s p end) e h

  pub step_done : r ≡ Done → rest_ok d s p end ≡ true
  step_done e = subst (Stepped d s p end) e h

  pub step_bad : r ≡ Bad → rest_ok d s p end ≡ false
  step_bad e = subst (Stepped d s p end) e h

-- the labels of a tree decide, and then what is behind it
module _ {d : ℕ} {s : List ℕ} {p : Place} {end : ℕ} {l : Span} (h : Inward d s p end l) where
  pub inward_good : rest_ok (d - 1) s (place l.from l.from 0) l.to ≡ true → rest_ok d s p end ≡ rest_ok d s (place l.to p.stop p.last) end
  inward_good q = h.same ∙ ap (λ b. b && rest_ok d s (place l.to p.stop p.last) end) q

  pub inward_bad : rest_ok (d - 1) s (place l.from l.from 0) l.to ≡ false → rest_ok d s p end ≡ false
  inward_bad q = h.same ∙ ap (λ b. b && rest_ok d s (place l.to p.stop p.last) end) q

-- ---- heads compared several bytes at once
digit : (a b x y : ℕ) → a < 256 → x < 256 → a + b * 256 ≡ x + y * 256 → (a ≡ x) × (b ≡ y)
digit a b x y k l h = (omega arith, omega arith)

module _ (s : List ℕ) (at stop tag len : ℕ) (within : stop ≤ length s) (order : at ≤ stop) (small : len < 253) (byte : (i : ℕ) → get_or s i 0 < 256)
    (room : 6 + len ≤ stop - at) (four : low_two s at + low_two s (at + 2) * two_limit ≡ 2 + (3 + len) * 65536 + tag * 16777216) (two : low_two s (at + 4) ≡ len * 256) where
  pub bare_at : BareAt s at stop tag len
  bare_at =
      let (a, x) = digit (get_or s at 0) (get_or s (at + 1) 0 + low_two s (at + 2) * 256) 2 ((3 + len + tag * 256) * 256) (byte at) (omega arith) (omega (arith, four)) in
      let (b, y) = digit (get_or s (at + 1) 0) (low_two s (at + 2)) 0 (3 + len + tag * 256) (byte (at + 1)) (omega arith) (omega (arith, x)) in
      let (c, t) = digit (get_or s (at + 2) 0) (get_or s (at + 2 + 1) 0) (3 + len) tag (byte (at + 2)) (omega arith) y in
      let (e, l) = digit (get_or s (at + 4) 0) (get_or s (at + 4 + 1) 0) 0 len (byte (at + 4)) (omega arith) (omega (arith, two)) in
      let t' : get_or s (at + 3) 0 ≡ tag = ap (λ i. get_or s i 0) (omega arith) ∙ t in
      let e' : get_or s (at + 3 + 1) 0 ≡ 0 = ap (λ i. get_or s i 0) (omega arith) ∙ e in
      let l' : get_or s (at + 3 + 2) 0 ≡ len = ap (λ i. get_or s i 0) (omega arith) ∙ l in
      let n : at + 3 + (3 + len) ≡ at + (6 + len) = omega arith in
      let m : at + 3 + 3 + len ≡ at + (6 + len) = omega arith in
      let o : at + 3 + 3 ≡ at + 6 = omega arith in
      record {
        small = small;
        ends = omega arith;
        tree = head_field s at stop within (3 + len) (omega arith) (omega (arith, b, c)) (omega arith) ∙ rw (a, n) refl;
        root = head_field s (at + 3) (at + (6 + len)) (omega arith) len (omega arith) (omega (arith, e', l')) (omega arith) ∙ rw (t', m, o) refl;
      }

-- ---- the public check
whole : (b : List ℕ) → slice 0 (length b) b ≡ b
whole b = take-length b

pub array_over : (b : List ℕ) → array_max < length b → check_of (read_array b) ≡ Err Overlong
unfolding read_array tested
array_over b l = rw (lt-leb (length b) array_max l) refl

pub check_some : {A : Type 0} (x : Option A) → some? x ≡ true → check_of (well_formed x) ≡ Ok tt
unfolding some? well_formed
check_some none h = let z : ◌≡◌ {A = ℕ} 0 1 = cc in absurd (omega arith)
check_some (some ts) h = refl

pub check_none : {A : Type 0} (x : Option A) → some? x ≡ false → check_of (well_formed x) ≡ Err Malformed
unfolding some? well_formed
check_none none h = refl
check_none (some ts) h = let z : ◌≡◌ {A = ℕ} 0 1 = cc in absurd (omega arith)

module _ (b : List ℕ) (fits : length b ≤ array_max) where
  checked : check_of (read_array b) ≡ check_of (well_formed (inside (one (λ a. a) array_r) b))
  unfolding read_array tested decode_array only
  checked = rw (le-leb (length b) array_max fits) refl

  pub array_accepted : input_ok b ≡ true → check_of (read_array b) ≡ Ok tt
  unfolding input_ok
  array_accepted k = checked ∙ check_some _ k

  pub array_malformed : input_ok b ≡ false → check_of (read_array b) ≡ Err Malformed
  unfolding input_ok
  array_malformed k = checked ∙ check_none _ k

-- the one field
module _ (b : List ℕ) where
  input_whole : input_ok b ≡ some? (inside (one (λ a. a) array_r) (slice 0 (length b) b))
  unfolding input_ok
  input_whole = ap (λ x. some? (inside (one (λ a. a) array_r) x)) (sym (whole b))

  pub input_field : (t f e : ℕ) → span_at b 0 (length b) ≡ Some (field_at t f e) → input_ok b ≡ array_ok depth_max (t, slice f e b)
  unfolding array_ok array_r
  input_field t f e h = input_whole ∙ inside_one b 0 (length b) (omega arith) (λ a. a) array_r t f e h

  pub input_nothing : span_at b 0 (length b) ≡ None → input_ok b ≡ false
  unfolding some?
  input_nothing h = input_whole ∙ ap some? (span_none b 0 (length b) (omega arith) (λ a. a) array_r (omega arith) h)
