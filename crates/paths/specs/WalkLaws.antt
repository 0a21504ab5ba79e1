-- Laws of a path's application where the tree stands: step by step, and tree by tree.
use Rattle.std.specs.Prelude.{◌≡◌, List, [], ◌∷◌, ◌++◌, map, Bool, true, false, ℕ, suc, ◌+◌, ◌≤◌, ◌<◌, length, drop, Some, None}
use Rattle.std.proofs.Math.Path.{refl, sym, ap, subst}
use Rattle.std.proofs.Common.{◌∙◌, append-nil, add-one, arith, drop_of_length-le, drop-cons}
use Rattle.std.proofs.Math.Option.{none, some}
use Rattle.spec_trees.specs.Options.{◌>>=◌}
use Rattle.spec_trees.specs.Tree.{Tree, list, labels}
use Rattle.spec_trees.specs.Bytes.{tree_bytes}
use Rattle.areas.specs.Area.{Is, field_end, IsAt, span}
use Rattle.areas.specs.declared.span.Span.{Span}
use Rattle.format.specs.Stand.{trees_bytes, FoundIs, Finds}
use Rattle.format.specs.StandLaws.{tree_parts, trees_parts, trees_none, trees_places, holds_first, holds_rest}
use Rattle.spec_queries.specs.Query.{Route}
use Rattle.queries.specs.Places.{route_bytes}
use Rattle.queries.specs.Steps.{step_count, step_at, StepInside}
use Rattle.queries.specs.StepLaws.{steps_are, step_is, step_inside, path_room}
use Rattle.spec_stages.specs.Paths.{Given, present, join, joins, over, reached, apply}
use Rattle.paths.specs.Walk.{given, Walk, Tells, TellsOver, TellsJoined, Under}
use Rattle.format.specs.Labels.{Found}

-- ---- what an application gives, joined
pub given_join : (x y : Given) → given (join x y) ≡ given x ++ given y
unfolding given join
given_join none y = refl
given_join (some a) none = sym (append-nil a)
given_join (some a) (some b) = refl

pub given_over : (f : Tree → Given) (ts : List Tree) → given (over f ts) ≡ given (joins (map f ts))
unfolding given over joins
given_over f [] = refl
given_over f (t ∷ ts) = refl

pub present_join : (x y : Given) → present x ≡ true → present (join x y) ≡ true
unfolding present join
present_join none y q = let z : ◌≡◌ {A = ℕ} 0 1 = cc in absurd (omega arith)
present_join (some a) none q = refl
present_join (some a) (some b) q = refl

pub absent_join : (x y : Given) → present x ≡ false → join x y ≡ y
unfolding present join
absent_join none y q = refl
absent_join (some a) y q = let z : ◌≡◌ {A = ℕ} 0 1 = cc in absurd (omega arith)

-- ---- what a step reaches: its label, looked for in the tree
pub under_found : (q : List ℕ) (p : Span) (i : ℕ) (s : List ℕ) (a b : ℕ) {l k : ℕ} (r : Found) → l ≡ field_end s (a + 3) → k ≡ step_at q p i
    → Finds s (span l b) k r → Under q p i s (span a b) r
unfolding reached
under_found q p i s a b r g z f t h =
    let d = tree_parts t g h in
    let w = f (labels t) d.labels_is in
    subst (λ n. FoundIs s (span a b) (reached n t) r) z record {
      part = λ x e. let c = w.part x e in
          record { array = c.array; same = c.same; array_is = c.array_is; after = omega (arith, c.heads, d.after); within = c.within };
      missing = w.missing;
    }

-- ---- a tree: the end of the path, or one step
pub step_apply : (q : List ℕ) (p : Span) (i : ℕ) → i < step_count q p → (path : Route) (t : Tree) → IsAt q p (route_bytes path)
    → apply (drop i path) t ≡ (reached (step_at q p i) t >>= over (apply (drop (i + 1) path)))
unfolding apply
step_apply q p i n path t g =
    let b : i < length path = omega (arith, steps_are path g) in
    ap (λ l. apply l t) (drop-cons path i 0 b)
    ∙ ap (λ k. reached k t >>= over (apply (drop (suc i) path))) (sym (step_is path g i b))
    ∙ ap (λ m. reached (step_at q p i) t >>= over (apply (drop m path))) (sym (add-one i))

module _ (q : List ℕ) (p : Span) (i : ℕ) (s : List ℕ) (a b : ℕ) (P : Given → Type 0) where
  pub tells_end : i ≡ step_count q p → ((t : Tree) → Is s a b (tree_bytes t) → P (some (t ∷ []))) → Tells q p i s (span a b) P
  unfolding apply
  tells_end z k path t g h =
      subst (λ l. P (apply l t)) (sym (drop_of_length-le path {i = i} (omega (arith, steps_are path g)))) (k t h)

  module _ (n : i < step_count q p) {r : Found} (u : Under q p i s (span a b) r) where
    pub tells_missing : r ≡ None → P none → Tells q p i s (span a b) P
    unfolding ◌>>=◌
    tells_missing z k path t g h =
        subst P (sym (step_apply q p i n path t g ∙ ap (λ x. x >>= over (apply (drop (i + 1) path))) ((u t h).missing z))) k

    pub tells_part : {x y : ℕ} → r ≡ Some (span x y) → TellsOver q p (i + 1) s (span x y) P → Tells q p i s (span a b) P
    unfolding ◌>>=◌
    tells_part {x} {y} z k path t g h =
        let c = (u t h).part (span x y) z in
        subst P (sym (step_apply q p i n path t g ∙ ap (λ o. o >>= over (apply (drop (i + 1) path))) c.same)) (k path c.array g c.array_is)

-- ---- an array: none, or tree by tree
module _ (q : List ℕ) (p : Span) (i : ℕ) (s : List ℕ) (a b : ℕ) where
  pub over_none : (P : Given → Type 0) → a ≡ b → P (some []) → TellsOver q p i s (span a b) P
  unfolding over
  over_none P z k path ts g h = subst (λ x. P (over (apply (drop i path)) (list x))) (sym (trees_none ts z h)) k

  pub over_some : (P : Given → Type 0) → (a ≡ b → ⊥) → TellsJoined q p i s (span a b) P → TellsOver q p i s (span a b) P
  unfolding over
  over_some P n k path ts g h =
      let c = trees_parts {m = field_end s a} ts refl n h in
      let z : over (apply (drop i path)) (list ts) ≡ joins (map (apply (drop i path)) (list ts)) =
      ap (λ x. over (apply (drop i path)) (list x)) c.same ∙ sym (ap (λ x. joins (map (apply (drop i path)) (list x))) c.same) in
      subst P (sym z) (k path ts g h)

  -- where only the trees count, and not whether they are absent
  pub over_given : (P : List Tree → Type 0) → TellsJoined q p i s (span a b) (λ x. P (given x)) → TellsOver q p i s (span a b) (λ x. P (given x))
  over_given P k path ts g h = subst P (sym (given_over (apply (drop i path)) (list ts))) (k path ts g h)

  pub joined_end : (P : Given → Type 0) → a ≡ b → P none → TellsJoined q p i s (span a b) P
  unfolding joins
  joined_end P z k path ts g h = subst (λ x. P (joins (map (apply (drop i path)) (list x)))) (sym (trees_none ts z h)) k

  pub joined_next : {m : ℕ} (P Q R : Given → Type 0) → (a ≡ b → ⊥) → m ≡ field_end s a → ((x y : Given) → P x → Q y → R (join x y))
      → Tells q p i s (span a m) P → TellsJoined q p i s (span m b) Q → TellsJoined q p i s (span a b) R
  unfolding joins
  joined_next P Q R n z f k l path ts g h =
      let c = trees_parts ts z n h in
      subst (λ x. R (joins (map (apply (drop i path)) (list x)))) (sym c.same)
      (f _ _ (k path c.first g c.first_is) (l path c.rest g c.rest_is))

-- ---- what a walk asks for: where a path and a tree stand; and further on
pub walk_at : {q : List ℕ} {p : Span} (path : Route) {s : List ℕ} {a b : ℕ} (t : Tree) → IsAt q p (route_bytes path) → Is s a b (tree_bytes t) → Walk tree_bytes q p 0 s (span a b)
walk_at path t g h = record { path = record { value = path; value_is = g }; step = omega arith; stands = record { value = t; value_is = h } }

module _ {q : List ℕ} {p : Span} {i : ℕ} {s : List ℕ} {a b : ℕ} where
  pub walk_inside : {A : Type 0} {f : A → List ℕ} → Walk f q p i s (span a b) → i < step_count q p → StepInside q p i
  walk_inside w n = step_inside w.path.value w.path.value_is i (omega (arith, steps_are w.path.value w.path.value_is))

  pub walk_room : {A : Type 0} {f : A → List ℕ} → Walk f q p i s (span a b) → (p.from + 3 ≤ p.to) × (p.to ≤ length q)
  walk_room w = path_room w.path.value w.path.value_is

  pub walk_part : {r : Found} {x y : ℕ} → Walk tree_bytes q p i s (span a b) → i < step_count q p → Under q p i s (span a b) r → r ≡ Some (span x y)
      → Walk trees_bytes q p (i + 1) s (span x y)
  walk_part {r} {x} {y} w n u z =
      let c = (u w.stands.value w.stands.value_is).part (span x y) z in
      record { path = w.path; step = omega arith; stands = record { value = c.array; value_is = c.array_is } }

  -- where the part lies
  pub part_places : {r : Found} {x y : ℕ} → Walk tree_bytes q p i s (span a b) → Under q p i s (span a b) r → r ≡ Some (span x y) → (a ≤ x) × (x ≤ y) × (y ≤ b)
  part_places {r} {x} {y} w u z =
      let c = (u w.stands.value w.stands.value_is).part (span x y) z in
      (c.after, omega (arith, c.array_is.ends), c.within)

  module _ (w : Walk trees_bytes q p i s (span a b)) (n : a ≡ b → ⊥) {m : ℕ} (g : m ≡ field_end s a) where
    pub walk_first : Walk tree_bytes q p i s (span a m)
    walk_first = record { path = w.path; step = w.step; stands = holds_first w.stands n g }

    pub walk_rest : Walk trees_bytes q p i s (span m b)
    walk_rest = record { path = w.path; step = w.step; stands = holds_rest w.stands n g }

    pub walk_places : (a + 6 ≤ m) × (m ≤ b) × (b ≤ length s)
    walk_places = trees_places w.stands n g

-- i steps are not all
pub step_left : {A : Type 0} {f : A → List ℕ} {q : List ℕ} {p : Span} {i : ℕ} {s : List ℕ} {a b n : ℕ} → Walk f q p i s (span a b) → n ≡ step_count q p → (i ≡ n → ⊥) → i < step_count q p
step_left w z k = omega (arith, w.step)

-- ---- whether an application is present
pub present_some : (a : List Tree) → true ≡ present (some a)
unfolding present
present_some a = refl

pub present_none : false ≡ present none
unfolding present
present_none = refl

-- an array: a tree of which the path is present, or the rest decides
module _ (q : List ℕ) (p : Span) (i : ℕ) (s : List ℕ) (a b : ℕ) {m : ℕ} (n : a ≡ b → ⊥) (g : m ≡ field_end s a) {o : Bool} (k : Tells q p i s (span a m) (λ x. o ≡ present x)) where
  pub present_here : o ≡ true → TellsJoined q p i s (span a b) (λ x. true ≡ present x)
  present_here z =
      joined_next q p i s a b (λ x. o ≡ present x) (λ x. Unit {0}) (λ x. true ≡ present x) n g
      (λ x y f u. sym (present_join x y (sym f ∙ z))) k (λ path ts h w. tt)

  pub present_next : o ≡ false → (r : Bool) → TellsJoined q p i s (span m b) (λ x. r ≡ present x) → TellsJoined q p i s (span a b) (λ x. r ≡ present x)
  present_next z r =
      joined_next q p i s a b (λ x. o ≡ present x) (λ x. r ≡ present x) (λ x. r ≡ present x) n g
      (λ x y f u. u ∙ ap present (sym (absent_join x y (sym f ∙ z)))) k
