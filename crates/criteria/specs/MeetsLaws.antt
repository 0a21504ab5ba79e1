-- The evaluator is right: by the answer of the criterion's reader, what its parts say is what the criterion says.
use Rattle.std.specs.Prelude.{◌≡◌, List, Bool, true, false, ◌&&◌, ◌||◌, ℕ, suc, ◌-◌, ◌≤◌, max}
use Rattle.std.proofs.Math.Path.{sym, ap, subst}
use Rattle.std.proofs.Common.{◌∙◌, arith}
use Rattle.std.proofs.Math.Bool.{not}
use Rattle.spec_trees.specs.Tree.{trees}
use Rattle.spec_trees.specs.Bytes.{tree_bytes}
use Rattle.areas.specs.declared.span.Span.{Span}
use Rattle.format.specs.Stand.{trees_bytes}
use Rattle.spec_queries.specs.Query.{Criterion, always, exists, equal, same, negated, both, either}
use Rattle.spec_queries.specs.Rules.{nest_c, OkC, NestedC}
use Rattle.queries.specs.Places.{criterion_bytes, HoldsAt, TwoParts, ReadsCriterion}
use Rattle.queries.specs.declared.criterion.CriterionAt.{CriterionAt}
use Rattle.spec_stages.specs.Paths.{present}
use Rattle.spec_stages.specs.Criteria.{holds}
use Rattle.paths.specs.Walk.{Walk, Tells, application, EqualsLiteral, EqualPaths}
use Rattle.paths.specs.WalkLaws.{walk_at}
use Rattle.criteria.specs.Meets.{Evaluable, EvaluableTwo, Meets, MeetsTwo}

-- ---- nesting: a criterion counts 1, and its parts what is left
nest_positive : (x : Criterion) → 1 ≤ nest_c x
unfolding nest_c
nest_positive always = omega arith
nest_positive (exists p) = omega arith
nest_positive (equal p a) = omega arith
nest_positive (same p q) = omega arith
nest_positive (negated c) = omega arith
nest_positive (both c d) = omega arith
nest_positive (either c d) = omega arith

pub left_positive : {q : List ℕ} {c : Span} {s : List ℕ} {a : Span} {left : ℕ} → Evaluable q c s a left → 1 ≤ left
left_positive h = omega (arith, nest_positive h.criterion.value, h.criterion.allowed.1)

nested_one : {left : ℕ} (x : Criterion) → NestedC left (negated x) → NestedC (left - 1) x
unfolding nest_c
nested_one x o = (o.0, omega (arith, o.1))

-- of both and of either
nested_two : {left : ℕ} (x y : Criterion) → OkC x × OkC y → suc (max (nest_c x) (nest_c y)) ≤ left → NestedC (left - 1) x × NestedC (left - 1) y
nested_two x y o n = ((o.0, omega arith), (o.1, omega arith))

-- ---- by the reader's answer
module _ (q : List ℕ) (c : Span) (s : List ℕ) (a : Span) (left : ℕ) {r : CriterionAt} (reads : ReadsCriterion q c r) where
  -- what the parts ask for
  module _ (h : Evaluable q c s a left) where
    pub exists_walk : {f : Span} → r ≡ CriterionAt.Exists f → Walk tree_bytes q f 0 s a
    exists_walk {f} z =
        let k = (reads h.criterion.value h.criterion.value_is).exists_is f z in
        walk_at k.part h.tree.value k.part_is h.tree.value_is

    pub equal_walk : {f g : Span} → r ≡ CriterionAt.Equal f g → Walk tree_bytes q f 0 s a × HoldsAt trees_bytes q g
    equal_walk {f} {g} z =
        let k = (reads h.criterion.value h.criterion.value_is).equal_is f g z in
        (walk_at k.first h.tree.value k.first_is h.tree.value_is, record { value = trees k.second; value_is = k.second_is })

    pub same_walk : {f g : Span} → r ≡ CriterionAt.Same f g → Walk tree_bytes q f 0 s a × Walk tree_bytes q g 0 s a
    same_walk {f} {g} z =
        let k = (reads h.criterion.value h.criterion.value_is).same_is f g z in
        (walk_at k.first h.tree.value k.first_is h.tree.value_is, walk_at k.second h.tree.value k.second_is h.tree.value_is)

    pub negated_evaluable : {f : Span} → r ≡ CriterionAt.Negated f → Evaluable q f s a (left - 1)
    negated_evaluable {f} z =
        let k = (reads h.criterion.value h.criterion.value_is).negated_is f z in
        let o = nested_one k.part (subst (NestedC left) k.same h.criterion.allowed) in
        record { criterion = record { value = k.part; allowed = o; value_is = k.part_is }; tree = h.tree }

    two_evaluable : {f g : Span} (op : Criterion → Criterion → Criterion) (k : TwoParts op criterion_bytes criterion_bytes q c h.criterion.value f g)
        → NestedC (left - 1) k.first × NestedC (left - 1) k.second → EvaluableTwo q f g s a (left - 1)
    two_evaluable op k o = record {
      first = record { criterion = record { value = k.first; allowed = o.0; value_is = k.first_is }; tree = h.tree };
      second = record { criterion = record { value = k.second; allowed = o.1; value_is = k.second_is }; tree = h.tree };
    }

    pub both_evaluable : {f g : Span} → r ≡ CriterionAt.Both f g → EvaluableTwo q f g s a (left - 1)
    unfolding nest_c
    both_evaluable {f} {g} z =
        let k = (reads h.criterion.value h.criterion.value_is).both_is f g z in
        let o = subst (NestedC left) k.same h.criterion.allowed in
        two_evaluable both k (nested_two k.first k.second o.0 o.1)

    pub either_evaluable : {f g : Span} → r ≡ CriterionAt.Either f g → EvaluableTwo q f g s a (left - 1)
    unfolding nest_c
    either_evaluable {f} {g} z =
        let k = (reads h.criterion.value h.criterion.value_is).either_is f g z in
        let o = subst (NestedC left) k.same h.criterion.allowed in
        two_evaluable either k (nested_two k.first k.second o.0 o.1)

  -- what they say
  pub always_meets : r ≡ CriterionAt.Always → Meets q c s a left true
  unfolding holds
  always_meets z x t o g p h = sym (ap (λ y. holds y t) ((reads x g).always_is z))

  pub exists_meets : {f : Span} {o : Bool} → r ≡ CriterionAt.Exists f → Tells q f 0 s a (λ y. o ≡ present y) → Meets q c s a left o
  unfolding holds
  exists_meets {f} z k x v n g p h =
      let i = (reads x g).exists_is f z in
      k i.part v i.part_is h ∙ sym (ap (λ y. holds y v) i.same)

  pub equal_meets : {f g : Span} {o : Bool} → r ≡ CriterionAt.Equal f g → EqualsLiteral q f g s a o → Meets q c s a left o
  unfolding holds
  equal_meets {f} {g} z k x v n l p h =
      let i = (reads x l).equal_is f g z in
      k i.first i.second v i.first_is (subst OkC i.same n.0).1 i.second_is p h ∙ sym (ap (λ y. holds y v) i.same)

  pub same_meets : {f g : Span} {o : Bool} → r ≡ CriterionAt.Same f g → EqualPaths q s (application f a) s (application g a) o → Meets q c s a left o
  unfolding holds
  same_meets {f} {g} z k x v n l p h =
      let i = (reads x l).same_is f g z in
      k i.first i.second v v i.first_is i.second_is p h p h ∙ sym (ap (λ y. holds y v) i.same)

  pub negated_meets : {f : Span} {o : Bool} → r ≡ CriterionAt.Negated f → Meets q f s a (left - 1) o → Meets q c s a left (not o)
  unfolding holds
  negated_meets {f} z k x v n l p h =
      let i = (reads x l).negated_is f z in
      ap not (k i.part v (nested_one i.part (subst (NestedC left) i.same n)) i.part_is p h) ∙ sym (ap (λ y. holds y v) i.same)

  pub both_meets : {f g : Span} {o : Bool} → r ≡ CriterionAt.Both f g → MeetsTwo ◌&&◌ q f g s a (left - 1) o → Meets q c s a left o
  unfolding holds nest_c
  both_meets {f} {g} z k x v n l p h =
      let i = (reads x l).both_is f g z in
      let e = subst (NestedC left) i.same n in
      let d = nested_two i.first i.second e.0 e.1 in
      k i.first i.second v d.0 i.first_is d.1 i.second_is p h ∙ sym (ap (λ y. holds y v) i.same)

  pub either_meets : {f g : Span} {o : Bool} → r ≡ CriterionAt.Either f g → MeetsTwo ◌||◌ q f g s a (left - 1) o → Meets q c s a left o
  unfolding holds nest_c
  either_meets {f} {g} z k x v n l p h =
      let i = (reads x l).either_is f g z in
      let e = subst (NestedC left) i.same n in
      let d = nested_two i.first i.second e.0 e.1 in
      k i.first i.second v d.0 i.first_is d.1 i.second_is p h ∙ sym (ap (λ y. holds y v) i.same)

-- ---- two: the first alone, or the second decides
module _ (q : List ℕ) (f g : Span) (s : List ℕ) (a : Span) (left : ℕ) {o : Bool} (k : Meets q f s a left o) where
  pub both_first : o ≡ false → MeetsTwo ◌&&◌ q f g s a left o
  both_first z x y v nx lx ny ly p h = z ∙ sym (ap (λ w. w && holds y v) (sym (k x v nx lx p h) ∙ z))

  pub both_second : {o2 : Bool} → o ≡ true → Meets q g s a left o2 → MeetsTwo ◌&&◌ q f g s a left o2
  both_second z m x y v nx lx ny ly p h = m y v ny ly p h ∙ sym (ap (λ w. w && holds y v) (sym (k x v nx lx p h) ∙ z))

  pub either_first : o ≡ true → MeetsTwo ◌||◌ q f g s a left o
  either_first z x y v nx lx ny ly p h = z ∙ sym (ap (λ w. w || holds y v) (sym (k x v nx lx p h) ∙ z))

  pub either_second : {o2 : Bool} → o ≡ false → Meets q g s a left o2 → MeetsTwo ◌||◌ q f g s a left o2
  either_second z m x y v nx lx ny ly p h = m y v ny ly p h ∙ sym (ap (λ w. w || holds y v) (sym (k x v nx lx p h) ∙ z))
