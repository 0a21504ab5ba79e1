-- Laws of writing data: what each kind gives, and the members of a list, one behind another.
use Rattle.std.specs.Prelude.{◌≡◌, refl, List, [], ◌∷◌, map, Bool, true, false, cond, ℕ, ◌+◌, ◌-◌, ◌≤◌, length, take, drop, Err}
use Rattle.std.proofs.Common.{sym, ◌∙◌, arith}
use Rattle.std.proofs.Math.Path.{subst}
use Rattle.std.proofs.Math.Option
use Rattle.std.proofs.Math.Option.{none, some}
use Rattle.spec_trees.specs.Tree.{Tree, node, boolean, bare, list, root}
use Rattle.spec_trees.specs.Bytes.{field_bytes, bytes, root_f, tree_f, tree_bytes}
use Rattle.areas.specs.Area.{Wrote, field_end, IsAt, span, too_large, Out}
use Rattle.areas.specs.declared.span.Span.{Span}
use Rattle.areas.specs.AreaLaws.{is_keep, is_part_lem}
use Rattle.spec_trees.specs.Limits.{depth_max, divisor_max}
use Rattle.spec_trees.specs.Lists.{All}
use Rattle.spec_trees.specs.ListLaws.{All-imply}
use Rattle.spec_trees.specs.Within.{OkR, Allowed}
use Rattle.queries.specs.declared.data.DataAt.{DataAt}
use Rattle.spec_queries.specs.Query.{Route, Criterion, Data, literal, path, listed, test, choice, reduced, Datas, more}
use Rattle.spec_queries.specs.Rules.{nest_d, NestedC, NestedD}
use Rattle.queries.specs.Places.{route_bytes, criterion_bytes, data_bytes, datas_bytes, HoldsOk, ReadsData}
use Rattle.queries.specs.PartLaws.{datas_parts, datas_none, datas_places}
use Rattle.queries.specs.PlaceLaws.{reduced_range}
use Rattle.data.specs.Value.{Value, WroteFound, value_of, is_large, end_of, found_of, answer_of, before}
use Rattle.spec_stages.specs.Paths.{Given, join, joins, over, apply}
use Rattle.spec_stages.specs.Criteria.{holds}
use Rattle.spec_stages.specs.Data.{value, values, reduced_tree}
use Rattle.paths.specs.Walk.{given, Tells, TellsOver}
use Rattle.paths.specs.WalkLaws.{walk_at}
use Rattle.paths.specs.ComparedLaws.{one_bytes}
use Rattle.paths.specs.SameLaws.{apply_allowed}
use Rattle.criteria.specs.Meets.{Evaluable, Meets}
use Rattle.data.specs.ValueLaws.{value_array, value_keep, value_end, value_next, value_stop, value_done}
use Rattle.data.specs.Write.{Rooted, WalkReady, WroteParts, DataReady, Gives, NestedDs, WroteLiteral, tested, listed_from}
use Rattle.data.specs.WritePathLaws.{parts_zero, parts_reduced}

-- ---- a path, with roots divided or not
rooted_zero : (ts : List Tree) → All (Rooted 0) ts
rooted_zero [] = tt
rooted_zero (t ∷ ts) = ((λ n. absurd (n refl)), rooted_zero ts)

module _ (q : List ℕ) (p : Span) (i : ℕ) (w v : List ℕ) (a b d stop : ℕ) (r : Value) where
  plain : (x : Given) → WroteParts 0 false w v (span d stop) r x → WroteFound w v d stop x r
  unfolding join
  plain x k = subst (λ y. WroteFound w v d stop y r) (parts_zero 0 x refl) (k (rooted_zero (given x)))

  pub path_plain : Tells q p i w (span a b) (WroteParts 0 false w v (span d stop) r) → Tells q p i w (span a b) (λ x. WroteFound w v d stop x r)
  path_plain k s t g h = plain (apply (drop i s) t) (k s t g h)

  pub over_plain : TellsOver q p i w (span a b) (WroteParts 0 false w v (span d stop) r) → TellsOver q p i w (span a b) (λ x. WroteFound w v d stop x r)
  over_plain k s ts g h = plain (over (apply (drop i s)) (list ts)) (k s ts g h)

  pub path_reduced : {n : ℕ} → (n ≡ 0 → ⊥) → Tells q p i w (span a b) (WroteParts n false w v (span d stop) r)
      → Tells q p i w (span a b) (λ x. All (λ t. OkR (root t)) (given x) → WroteFound w v d stop (Option.map (map (reduced_tree n)) x) r)
  unfolding join
  path_reduced {n} z k s t g h o =
      let x = apply (drop i s) t in
      subst (λ y. WroteFound w v d stop y r) (parts_reduced n x z) (k s t g h (All-imply (λ u. OkR (root u)) (Rooted n) (λ u c _. c) (given x) o))

-- ---- a boolean
boolean_bytes : (b : Bool) → tree_bytes (node (boolean b) bare) ≡ 2 ∷ 0 ∷ 4 ∷ 4 ∷ 0 ∷ 1 ∷ cond b 1 0 ∷ []
unfolding tree_bytes tree_f root_f bytes field_bytes
boolean_bytes b = refl

module _ {w v : List ℕ} {d stop : ℕ} {r : Out} {b : Bool} where
  pub put_true : b ≡ true → Wrote w v d stop (2 ∷ 0 ∷ 4 ∷ 4 ∷ 0 ∷ 1 ∷ 1 ∷ []) r → Wrote w v d stop (tree_bytes (node (boolean b) bare)) r
  put_true z h = subst (λ c. Wrote w v d stop (tree_bytes (node (boolean c) bare)) r) (sym z) (subst (λ l. Wrote w v d stop l r) (sym (boolean_bytes true)) h)

  pub put_false : b ≡ false → Wrote w v d stop (2 ∷ 0 ∷ 4 ∷ 4 ∷ 0 ∷ 1 ∷ 0 ∷ []) r → Wrote w v d stop (tree_bytes (node (boolean b) bare)) r
  put_false z h = subst (λ c. Wrote w v d stop (tree_bytes (node (boolean c) bare)) r) (sym z) (subst (λ l. Wrote w v d stop l r) (sym (boolean_bytes false)) h)

-- ---- a literal
pub gives_array : {q : List ℕ} {f t : ℕ} {w v : List ℕ} {d stop : ℕ} {r : Out} {o : Value} → o ≡ value_of r → Wrote w v d stop (take (t - f) (drop f q)) r
    → WroteLiteral q (span f t) w v (span d stop) o
gives_array {w = w} {v = v} {d = d} {stop = stop} {r = r} z k x h =
    subst (λ y. WroteFound w v d stop (some x) y) (sym z) (value_array x r refl (subst (λ l. Wrote w v d stop l r) (is_part_lem h) k))

-- ---- what is asked of the parts
module _ {A : Type 0} {P : A → Type 0} {f : A → List ℕ} {q : List ℕ} {c ce : ℕ} {w : List ℕ} {a b d stop : ℕ} (h : DataReady P f q (span c ce) w (span a b) (span d stop)) where
  pub ready_other : {B : Type 0} {Q : B → Type 0} {g : B → List ℕ} {p e : ℕ} → HoldsOk Q g q p e → DataReady Q g q (span p e) w (span a b) (span d stop)
  ready_other k = record { asked = k; tree = h.tree; below = h.below; room = h.room; area = h.area; small = h.small }

  pub ready_judged : (left : ℕ) {p e : ℕ} → HoldsOk (NestedC left) criterion_bytes q p e → Evaluable q (span p e) w (span a b) left
  ready_judged left k = record { criterion = k; tree = h.tree }

  pub ready_walk : {p : Span} (s : Route) (n : ℕ) → IsAt q p (route_bytes s) → n ≤ divisor_max → WalkReady tree_bytes q p 0 w (span a b) (span d stop) n
  ready_walk s n k m = record { walk = walk_at s h.tree.value k h.tree.value_is; below = h.below; room = h.room; area = h.area; divisor = m }

-- every data counts 1
nest_one : (x : Data) → 1 ≤ nest_d x
unfolding nest_d
nest_one (literal l) = omega arith
nest_one (path p) = omega arith
nest_one (listed ds) = omega arith
nest_one (test c) = omega arith
nest_one (choice c x y) = omega arith
nest_one (reduced p n) = omega arith

nested_listed : (left : ℕ) (ds : Datas) → NestedD left (listed ds) → NestedDs (left - 1) ds
unfolding nest_d
nested_listed left ds n = (n.0.0, omega (arith, n.1))

nested_test : (left : ℕ) (c : Criterion) → NestedD left (test c) → NestedC (left - 1) c
unfolding nest_d
nested_test left c n = (n.0, omega (arith, n.1))

record NestedChoice (left : ℕ) (c : Criterion) (x y : Data) : Type 0 where
  pub criterion : NestedC (left - 1) c
  pub first : NestedD (left - 1) x
  pub second : NestedD (left - 1) y

nested_choice : (left : ℕ) (c : Criterion) (x y : Data) → NestedD left (choice c x y) → NestedChoice left c x y
unfolding nest_d
nested_choice left c x y n = record {
  criterion = (n.0.0, omega (arith, n.1));
  first = (n.0.1, omega (arith, n.1));
  second = (n.0.2, omega (arith, n.1));
}

allowed_root : (t : Tree) → Allowed depth_max t → OkR (root t)
allowed_root (node r ls) o = o.ok.0

-- ---- each kind of data
module _ {q : List ℕ} {c ce : ℕ} {w : List ℕ} {a b d stop : ℕ} (left : ℕ) {r : DataAt} (reads : ReadsData q (span c ce) r) where
  module _ (h : DataReady (NestedD left) data_bytes q (span c ce) w (span a b) (span d stop)) where
    abbrev here : Data
    here = h.asked.value

    pub left_some : 1 ≤ left
    left_some = omega (arith, nest_one here, h.asked.allowed.1)

    pub literal_places : {f : Span} → r ≡ DataAt.Literal f → (f.from ≤ f.to) × (f.to ≤ length q)
    literal_places {f} z = let p = (reads here h.asked.value_is).literal_is f z in (omega (arith, p.part_is.ends), p.part_is.inside)

    pub path_ready : {f : Span} → r ≡ DataAt.Path f → WalkReady tree_bytes q f 0 w (span a b) (span d stop) 0
    path_ready {f} z = let p = (reads here h.asked.value_is).path_is f z in ready_walk h p.part 0 p.part_is (omega arith)

    pub listed_ready : {f : Span} → r ≡ DataAt.Listed f → DataReady (NestedDs (left - 1)) datas_bytes q f w (span a b) (span d stop)
    listed_ready {f} z =
        let p = (reads here h.asked.value_is).listed_is f z in
        ready_other h record { value = p.part; allowed = nested_listed left p.part (subst (NestedD left) p.same h.asked.allowed); value_is = p.part_is }

    pub test_ready : {f : Span} → r ≡ DataAt.Test f → DataReady (NestedC (left - 1)) criterion_bytes q f w (span a b) (span d stop)
    test_ready {f} z =
        let p = (reads here h.asked.value_is).test_is f z in
        ready_other h record { value = p.part; allowed = nested_test left p.part (subst (NestedD left) p.same h.asked.allowed); value_is = p.part_is }

    module _ {f g j : Span} (z : r ≡ DataAt.Choice f g j) where
      pub choice_judged : Evaluable q f w (span a b) (left - 1)
      choice_judged =
          let p = (reads here h.asked.value_is).choice_is f g j z in
          let n = nested_choice left p.first p.second p.third (subst (NestedD left) p.same h.asked.allowed) in
          ready_judged h (left - 1) record { value = p.first; allowed = n.criterion; value_is = p.first_is }

      pub choice_first : DataReady (NestedD (left - 1)) data_bytes q g w (span a b) (span d stop)
      choice_first =
          let p = (reads here h.asked.value_is).choice_is f g j z in
          let n = nested_choice left p.first p.second p.third (subst (NestedD left) p.same h.asked.allowed) in
          ready_other h record { value = p.second; allowed = n.first; value_is = p.second_is }

      pub choice_second : DataReady (NestedD (left - 1)) data_bytes q j w (span a b) (span d stop)
      choice_second =
          let p = (reads here h.asked.value_is).choice_is f g j z in
          let n = nested_choice left p.first p.second p.third (subst (NestedD left) p.same h.asked.allowed) in
          ready_other h record { value = p.third; allowed = n.second; value_is = p.third_is }

    pub reduced_ready : {f : Span} {n : ℕ} → r ≡ DataAt.Reduced f n → WalkReady tree_bytes q f 0 w (span a b) (span d stop) n × (1 ≤ n)
    reduced_ready {f} {n} z =
        let p = (reads here h.asked.value_is).reduced_is f n z in
        let m = reduced_range p h.asked.allowed.0 in
        (ready_walk h p.source n p.source_is m.1, m.0)

  module _ {v : List ℕ} {o : Value} where
    pub gives_literal : {f : Span} → r ≡ DataAt.Literal f → WroteLiteral q f w v (span d stop) o
        → Gives (NestedD left) data_bytes value q (span c ce) w v (span a b) (span d stop) o
    unfolding value
    gives_literal {f} z k x y n h m g =
        let p = (reads x h).literal_is f z in
        subst (λ i. WroteFound w v d stop (value i y) o) (sym p.same) (k p.part p.part_is)

    pub gives_path : {f : Span} → r ≡ DataAt.Path f → Tells q f 0 w (span a b) (λ x. WroteFound w v d stop x o)
        → Gives (NestedD left) data_bytes value q (span c ce) w v (span a b) (span d stop) o
    unfolding value
    gives_path {f} z k x y n h m g =
        let p = (reads x h).path_is f z in
        subst (λ i. WroteFound w v d stop (value i y) o) (sym p.same) (k p.part y p.part_is g)

    pub gives_listed : {f : Span} → r ≡ DataAt.Listed f → Gives (NestedDs (left - 1)) datas_bytes (listed_from false) q f w v (span a b) (span d stop) o
        → Gives (NestedD left) data_bytes value q (span c ce) w v (span a b) (span d stop) o
    unfolding value join
    gives_listed {f} z k x y n h m g =
        let p = (reads x h).listed_is f z in
        subst (λ i. WroteFound w v d stop (value i y) o) (sym p.same)
        (k p.part y (nested_listed left p.part (subst (NestedD left) p.same n)) p.part_is m g)

    pub gives_test : {f : Span} → r ≡ DataAt.Test f → Gives (NestedC (left - 1)) criterion_bytes tested q f w v (span a b) (span d stop) o
        → Gives (NestedD left) data_bytes value q (span c ce) w v (span a b) (span d stop) o
    unfolding value
    gives_test {f} z k x y n h m g =
        let p = (reads x h).test_is f z in
        subst (λ i. WroteFound w v d stop (value i y) o) (sym p.same)
        (k p.part y (nested_test left p.part (subst (NestedD left) p.same n)) p.part_is m g)

    module _ {f g j : Span} (z : r ≡ DataAt.Choice f g j) {e : Bool} (says : Meets q f w (span a b) (left - 1) e) where
      pub gives_first : e ≡ true → Gives (NestedD (left - 1)) data_bytes value q g w v (span a b) (span d stop) o
          → Gives (NestedD left) data_bytes value q (span c ce) w v (span a b) (span d stop) o
      unfolding value
      gives_first s l x y n h m i =
          let p = (reads x h).choice_is f g j z in
          let n2 = nested_choice left p.first p.second p.third (subst (NestedD left) p.same n) in
          let e2 = says p.first y n2.criterion p.first_is m i in
          subst (λ i. WroteFound w v d stop (value i y) o) (sym p.same)
          (subst (λ s. WroteFound w v d stop (cond s (value p.second y) (value p.third y)) o) (sym s ∙ e2) (l p.second y n2.first p.second_is m i))

      pub gives_second : e ≡ false → Gives (NestedD (left - 1)) data_bytes value q j w v (span a b) (span d stop) o
          → Gives (NestedD left) data_bytes value q (span c ce) w v (span a b) (span d stop) o
      unfolding value
      gives_second s l x y n h m i =
          let p = (reads x h).choice_is f g j z in
          let n2 = nested_choice left p.first p.second p.third (subst (NestedD left) p.same n) in
          let e2 = says p.first y n2.criterion p.first_is m i in
          subst (λ i. WroteFound w v d stop (value i y) o) (sym p.same)
          (subst (λ s. WroteFound w v d stop (cond s (value p.second y) (value p.third y)) o) (sym s ∙ e2) (l p.third y n2.second p.third_is m i))

    pub gives_reduced : {f : Span} {n : ℕ} → r ≡ DataAt.Reduced f n
        → Tells q f 0 w (span a b) (λ x. All (λ t. OkR (root t)) (given x) → WroteFound w v d stop (Option.map (map (reduced_tree n)) x) o)
        → Gives (NestedD left) data_bytes value q (span c ce) w v (span a b) (span d stop) o
    unfolding value
    gives_reduced {f} {n} z k x y m h l g =
        let p = (reads x h).reduced_is f n z in
        let s = apply_allowed p.source y l in
        let i = k p.source y p.source_is g (All-imply (Allowed depth_max) (λ t. OkR (root t)) allowed_root (given (apply p.source y)) s) in
        subst (λ i. WroteFound w v d stop (value i y) o) (sym p.same)
        (subst (λ i. WroteFound w v d stop (Option.map (map (reduced_tree i)) (apply p.source y)) o) (p.divisor_is m.0) i)

-- the tree meets the criterion
pub gives_tested : {q : List ℕ} {c ce : ℕ} {w v : List ℕ} {a b d stop : ℕ} (left : ℕ) {e : Bool} {r : Out} {o : Value} → o ≡ value_of r → Meets q (span c ce) w (span a b) left e
    → Wrote w v d stop (tree_bytes (node (boolean e) bare)) r → Gives (NestedC left) criterion_bytes tested q (span c ce) w v (span a b) (span d stop) o
unfolding given
gives_tested {w = w} {v = v} {d = d} {stop = stop} left {e = e} {r = r} {o = o} q1 s k x t n h m g =
    let z = s x t n h m g in
    subst (λ y. WroteFound w v d stop (tested x t) y) (sym q1) (value_array (node (boolean (holds x t)) bare ∷ []) r refl
    (subst (λ l. Wrote w v d stop l r) (one_bytes (node (boolean (holds x t)) bare)) (subst (λ y. Wrote w v d stop (tree_bytes (node (boolean y) bare)) r) z k)))

-- ---- the members of a list, from p on
first_nested : (left : ℕ) (x : Data) (ds : Datas) → NestedDs left (more x ds) → NestedD left x × NestedDs left ds
unfolding nest_d
first_nested left x ds n = ((n.0.0, omega (arith, n.1)), (n.0.1, omega (arith, n.1)))

module _ (q : List ℕ) (p ce : ℕ) (w : List ℕ) (a b d stop left : ℕ) where
  pub list_done : (s : Bool) {o : Value} → o ≡ answer_of s d → p ≡ ce → d ≤ stop → Gives (NestedDs left) datas_bytes (listed_from s) q (span p ce) w w (span a b) (span d stop) o
  unfolding values joins
  list_done s {o} q1 z l ds t n h m g =
      subst (λ x. WroteFound w w d stop (join (before s) (joins (values x t))) o) (sym (datas_none ds z h))
      (subst (λ y. WroteFound w w d stop (join (before s) none) y) (sym q1) (value_done w d stop s l))

  module _ (z : p ≡ ce → ⊥) {m : ℕ} (y : m ≡ field_end q p) where
    module _ (h : DataReady (NestedDs left) datas_bytes q (span p ce) w (span a b) (span d stop)) where
      pub list_places : (p + 3 ≤ m) × (m ≤ ce) × (ce ≤ length q)
      list_places = datas_places z y record { value = h.asked.value; value_is = h.asked.value_is }

      pub list_first : DataReady (NestedD left) data_bytes q (span p m) w (span a b) (span d stop)
      list_first =
          let c = datas_parts h.asked.value y z h.asked.value_is in
          ready_other h record { value = c.first; allowed = (first_nested left c.first c.rest (subst (NestedDs left) c.same h.asked.allowed)).0; value_is = c.first_is }

      pub list_rest : {v : List ℕ} {r : Value} {f : ℕ} → Gives (NestedD left) data_bytes value q (span p m) w v (span a b) (span d stop) r → f ≡ end_of r d → length v ≡ length w
          → DataReady (NestedDs left) datas_bytes q (span m ce) v (span a b) (span f stop)
      list_rest {v} {r} {f} k x l =
          let c = datas_parts h.asked.value y z h.asked.value_is in
          let n = first_nested left c.first c.rest (subst (NestedDs left) c.same h.asked.allowed) in
          let i = k c.first h.tree.value n.0 c.first_is h.tree.allowed h.tree.value_is in
          let e = value_end r h.room i in
          let j = value_keep r (omega (arith, h.room, h.area)) i in
          record {
            asked = record { value = c.rest; allowed = n.1; value_is = c.rest_is };
            tree = record { value = h.tree.value; allowed = h.tree.allowed; value_is = is_keep h.tree.value_is j h.below };
            below = omega (arith, h.below, e);
            room = omega (arith, e);
            area = omega (arith, h.area);
            small = omega (arith, h.small);
          }

    module _ (s : Bool) {v : List ℕ} {r : Value} (k : Gives (NestedD left) data_bytes value q (span p m) w v (span a b) (span d stop) r) where
      pub list_stop : is_large r ≡ true → Gives (NestedDs left) datas_bytes (listed_from s) q (span p ce) w v (span a b) (span d stop) (Err too_large)
      unfolding values joins
      list_stop l ds t n h i g =
          let c = datas_parts ds y z h in
          let n2 = first_nested left c.first c.rest (subst (NestedDs left) c.same n) in
          subst (λ x. WroteFound w v d stop (join (before s) (joins (values x t))) (Err too_large)) (sym c.same)
          (value_stop s r l (k c.first t n2.0 c.first_is i g) (joins (values c.rest t)))

      pub list_next : d ≤ length w → b ≤ d → is_large r ≡ false → {f : ℕ} {e : Bool} → f ≡ end_of r d → e ≡ found_of r s → (u : List ℕ) (o : Value)
          → Gives (NestedDs left) datas_bytes (listed_from e) q (span m ce) v u (span a b) (span f stop) o → Gives (NestedDs left) datas_bytes (listed_from s) q (span p ce) w u (span a b) (span d stop) o
      unfolding values joins
      list_next l j x x1 x2 u o k2 ds t n h i g =
          let c = datas_parts ds y z h in
          let n2 = first_nested left c.first c.rest (subst (NestedDs left) c.same n) in
          let f1 = k c.first t n2.0 c.first_is i g in
          subst (λ x. WroteFound w u d stop (join (before s) (joins (values x t))) o) (sym c.same)
          (value_next s r l x f1 x1 x2 (joins (values c.rest t)) o (k2 c.rest t n2.1 c.rest_is i (is_keep g (value_keep r l f1) j)))
