-- Data: those that the rules allow are read back, and nothing else is read.
use Rattle.std.specs.Prelude.{◌≡◌, refl, List, [], ◌∷◌, map, ℕ, zero, suc, ◌≤◌, ◌<◌, ◌^◌, length, T, eqb, leb}
use Rattle.std.proofs.Common.{sym, ◌∙◌, inl, inr, arith, leb→le, eqb→eq}
use Rattle.std.proofs.Math.Path.{ap}
use Rattle.std.proofs.Math.Option.{some}
use Rattle.spec_trees.specs.Options.{only}
use Rattle.spec_trees.specs.Lists.{All}
use Rattle.spec_trees.specs.Limits.{members_max, divisor_max}
use Rattle.spec_trees.specs.Bytes.{Field, bytes, big}
use Rattle.spec_trees.specs.Readers.{Reader, chosen, among, tagged, big_value}
use Rattle.spec_trees.specs.Within.{AllBytes}
use Rattle.spec_trees.specs.OptionLaws.{T_true, T_and, only_some}
use Rattle.spec_trees.proofs.ReaderLaws.{Law, field_eq, OneOf, among_some, tagged_some, one_back, one_form, two_back, two_form, three_back, three_form, many_back, many_form}
use Rattle.spec_trees.specs.NumberLaws.{length_big, big_back, big_form}
use Rattle.spec_trees.proofs.ArrayLaws.{array_r_law}
use Rattle.spec_queries.specs.Query.{Criterion, Data, literal, path, listed, test, choice, reduced, Datas, ended, more, datas, data_list, is_divisor}
use Rattle.spec_queries.specs.Bytes.{criterion_f, divisor_f, data_f, data_fs}
use Rattle.spec_queries.specs.Decode.{criterion_r, divisor_r, data_r, data_table}
use Rattle.spec_queries.specs.Rules.{NestedC, nest_d, nest_ds, OkDs, NestedD}
use Rattle.spec_queries.specs.CriterionLaws.{route_law, criterion_law}

-- ---- divisors
divisor_small : (n : ℕ) → T (is_divisor n) → n < 256 ^ 2
unfolding is_divisor
divisor_small n o = omega (arith, leb→le n divisor_max (T_and (leb 1 n) (leb n divisor_max) o).1)

divisor_law : Law divisor_r divisor_f (λ n. T (is_divisor n))
unfolding divisor_r divisor_f tagged only
divisor_law = record {
  back = λ n o. rw (length_big, big_back 2 n (divisor_small n o), T_true (is_divisor n) o) refl;
  form = λ f n h e.
      let u = tagged_some 46 (λ c. only (eqb (length c) 2) (only (is_divisor (big_value c)) (some (big_value c)))) f n e in
      let o = only_some (eqb (length f.1) 2) _ u.1 in
      let o' = only_some (is_divisor (big_value f.1)) (some (big_value f.1)) o.1 in
      let q : big_value f.1 ≡ n = cc o'.1 in
      let k : length f.1 ≡ 2 = eqb→eq _ _ o.0 in
      let b : big 2 (big_value f.1) ≡ f.1 = rw k at (big_form f.1 h) in
      (field_eq f 46 (big 2 n) u.0 (rw q at (sym b)), rw q at o'.0);
}

-- ---- the members of a list
fs_map : (ds : Datas) → map data_f (data_list ds) ≡ data_fs ds
unfolding data_f
fs_map ended = refl
fs_map (more d ds) = ap (λ x. data_f d ∷ x) (fs_map ds)

datas_list : (ds : Datas) → datas (data_list ds) ≡ ds
datas_list ended = refl
datas_list (more d ds) = ap (λ x. more d x) (datas_list ds)

list_datas : (ds : List Data) → data_list (datas ds) ≡ ds
list_datas [] = refl
list_datas (d ∷ ds) = ap (λ x. d ∷ x) (list_datas ds)

all_in : (d : ℕ) (ds : Datas) → OkDs ds → nest_ds ds ≤ d → All (NestedD d) (data_list ds)
unfolding nest_d
all_in d ended o h = tt
all_in d (more x ds) o h = ((o.0, omega arith), all_in d ds o.1 (omega arith))

all_out : (d : ℕ) (ds : List Data) → All (NestedD d) ds → OkDs (datas ds) × (nest_ds (datas ds) ≤ d)
unfolding nest_d
all_out d [] a = (tt, omega arith)
all_out d (x ∷ ds) a = let q = all_out d ds a.1 in ((a.0.0, q.0), omega (arith, a.0.1, q.1))

-- ---- data
module _ (d : ℕ) (s : Reader Criterion) (M : Law s criterion_f (NestedC d)) (r : Reader Data) (L : Law r data_f (NestedD d)) where
  data_back : (x : Data) → NestedD (suc d) x → among (data_table s r) (data_f x) ≡ some x
  unfolding nest_d data_f among chosen
  data_back (literal a) o = one_back array_r_law literal a o.0
  data_back (path p) o = one_back route_law path p o.0
  data_back (listed ds) o =
      let q = many_back L (λ ds. listed (datas ds)) 1 members_max (data_list ds) (all_in d ds o.0.0 (omega arith)) o.0.1 o.0.2 in
      rw (fs_map, datas_list) at q
  data_back (test c) o = one_back M test c (o.0, omega arith)
  data_back (choice c x y) o = three_back M L L choice c x y (o.0.0, omega arith) (o.0.1, omega arith) (o.0.2, omega arith)
  data_back (reduced p n) o = two_back route_law divisor_law reduced p n o.0.0 o.0.1

  data_form : (f : Field) (x : Data) → AllBytes f.1 → among (data_table s r) f ≡ some x → (data_f x ≡ f) × NestedD (suc d) x
  unfolding nest_d data_f
  data_form f x h e = go (among_some (data_table s r) f x e)
    where
      go : OneOf (data_table s r) f x → (data_f x ≡ f) × NestedD (suc d) x
      go (inl p) = let (a, q, l, w) = one_form array_r_law literal f.1 x h p.1 in rw (← q) (field_eq f 40 _ p.0 (sym w), (l, omega arith))
      go (inr (inl p)) = let (a, q, l, w) = one_form route_law path f.1 x h p.1 in rw (← q) (field_eq f 41 _ p.0 (sym w), (l, omega arith))
      go (inr (inr (inl p))) =
          let (xs, q, l, n, m, w) = many_form L (λ ds. listed (datas ds)) 1 members_max f.1 x h p.1 in
          let k = all_out d xs l in
          let g : bytes (data_fs (datas xs)) ≡ f.1 = ap bytes (sym (fs_map (datas xs)) ∙ ap (map data_f) (list_datas xs)) ∙ w in
          rw (← q) (field_eq f 42 _ p.0 (sym g), ((k.0, rw list_datas n, rw list_datas m), omega (arith, k.1)))
      go (inr (inr (inr (inl p)))) = let (a, q, l, w) = one_form M test f.1 x h p.1 in rw (← q) (field_eq f 43 _ p.0 (sym w), (l.0, omega (arith, l.1)))
      go (inr (inr (inr (inr (inl p))))) =
          let (a, b, c, q, l, m, n, w) = three_form M L L choice f.1 x h p.1 in
          rw (← q) (field_eq f 44 _ p.0 (sym w), ((l.0, m.0, n.0), omega (arith, l.1, m.1, n.1)))
      go (inr (inr (inr (inr (inr (inl p)))))) =
          let (a, b, q, l, m, w) = two_form route_law divisor_law reduced f.1 x h p.1 in
          rw (← q) (field_eq f 45 _ p.0 (sym w), ((l, m), omega arith))
      go (inr (inr (inr (inr (inr (inr p)))))) = absurd p

nest_d_pos : (x : Data) → 1 ≤ nest_d x
unfolding nest_d
nest_d_pos (literal a) = omega arith
nest_d_pos (path p) = omega arith
nest_d_pos (listed ds) = omega arith
nest_d_pos (test c) = omega arith
nest_d_pos (choice c d e) = omega arith
nest_d_pos (reduced p n) = omega arith

pub data_law : (d : ℕ) → Law (data_r d) data_f (NestedD d)
unfolding data_r
data_law zero = record { back = λ x o. absurd (omega (arith, nest_d_pos x)); form = λ f x h e. let z : ◌≡◌ {A = ℕ} 0 1 = cc in absurd (omega arith) }
data_law (suc d) = record { back = data_back d (criterion_r d) (criterion_law d) (data_r d) (data_law d); form = data_form d (criterion_r d) (criterion_law d) (data_r d) (data_law d) }
