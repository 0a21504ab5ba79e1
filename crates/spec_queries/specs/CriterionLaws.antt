-- Paths and criteria: those that the rules allow are read back, and nothing else is read.
use Rattle.std.specs.Prelude.{◌≡◌, ℕ, zero, suc, ◌≤◌, length, leb}
use Rattle.std.proofs.Math.Path.{refl}
use Rattle.std.proofs.Common.{sym, ap, inl, inr, arith, leb→le}
use mathlib.Core.List.{[]}
use Rattle.std.proofs.Math.Option.{some}
use Rattle.spec_trees.specs.Options.{only}
use Rattle.spec_trees.specs.Bytes.{Field}
use Rattle.spec_trees.specs.Readers.{Reader, chosen, among, tagged, emptied}
use Rattle.spec_trees.specs.Within.{AllBytes}
use Rattle.spec_trees.specs.OptionLaws.{T_true, leb_yes, only_some}
use Rattle.spec_trees.proofs.ReaderLaws.{Law, field_eq, OneOf, among_some, tagged_some, emptied_some, one_back, one_form, two_back, two_form}
use Rattle.spec_trees.proofs.ArrayLaws.{array_r_law}
use Rattle.spec_queries.specs.Query.{Criterion, always, exists, equal, same, negated, both, either, is_path}
use Rattle.spec_queries.specs.Bytes.{path_f, route_f, criterion_f}
use Rattle.spec_queries.specs.Decode.{path_r, path_r⁺, route_r, criterion_r, criterion_table}
use Rattle.spec_queries.specs.Rules.{OkP, OkP⁺, OkRoute, nest_c, NestedC}

-- ---- paths
pub path_law : Law path_r path_f OkP
unfolding path_r path_f tagged only
path_law = record {
  back = λ p o. rw (T_true (is_path p) o) refl;
  form = λ f p h e.
      let u = tagged_some 32 (λ c. only (is_path c) (some c)) f p e in
      let o = only_some (is_path f.1) (some f.1) u.1 in
      let q : f.1 ≡ p = cc o.1 in
      (field_eq f 32 p u.0 q, rw q at o.0);
}

pub path⁺_law : Law path_r⁺ path_f OkP⁺
unfolding path_r⁺ path_f only
path⁺_law = record {
  back = λ p o. rw (leb_yes 1 (length p) o.1) (path_law.back p o.0);
  form = λ f p h e.
      let o = only_some (leb 1 (length f.1)) (path_r f) e in
      let l = path_law.form f p h o.1 in
      let q : p ≡ f.1 = ap (λ (x : Field). x.1) l.0 in
      (l.0, (l.1, rw q (leb→le 1 (length f.1) o.0)));
}

pub route_law : Law route_r route_f OkRoute
route_law = path_law

-- ---- criteria
module _ (d : ℕ) (r : Reader Criterion) (L : Law r criterion_f (NestedC d)) where
  criterion_back : (c : Criterion) → NestedC (suc d) c → among (criterion_table r) (criterion_f c) ≡ some c
  unfolding nest_c criterion_f among chosen emptied
  criterion_back always o = refl
  criterion_back (exists p) o = one_back route_law exists p o.0
  criterion_back (equal p a) o = two_back route_law array_r_law equal p a o.0.0 o.0.1
  criterion_back (same p q) o = two_back route_law route_law same p q o.0.0 o.0.1
  criterion_back (negated c) o = one_back L negated c (o.0, omega arith)
  criterion_back (both c e) o = two_back L L both c e (o.0.0, omega arith) (o.0.1, omega arith)
  criterion_back (either c e) o = two_back L L either c e (o.0.0, omega arith) (o.0.1, omega arith)

  criterion_form : (f : Field) (c : Criterion) → AllBytes f.1 → among (criterion_table r) f ≡ some c → (criterion_f c ≡ f) × NestedC (suc d) c
  unfolding nest_c criterion_f
  criterion_form f c h e = go (among_some (criterion_table r) f c e)
    where
      go : OneOf (criterion_table r) f c → (criterion_f c ≡ f) × NestedC (suc d) c
      go (inl p) = let q = emptied_some always f.1 c p.1 in rw (← q.0) (field_eq f 33 [] p.0 q.1, (tt, omega arith))
      go (inr (inl p)) = let (a, q, l, w) = one_form route_law exists f.1 c h p.1 in rw (← q) (field_eq f 34 _ p.0 (sym w), (l, omega arith))
      go (inr (inr (inl p))) = let (a, b, q, l, m, w) = two_form route_law array_r_law equal f.1 c h p.1 in rw (← q) (field_eq f 35 _ p.0 (sym w), ((l, m), omega arith))
      go (inr (inr (inr (inl p)))) = let (a, b, q, l, m, w) = two_form route_law route_law same f.1 c h p.1 in rw (← q) (field_eq f 36 _ p.0 (sym w), ((l, m), omega arith))
      go (inr (inr (inr (inr (inl p))))) = let (a, q, l, w) = one_form L negated f.1 c h p.1 in rw (← q) (field_eq f 37 _ p.0 (sym w), (l.0, omega (arith, l.1)))
      go (inr (inr (inr (inr (inr (inl p)))))) = let (a, b, q, l, m, w) = two_form L L both f.1 c h p.1 in rw (← q) (field_eq f 38 _ p.0 (sym w), ((l.0, m.0), omega (arith, l.1, m.1)))
      go (inr (inr (inr (inr (inr (inr (inl p))))))) = let (a, b, q, l, m, w) = two_form L L either f.1 c h p.1 in rw (← q) (field_eq f 39 _ p.0 (sym w), ((l.0, m.0), omega (arith, l.1, m.1)))
      go (inr (inr (inr (inr (inr (inr (inr p))))))) = absurd p

nest_c_pos : (c : Criterion) → 1 ≤ nest_c c
unfolding nest_c
nest_c_pos always = omega arith
nest_c_pos (exists p) = omega arith
nest_c_pos (equal p a) = omega arith
nest_c_pos (same p q) = omega arith
nest_c_pos (negated c) = omega arith
nest_c_pos (both c d) = omega arith
nest_c_pos (either c d) = omega arith

pub criterion_law : (d : ℕ) → Law (criterion_r d) criterion_f (NestedC d)
unfolding criterion_r
criterion_law zero = record { back = λ c o. absurd (omega (arith, nest_c_pos c)); form = λ f c h e. let z : ◌≡◌ {A = ℕ} 0 1 = cc in absurd (omega arith) }
criterion_law (suc d) = record { back = criterion_back d (criterion_r d) (criterion_law d); form = criterion_form d (criterion_r d) (criterion_law d) }
