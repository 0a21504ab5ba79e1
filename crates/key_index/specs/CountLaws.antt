-- Laws of how many classes a subset has: one more where a tree behind the others begins one, and no more than trees.
use Rattle.std.specs.Prelude.{◌≡◌, List, [], ◌∷◌, ◌++◌, Bool, true, false, cond, ℕ, ◌+◌, ◌*◌, ◌≤◌, length}
use Rattle.std.proofs.Math.Path.{refl}
use Rattle.std.proofs.Common.{ap, append-nil, append_assoc, arith}
use Rattle.spec_trees.specs.Tree.{Tree}
use Rattle.spec_queries.specs.Query.{Pair}
use Rattle.queries.specs.TreesLaws.{six, length_cons, length_none}
use Rattle.queries.specs.Places.{array_trees}
use Rattle.spec_stages.specs.Classes.{begins, scan}

-- one or none
abbrev pub one : Bool → ℕ
one b = cond b 1 0

one_most : (b : Bool) → one b ≤ 1
one_most true = omega arith
one_most false = omega arith

length_cond : {A : Type 0} (b : Bool) (x : A) (xs : List A) → length (cond b (x ∷ xs) xs) ≡ one b + length xs
length_cond true x xs = omega arith
length_cond false x xs = omega arith

module _ (gs : List Pair) (m : ℕ) where
  count_cons : (seen : List Tree) (t : Tree) (ts : List Tree)
      → length (scan gs m seen (t ∷ ts)) ≡ one (begins gs m seen t) + length (scan gs m (seen ++ (t ∷ [])) ts)
  unfolding scan
  count_cons seen t ts = length_cond (begins gs m seen t) _ (scan gs m (seen ++ (t ∷ [])) ts)

  count_none : (seen : List Tree) → length (scan gs m seen []) ≡ 0
  unfolding scan
  count_none seen = refl

  pub count_behind : (before seen : List Tree) (t : Tree)
      → length (scan gs m before (seen ++ (t ∷ []))) ≡ length (scan gs m before seen) + one (begins gs m (before ++ seen) t)
  count_behind before [] t =
      let z = ap (λ l. one (begins gs m l t)) (append-nil before) in
      omega (arith, count_cons before t [], count_none (before ++ (t ∷ [])), count_none before, z)
  count_behind before (u ∷ us) t =
      let ih = count_behind (before ++ (u ∷ [])) us t in
      let z = ap (λ l. one (begins gs m l t)) (append_assoc before (u ∷ []) us) in
      omega (arith, count_cons before u (us ++ (t ∷ [])), count_cons before u us, ih, z)

  pub count_most : (seen ts : List Tree) → length (scan gs m seen ts) ≤ length ts
  count_most seen [] = omega (arith, count_none seen)
  count_most seen (t ∷ ts) = omega (arith, count_cons seen t ts, one_most (begins gs m seen t), count_most (seen ++ (t ∷ [])) ts)

-- a tree has six bytes or more
pub six_each : (ts : List Tree) → 6 * length ts ≤ length (array_trees ts)
six_each [] = omega (arith, length_none)
six_each (t ∷ ts) = omega (arith, length_cons t ts, six t, six_each ts)
