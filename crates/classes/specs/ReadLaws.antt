-- Laws of the arranged array as it is read: one tree, up to the end of a class, class after class.
use Rattle.std.specs.Prelude.{◌≡◌, ◌≢◌, take}
use Rattle.std.proofs.Math.Path.{refl, sym, subst}
use Rattle.std.proofs.Common.{◌∙◌}
use mathlib.Core.List.{List, [], ◌∷◌, ◌++◌}
use Prim.Native.Nat.{ℕ, ◌+◌, ◌*◌, ◌≤◌}
use native.Mathlib.Omega.{arith}
use Rattle.std.proofs.Math.ListN.{length}
use Rattle.spec_trees.specs.Limits.{depth_max}
use Rattle.spec_trees.specs.Lists.{gather}
use Rattle.spec_trees.specs.ListLaws.{All-left, All-right}
use Rattle.spec_trees.specs.Within.{Allowed, AllowedA}
use Rattle.spec_trees.specs.Tree.{Tree}
use Rattle.spec_trees.specs.Bytes.{bytes, tree_fs, tree_bytes}
use Rattle.areas.specs.Area.{Is, field_end}
use Rattle.areas.specs.AreaLaws.{is_keep, is_left, is_right}
use Rattle.areas.specs.Number.{two_at, two_bytes}
use Rattle.areas.specs.NumberLaws.{two_is}
use Rattle.queries.specs.Places.{array_trees}
use Rattle.queries.specs.TreesLaws.{array_before, six, trees_cons, length_cons, length_none}
use Rattle.paths.specs.ComparedLaws.{is_none}
use Rattle.spec_stages.specs.Group.{Class}
use Rattle.spec_stages.specs.Flat.{members, flat}
use Rattle.map.specs.Map.{trees_max, front_part}
use Rattle.key_index.specs.Index.{numbers_at, size_of}
use Rattle.arrange.specs.Arrange.{headed, arranged, trees_of, number_bytes, Arranged}
use Rattle.key_index.specs.StandingLaws.{tree_end}
use Rattle.arrange.specs.FrontLaws.{arranged_trees}
use Rattle.key_index.specs.declared.front.Reached.{Reached}
use Rattle.classes.specs.Read.{Stems, reached, Unread, EndReady, EndIs}

-- ---- the trees of the first class, and those of the others
pub first_allowed : (c : Class) (cs : List Class) → AllowedA (flat (c ∷ cs)) → AllowedA (members c)
unfolding flat gather
first_allowed c cs o = All-left (Allowed depth_max) (members c) (flat cs) o

pub others_allowed : (c : Class) (cs : List Class) → AllowedA (flat (c ∷ cs)) → AllowedA (flat cs)
unfolding flat gather
others_allowed c cs o = All-right (Allowed depth_max) (members c) (flat cs) o

-- ---- where it stands
-- a tree takes three times as many bytes as its number, or more
numbers_small : (ms : List (ℕ × Tree)) → 3 * length (number_bytes ms) ≤ length (array_trees (trees_of ms))
unfolding number_bytes gather
numbers_small [] = omega arith
numbers_small (m ∷ ms) = omega (arith, length_cons m.1 (trees_of ms), six m.1, numbers_small ms)

-- it stands there still, though the area behind the front changed
pub unread_keep : {w v : List ℕ} {f : Reached} {n : ℕ} {ms : List (ℕ × Tree)} → n ≤ trees_max → take front_part v ≡ take front_part w → Unread w f n ms → Unread v f n ms
unread_keep {ms = ms} l k u = record {
  trees_is = is_keep u.trees_is {d = front_part} k (omega arith);
  numbers_is = is_keep u.numbers_is {d = front_part} k (omega (arith, numbers_small ms, u.trees_is.ends, u.sparse));
  sparse = u.sparse;
}

-- nothing is read
pub unread_all : {w : List ℕ} {n : ℕ} {p : Tree → ℕ} {cs : List Class} → Arranged w n p cs → Unread w (reached 0 0) n (arranged p cs)
unread_all {w} {n} {p} {cs} h = record {
  trees_is = subst (λ ts. Is w 0 n (array_trees ts)) (sym (arranged_trees p cs)) h.trees_is;
  numbers_is = h.numbers_is;
  sparse = omega arith;
}

-- ---- one tree: it ends at m
pub record Read (w : List ℕ) (f : Reached) (n m k : ℕ) (t : Tree) (ms : List (ℕ × Tree)) : Type 0 where
  pub tree_is : Is w f.to m (tree_bytes t)
  pub number : two_at w (numbers_at + 2 * f.count) ≡ k
  pub number_inside : numbers_at + 2 * f.count + 2 ≤ length w
  pub rest : Unread w (reached m (f.count + 1)) n ms
  pub after : f.to + 6 ≤ m
  pub within : m ≤ n

module _ {w : List ℕ} {f : Reached} {n m : ℕ} (g : m ≡ field_end w f.to) where
  pub read_one : {k : ℕ} {t : Tree} {ms : List (ℕ × Tree)} → Unread w f n ((k, t) ∷ ms) → Read w f n m k t ms
  unfolding number_bytes gather
  read_one {k} {t} {ms} u =
      let a : ℕ = numbers_at + 2 * f.count in
      let trees : Is w f.to n (tree_bytes t ++ array_trees (trees_of ms)) = subst (Is w f.to n) (trees_cons t (trees_of ms)) u.trees_is in
      let tree : Is w f.to (f.to + size_of t) (tree_bytes t) = is_left (tree_bytes t) (array_trees (trees_of ms)) refl trees in
      let others : Is w (f.to + size_of t) n (array_trees (trees_of ms)) = is_right (tree_bytes t) (array_trees (trees_of ms)) refl trees in
      let z : f.to + size_of t ≡ m = sym (g ∙ tree_end t tree) in
      let next : numbers_at + 2 * (f.count + 1) ≡ a + length (two_bytes k) = omega arith in
      let last : a + length (number_bytes ((k, t) ∷ ms)) ≡ numbers_at + 2 * (f.count + 1) + length (number_bytes ms) = omega arith in
      let numbers : Is w (numbers_at + 2 * (f.count + 1)) (a + length (number_bytes ((k, t) ∷ ms))) (number_bytes ms) = is_right (two_bytes k) (number_bytes ms) next u.numbers_is in
      let s = six t in
      let b = u.sparse in
      let x = others.ends in
      let i = u.numbers_is.inside in
      record {
        tree_is = subst (λ e. Is w f.to e (tree_bytes t)) z tree;
        number = two_is k (is_left (two_bytes k) (number_bytes ms) refl u.numbers_is);
        number_inside = omega arith;
        rest = record {
          trees_is = subst (λ p. Is w p n (array_trees (trees_of ms))) z others;
          numbers_is = subst (λ e. Is w (numbers_at + 2 * (f.count + 1)) e (number_bytes ms)) last numbers;
          sparse = omega arith;
        };
        after = omega arith;
        within = omega arith;
      }

  pub read_places : (ms : List (ℕ × Tree)) → (f.to ≡ n → ⊥) → Unread w f n ms
      → (f.to + 6 ≤ m) × (m ≤ n) × (n ≤ length w) × (numbers_at + 2 * f.count + 2 ≤ length w)
  read_places [] ne u = absurd (ne (omega (arith, u.trees_is.ends, length_none)))
  read_places (k ∷ ms) ne u = let r = read_one u in (r.after, r.within, u.trees_is.inside, r.number_inside)

-- ---- up to the end of a class
-- one more tree of the class
pub record More (w : List ℕ) (f : Reached) (n m : ℕ) (ts : List Tree) (p : Tree → ℕ) (cs : List Class) : Type 0 where
  pub first : Tree
  pub others : List Tree
  pub same : ts ≡ first ∷ others
  pub one : Read w f n m 0 first (headed 0 others ++ arranged p cs)

module _ {w : List ℕ} {f : Reached} {n : ℕ} where
  -- none is left of it
  over : (p : Tree → ℕ) (cs : List Class) → Unread w f n (headed 0 [] ++ arranged p cs) → Is w f.to f.to (array_trees []) × Unread w f n (arranged p cs)
  unfolding headed bytes tree_fs
  over p cs u = (is_none (omega (arith, u.trees_is.ends, u.trees_is.inside)), u)

  pub end_last : f.to ≡ n → EndIs w f n f
  unfolding headed
  end_last z [] p cs k u = over p cs u
  end_last z (t ∷ ts) p cs k u = let r = read_one refl u in absurd (omega (arith, r.after, r.within))

  pub end_next : two_at w (numbers_at + 2 * f.count) ≢ 0 → EndIs w f n f
  unfolding headed
  end_next y [] p cs k u = over p cs u
  end_next y (t ∷ ts) p cs k u = absurd (y (read_one refl u).number)

  module _ (ne : f.to ≡ n → ⊥) (y : two_at w (numbers_at + 2 * f.count) ≡ 0) {m : ℕ} (g : m ≡ field_end w f.to) where
    more : (ts : List Tree) (p : Tree → ℕ) (cs : List Class) → Stems p cs → Unread w f n (headed 0 ts ++ arranged p cs) → More w f n m ts p cs
    unfolding headed arranged gather
    more [] p [] k u = absurd (ne (omega (arith, u.trees_is.ends, length_none)))
    more [] p (c ∷ cs) k u = absurd (omega (arith, y, (read_one refl u).number, k.0.0))
    more (t ∷ ts) p cs k u = record { first = t; others = ts; same = refl; one = read_one g u }

    pub end_on : (r : Reached) → EndIs w (reached m (f.count + 1)) n r → EndIs w f n r
    end_on r h ts p cs k u =
        let d = more ts p cs k u in
        let e = h d.others p cs k d.one.rest in
        (subst (λ l. Is w f.to r.to (array_trees l)) (sym d.same) (array_before d.first d.others d.one.tree_is e.0), e.1)

    pub end_again : EndReady w f n → EndReady w (reached m (f.count + 1)) n
    end_again h =
        let d = more h.rest h.stem h.others h.stems h.unread in
        record { rest = d.others; stem = h.stem; others = h.others; stems = h.stems; unread = d.one.rest; small = h.small }

-- ---- class after class
pub record ClassParts (w : List ℕ) (f : Reached) (n m : ℕ) (p : Tree → ℕ) (cs : List Class) : Type 0 where
  pub first : Class
  pub others : List Class
  pub same : cs ≡ first ∷ others
  pub one : Read w f n m (p first.0) first.0 (headed 0 first.1 ++ arranged p others)

module _ {w : List ℕ} {f : Reached} {n : ℕ} where
  pub class_none : (p : Tree → ℕ) (cs : List Class) → f.to ≡ n → Unread w f n (arranged p cs) → cs ≡ []
  unfolding headed arranged gather
  class_none p [] z u = refl
  class_none p (c ∷ cs) z u = let r = read_one refl u in absurd (omega (arith, r.after, r.within))

  pub class_parts : {m : ℕ} (p : Tree → ℕ) (cs : List Class) → (f.to ≡ n → ⊥) → m ≡ field_end w f.to → Unread w f n (arranged p cs) → ClassParts w f n m p cs
  unfolding headed arranged gather
  class_parts p [] ne g u = absurd (ne (omega (arith, u.trees_is.ends, length_none)))
  class_parts p (c ∷ cs) ne g u = record { first = c; others = cs; same = refl; one = read_one g u }
