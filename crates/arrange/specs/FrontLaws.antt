-- Laws of the front as it grows: one tree, several, one list of trees behind another.
use Rattle.std.specs.Prelude.{◌≡◌, ℕ, ◌+◌, ◌*◌, ◌-◌, ◌≤◌, length, take, drop, Ok}
use Rattle.std.proofs.Math.Path.{refl, ap, ap₂}
use Rattle.std.proofs.Common.{sym, subst, ◌∙◌, arith, length-append}
use mathlib.Core.List.{List, [], ◌∷◌, ◌++◌, map-append, append-nil, append_assoc}
use Rattle.spec_trees.specs.Lists.{gather}
use Rattle.spec_trees.specs.FilterLaws.{gather_append}
use Rattle.spec_trees.specs.Tree.{Tree}
use Rattle.spec_trees.specs.Bytes.{tree_bytes}
use Rattle.areas.specs.Area.{Is, IsAt, Wrote, span}
use Rattle.areas.specs.AreaLaws.{is_beyond, is_keep, is_join, is_copied, wrote_keep, wrote_beyond, written, drop_more}
use Rattle.areas.specs.Number.{two_bytes}
use Rattle.queries.specs.Places.{array_trees}
use Rattle.queries.specs.TreesLaws.{array_behind, six, length_cons, length_none}
use Rattle.paths.specs.ComparedLaws.{trees_append}
use Rattle.spec_stages.specs.Group.{Class}
use Rattle.spec_stages.specs.Flat.{members, flat}
use Rattle.key_index.specs.declared.front.Reached.{Reached}
use Rattle.key_index.specs.Index.{numbers_at, base}
use Rattle.arrange.specs.Arrange.{headed, arranged, trees_of, number_bytes, index_at, Front, Room, Grows}

-- ---- lists of trees with their numbers
pub length_both : (xs ys : List Tree) → length (array_trees (xs ++ ys)) ≡ length (array_trees xs) + length (array_trees ys)
length_both xs ys = ap length (trees_append xs ys) ∙ length-append (array_trees xs) (array_trees ys)

numbers_behind : (ms : List (ℕ × Tree)) (n : ℕ) (t : Tree) → number_bytes (ms ++ ((n, t) ∷ [])) ≡ number_bytes ms ++ two_bytes n
unfolding number_bytes gather
numbers_behind ms n t = gather_append (λ m. two_bytes m.0) ms ((n, t) ∷ []) ∙ ap (λ l. number_bytes ms ++ l) (append-nil (two_bytes n))

trees_behind : (ms : List (ℕ × Tree)) (n : ℕ) (t : Tree) → trees_of (ms ++ ((n, t) ∷ [])) ≡ trees_of ms ++ (t ∷ [])
trees_behind ms n t = map-append (λ m. m.1) ms ((n, t) ∷ [])

pub headed_trees : (n : ℕ) (ts : List Tree) → trees_of (headed n ts) ≡ ts
unfolding headed
headed_trees n [] = refl
headed_trees n (t ∷ ts) = ap (λ l. t ∷ l) (headed_trees 0 ts)

module _ (p : Tree → ℕ) where
  pub arranged_trees : (cs : List Class) → trees_of (arranged p cs) ≡ flat cs
  unfolding arranged flat gather
  arranged_trees [] = refl
  arranged_trees (c ∷ cs) =
      map-append (λ m. m.1) (headed (p c.0) (members c)) (arranged p cs) ∙ ap₂ ◌++◌ (headed_trees (p c.0) (members c)) (arranged_trees cs)

  pub arranged_behind : (cs : List Class) (c : Class) → arranged p (cs ++ (c ∷ [])) ≡ arranged p cs ++ headed (p c.0) (members c)
  unfolding arranged gather
  arranged_behind cs c =
      gather_append (λ d. headed (p d.0) (members d)) cs (c ∷ []) ∙ ap (λ l. arranged p cs ++ l) (append-nil (headed (p c.0) (members c)))

  pub arranged_both : (xs ys : List Class) → arranged p (xs ++ ys) ≡ arranged p xs ++ arranged p ys
  unfolding arranged
  arranged_both xs ys = gather_append (λ c. headed (p c.0) (members c)) xs ys

-- ---- nothing more, and one list behind another
pub grows_none : (w : List ℕ) (f : Reached) → Grows w w f f []
grows_none w f = record {
  to_is = omega (arith, length_none);
  sparse = λ h. h;
  front = λ ms h. subst (Front w f) (sym (append-nil ms)) h;
  same = refl;
  kept = refl;
}

pub grows_then : {w x v : List ℕ} {f g r : Reached} {ms ns : List (ℕ × Tree)} → Grows w x f g ms → Grows x v g r ns → Grows w v f r (ms ++ ns)
grows_then {v = v} {r = r} {ms = ms} {ns = ns} h k = record {
  to_is = omega (arith, h.to_is, k.to_is, ap (λ l. length (array_trees l)) (map-append (λ m. m.1) ms ns), length_both (trees_of ms) (trees_of ns));
  sparse = λ s. k.sparse (h.sparse s);
  front = λ ls z. subst (Front v r) (append_assoc ls ms ns) (k.front (ls ++ ms) (h.front ls z));
  same = k.same ∙ h.same;
  kept = k.kept ∙ h.kept;
}

-- ---- one tree
module _ {w x v : List ℕ} {p e n : ℕ} {f : Reached} (l : Room w f (e - p)) (b : base ≤ p)
    (c : Wrote w x f.to (length w) (take (e - p) (drop p w)) (Ok (f.to + (e - p)))) (lx : length x ≡ length w)
    (d : Wrote x v (numbers_at + 2 * f.count) (numbers_at + 2 * f.count + 2) (two_bytes n) (Ok (numbers_at + 2 * f.count + 2))) (lv : length v ≡ length x) where
  pub grows_one : (t : Tree) → IsAt w (span p e) (tree_bytes t) → Grows w v f (record { to = f.to + (e - p); count = f.count + 1 }) ((n, t) ∷ [])
  grows_one t h =
      let s = six t in
      let i = h.ends in
      let a = l.size in
      let o = l.sparse in
      let u = l.fits in
      let tree : Is x f.to (f.to + (e - p)) (tree_bytes t) = written (is_copied h c) (omega arith) refl in
      let below : take (numbers_at + 2 * f.count) v ≡ take (numbers_at + 2 * f.count) x = wrote_keep d (omega arith) in
      let first : take f.to x ≡ take f.to w = wrote_keep c (omega arith) in
      let after : drop (f.to + (e - p)) x ≡ drop (f.to + (e - p)) w = (c.fits (f.to + (e - p)) refl).beyond in
      record {
        to_is = omega (arith, length_cons t [], length_none);
        sparse = λ k. omega arith;
        front = λ ms z. record {
          trees_is =
              subst (λ ts. Is v 0 (f.to + (e - p)) (array_trees ts)) (sym (trees_behind ms n t))
              (is_keep (array_behind (trees_of ms) t (is_keep z.trees_is {d = f.to} first (omega arith)) tree) {d = numbers_at + 2 * f.count} below (omega arith));
          numbers_is =
              let y : numbers_at + 2 * f.count + 2 ≡ numbers_at + 2 * (f.count + 1) = omega arith in
              subst (λ k. Is v numbers_at k (number_bytes (ms ++ ((n, t) ∷ [])))) y
              (subst (Is v numbers_at (numbers_at + 2 * f.count + 2)) (sym (numbers_behind ms n t))
              (is_join (is_keep (is_beyond (f.to + (e - p)) z.numbers_is after lx (omega arith)) {d = numbers_at + 2 * f.count} below (omega arith)) (written d (omega arith) refl)));
        };
        same = lv ∙ lx;
        kept = wrote_beyond {top = index_at} (omega arith) d ∙ drop_later after;
      }
    where
      drop_later : drop (f.to + (e - p)) x ≡ drop (f.to + (e - p)) w → drop index_at x ≡ drop index_at w
      drop_later k = drop_more w x (f.to + (e - p)) index_at (omega (arith, l.fits)) k
