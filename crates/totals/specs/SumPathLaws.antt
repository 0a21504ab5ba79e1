-- Laws of adding the integer roots that a path gives: of a tree, and tree by tree of an array.
use Rattle.std.specs.Prelude.{◌≡◌, refl, List, [], ◌∷◌, ℕ, ◌≤◌, Some, None}
use Rattle.std.proofs.Common.{sym, arith}
use Rattle.std.proofs.Math.Path.{subst}
use Rattle.std.proofs.Math.Option.{none, some}
use Rattle.spec_trees.specs.Lists.{All, gather}
use Rattle.spec_trees.specs.Options.{maybe}
use Rattle.spec_trees.specs.Tree.{Tree, trees}
use Rattle.spec_trees.specs.Bytes.{tree_bytes}
use Rattle.spec_trees.specs.SizeLaws.{list_trees}
use Rattle.spec_trees.specs.Within.{Ok}
use Rattle.areas.specs.Area.{Is, field_end, span}
use Rattle.areas.specs.declared.span.Span.{Span}
use Rattle.format.specs.Stand.{ArrayIs, FoundIs}
use Rattle.spec_stages.specs.Paths.{Given, join, over, apply}
use Rattle.spec_stages.specs.Totals.{tree_integers, given_integers, sum_of, total}
use Rattle.spec_stages.proofs.KeepLaws.{OkF, over_ok, apply_ok}
use Rattle.paths.specs.Walk.{given, Tells, TellsJoined}
use Rattle.paths.specs.WalkLaws.{given_join, over_given, joined_end, joined_next}
use Rattle.totals.specs.declared.exact.Total.{Total}
use Rattle.totals.specs.Exact.{IsTotal, Sound}
use Rattle.totals.specs.Sum.{AddsTrees, AddsTree, AddsPart, TotalOver}
use Rattle.totals.specs.SumLaws.{trees_same, trees_seq}
use Rattle.format.specs.Labels.{Found}

-- ---- what a path gives: none, and one after another
pub given_none : (t : Total) → AddsTrees t t (given none)
unfolding given
given_none t = trees_same t

pub given_one : {s : List ℕ} {a b : ℕ} {t r : Total} → AddsTree s (span a b) t r → (u : Tree) → Is s a b (tree_bytes u) → AddsTrees t r (given (some (u ∷ [])))
unfolding given
given_one f u h = f u h

given_seq : {t r v : Total} (x y : Given) → AddsTrees t r (given x) → AddsTrees r v (given y) → AddsTrees t v (given (join x y))
given_seq {t} {r} {v} x y f g = subst (AddsTrees t v) (sym (given_join x y)) (trees_seq (given x) (given y) f g)

module _ (q : List ℕ) (p : Span) (i : ℕ) (s : List ℕ) (a b : ℕ) (t : Total) where
  pub sum_end : a ≡ b → TellsJoined q p i s (span a b) (λ x. AddsTrees t t (given x))
  sum_end z = joined_end q p i s a b (λ x. AddsTrees t t (given x)) z (given_none t)

  pub sum_next : {m : ℕ} {r : Total} → (a ≡ b → ⊥) → m ≡ field_end s a → Tells q p i s (span a m) (λ x. AddsTrees t r (given x))
      → (k : Total) → TellsJoined q p i s (span m b) (λ x. AddsTrees r k (given x)) → TellsJoined q p i s (span a b) (λ x. AddsTrees t k (given x))
  sum_next {m} {r} z g f k =
      joined_next q p i s a b (λ x. AddsTrees t r (given x)) (λ x. AddsTrees r k (given x)) (λ x. AddsTrees t k (given x)) z g given_seq f

-- ---- found in one piece, or not
pub found_places : {s : List ℕ} {a b : ℕ} {x : Given} {c d : ℕ} → ArrayIs s (span a b) x (span c d) → (a ≤ c) × (c ≤ d) × (d ≤ b)
found_places h = (h.after, omega (arith, h.array_is.ends), h.within)

module _ {s : List ℕ} {at : Span} {x : Given} {found : Found} (t : Total) (f : FoundIs s at x found) where
  pub found_missing : found ≡ None → AddsTrees t t (given x)
  found_missing z = subst (λ y. AddsTrees t t (given y)) (sym (f.missing z)) (given_none t)

  pub found_piece : {r : Total} {c d : ℕ} → found ≡ Some (span c d) → AddsPart s (span c d) t r → AddsTrees t r (given x)
  unfolding given
  found_piece {r} {c} {d} z k =
      let a = f.part (span c d) z in
      subst (λ y. AddsTrees t r (given y)) (sym a.same) (k a.array a.array_is)

-- ---- the total
given_integers_lem : (x : Given) → tree_integers (given x) ≡ given_integers x
unfolding given given_integers maybe tree_integers gather
given_integers_lem none = refl
given_integers_lem (some a) = refl

given_ok : (x : Given) → OkF x → All Ok (given x)
unfolding given
given_ok none o = tt
given_ok (some a) o = o

module _ {q : List ℕ} {p : Span} {s : List ℕ} {a b : ℕ} {t r : Total} where
  pub total_over : IsTotal t none → Sound r → TellsJoined q p 0 s (span a b) (λ x. AddsTrees t r (given x)) → TotalOver q p s (span a b) r
  unfolding total
  total_over g o k = record {
    sound = o;
    total_is = λ path ts h w l.
        let x = over (apply path) ts in
        let f = subst (λ us. AddsTrees t r (given (over (apply path) us))) (list_trees ts) (over_given q p 0 s a b (AddsTrees t r) k path (trees ts) h l) in
        subst (λ zs. IsTotal r (sum_of zs)) (given_integers_lem x) (f (given_ok x (over_ok (apply path) (apply_ok path) ts w)) none g);
  }
