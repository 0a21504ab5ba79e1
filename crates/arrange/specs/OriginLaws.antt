-- Laws of the positions while the trees are arranged: a class comes from where its first tree does.
use Rattle.std.specs.Prelude.{◌≡◌, refl, List, [], ◌∷◌, ◌++◌, true, ℕ, ◌+◌, length}
use Rattle.std.proofs.Common.{sym, ap, ap₂, subst, ◌∙◌, arith}
use Rattle.spec_trees.specs.Tree.{Tree}
use Rattle.spec_trees.specs.Bytes.{tree_bytes}
use Rattle.areas.specs.Number.{two_at}
use Rattle.spec_queries.specs.Query.{Pair}
use Rattle.queries.specs.Places.{array_trees}
use Rattle.queries.specs.TreesLaws.{length_cons, length_none}
use Rattle.spec_stages.specs.Classes.{unlike}
use Rattle.spec_stages.specs.Positions.{Borne, unmarked, origin}
use Rattle.spec_stages.proofs.FirstMemberLaws.{origin_begins}
use Rattle.map.specs.Map.{position_at}
use Rattle.positions.specs.Bearing.{Bears}

-- the trees before one of them and those behind it, with their positions
record Split (bs : List Borne) (seen : List Tree) (t : Tree) : Type 0 where
  before : List Borne
  here : Borne
  behind : List Borne
  all_are : bs ≡ before ++ (here ∷ behind)
  seen_are : unmarked before ≡ seen
  tree_is : here.tree ≡ t

split_behind : {bs : List Borne} {seen : List Tree} {t s : Tree} (b : Borne) → b.tree ≡ s → Split bs seen t → Split (b ∷ bs) (s ∷ seen) t
split_behind b z r = record {
  before = b ∷ r.before;
  here = r.here;
  behind = r.behind;
  all_are = ap (λ l. b ∷ l) r.all_are;
  seen_are = ap₂ ◌∷◌ z r.seen_are;
  tree_is = r.tree_is;
}

split : (bs : List Borne) (seen : List Tree) (t : Tree) (rest : List Tree) → unmarked bs ≡ seen ++ (t ∷ rest) → Split bs seen t
split [] [] t rest z = let y : ◌≡◌ {A = ℕ} 0 1 = cc in absurd (omega arith)
split [] (s ∷ seen) t rest z = let y : ◌≡◌ {A = ℕ} 0 1 = cc in absurd (omega arith)
split (b ∷ bs) [] t rest z = record { before = []; here = b; behind = bs; all_are = refl; seen_are = refl; tree_is = cc }
split (b ∷ bs) (s ∷ seen) t rest z =
    let first : b.tree ≡ s = cc in
    let others : unmarked bs ≡ seen ++ (t ∷ rest) = cc in
    split_behind b first (split bs seen t rest others)

bears_here : (w : List ℕ) (x : ℕ) (cs : List Borne) (b : Borne) (bs : List Borne) → Bears w x (cs ++ (b ∷ bs))
    → two_at w (position_at (x + length (array_trees (unmarked cs)))) ≡ b.position
unfolding Bears
bears_here w x [] b bs h = let z : x + length (array_trees []) ≡ x = omega (arith, length_none) in ap (λ i. two_at w (position_at i)) z ∙ h.0
bears_here w x (c ∷ cs) b bs h =
    let z : x + length (array_trees (unmarked (c ∷ cs))) ≡ x + length (tree_bytes c.tree) + length (array_trees (unmarked cs)) = omega (arith, length_cons c.tree (unmarked cs)) in
    ap (λ i. two_at w (position_at i)) z ∙ bears_here w (x + length (tree_bytes c.tree)) cs b bs h.1

-- a tree that is like none before it bears the position of its class
pub origin_stands : (w : List ℕ) (x : ℕ) (gs : List Pair) (bs : List Borne) (seen : List Tree) (t : Tree) (rest : List Tree)
    → unmarked bs ≡ seen ++ (t ∷ rest) → unlike gs seen t ≡ true → Bears w x bs → origin gs t bs ≡ two_at w (position_at (x + length (array_trees seen)))
unfolding unlike
origin_stands w x gs bs seen t rest z u h =
    let r = split bs seen t rest z in
    ap₂ (origin gs) (sym r.tree_is) r.all_are
    ∙ origin_begins gs r.before r.here r.behind (ap₂ (unlike gs) r.seen_are r.tree_is ∙ u)
    ∙ sym (bears_here w x r.before r.here r.behind (subst (Bears w x) r.all_are h))
    ∙ ap (λ l. two_at w (position_at (x + length (array_trees l)))) r.seen_are
