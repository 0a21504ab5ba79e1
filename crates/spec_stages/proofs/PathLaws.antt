-- Laws of path application: what is joined of joined lists, and what the empty path and a path of one label give.
use Rattle.std.specs.Prelude.{◌≡◌, refl, List, [], ◌∷◌, ◌++◌, map, ℕ}
use Rattle.std.proofs.Common.{sym, ap, ◌∙◌, append_assoc}
use Rattle.std.proofs.Math.Option.{none, some}
use Rattle.spec_trees.specs.Options.{◌>>=◌}
use Rattle.spec_trees.specs.Tree.{Tree, labels, find}
use Rattle.spec_stages.specs.Paths.{Given, join, joins, over, reached, apply}

-- ---- joined
join_assoc : (x y z : Given) → join x (join y z) ≡ join (join x y) z
unfolding join
join_assoc none y z = refl
join_assoc (some a) none z = refl
join_assoc (some a) (some b) none = refl
join_assoc (some a) (some b) (some c) = ap some (sym (append_assoc a b c))

pub joins_append : (f : Tree → Given) (a b : List Tree) → joins (map f (a ++ b)) ≡ join (joins (map f a)) (joins (map f b))
unfolding joins join
joins_append f [] b = refl
joins_append f (t ∷ a) b = ap (join (f t)) (joins_append f a b) ∙ join_assoc (f t) (joins (map f a)) (joins (map f b))

-- ---- the empty path gives the trees themselves
joins_itself : (t : Tree) (ts : List Tree) → joins (map (apply []) (t ∷ ts)) ≡ some (t ∷ ts)
unfolding joins join apply
joins_itself t [] = refl
joins_itself t (u ∷ us) = ap (join (some (t ∷ []))) (joins_itself u us)

pub over_itself : (ts : List Tree) → over (apply []) ts ≡ some ts
unfolding over
over_itself [] = refl
over_itself (t ∷ ts) = joins_itself t ts

pub given_itself : (x : Given) → (x >>= over (apply [])) ≡ x
unfolding ◌>>=◌
given_itself none = refl
given_itself (some a) = over_itself a

-- ---- a path of one label gives what stands under it
pub apply_label : (k : ℕ) (t : Tree) → apply (k ∷ []) t ≡ find k (labels t)
unfolding apply reached
apply_label k t = given_itself (find k (labels t))
