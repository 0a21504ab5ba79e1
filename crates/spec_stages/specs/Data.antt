-- What data gives of a tree: absent, or an array.
use Rattle.std.specs.Prelude.{List, [], ◌∷◌, map, cond, ℕ, suc, ◌+◌, ◌*◌, ◌/◌, ℤ, pos, negsuc, neg_ℤ}
use Rattle.std.proofs.Math.Option
use Rattle.std.proofs.Math.Option.{some}
use Rattle.spec_trees.specs.Tree.{Root, void, boolean, integer, text, Tree, node, bare, root, labels}
use Rattle.spec_queries.specs.Query.{Data, literal, path, listed, test, choice, reduced, Datas, ended, more}
use Rattle.spec_stages.specs.Paths.{Given, joins, apply}
use Rattle.spec_stages.specs.Criteria.{holds}

-- ---- reduced (document 01's term): root / n, to nearest, halves away from zero
-- m / n to nearest, halves up
unfoldable pub nearest : ℕ → ℕ → ℕ
nearest n m = (2 * m + n) / (2 * n)

unfoldable pub reduced_int : ℕ → ℤ → ℤ
reduced_int n (pos m) = pos (nearest n m)
reduced_int n (negsuc m) = neg_ℤ (pos (nearest n (suc m)))

-- other roots stay
unfoldable pub reduced_root : ℕ → Root → Root
reduced_root n void = void
reduced_root n (boolean b) = boolean b
reduced_root n (integer z) = integer (reduced_int n z)
reduced_root n (text s) = text s

-- all labels stay, with what they hold
unfoldable pub reduced_tree : ℕ → Tree → Tree
reduced_tree n t = node (reduced_root n (root t)) (labels t)

-- ---- data
unfoldable mutual
  pub value : Data → Tree → Given
  value (literal a) t = some a
  value (path p) t = apply p t
  value (listed ds) t = joins (values ds t)
  value (test c) t = some (node (boolean (holds c t)) bare ∷ [])
  value (choice c d e) t = cond (holds c t) (value d t) (value e t)
  value (reduced p n) t = Option.map (map (reduced_tree n)) (apply p t)

  pub values : Datas → Tree → List Given
  values ended t = []
  values (more d ds) t = value d t ∷ values ds t
