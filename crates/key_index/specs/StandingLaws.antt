-- Laws of trees one behind another: how large they are, where they end, and that each stands in its place.
use Rattle.std.specs.Prelude.{◌≡◌, refl, List, [], ◌∷◌, ◌++◌, ℕ, ◌+◌, ◌≤◌, length}
use Rattle.std.proofs.Common.{sym, ap, subst, ◌∙◌, arith}
use Rattle.spec_trees.specs.Lists.{All}
use Rattle.spec_trees.specs.Tree.{Tree}
use Rattle.spec_trees.specs.Bytes.{tree_f, tree_bytes}
use Rattle.spec_trees.specs.Within.{AllowedA}
use Rattle.areas.specs.Area.{Is, field_end}
use Rattle.areas.specs.AreaLaws.{is_left, is_right, is_field_end}
use Rattle.queries.specs.Places.{array_trees}
use Rattle.queries.specs.TreesLaws.{trees_cons, length_cons, length_none}
use Rattle.map.specs.Map.{trees_max}
use Rattle.key_index.specs.Links.{spots, end}
use Rattle.key_index.specs.Index.{base, size_of}
use Rattle.key_index.specs.Entering.{Stood}

-- ---- where they end
pub end_is : (a : ℕ) (ts : List Tree) → end size_of a ts ≡ a + length (array_trees ts)
unfolding end
end_is a [] = omega (arith, length_none)
end_is a (t ∷ ts) = end_is (a + size_of t) ts ∙ omega (arith, length_cons t ts)

-- where the tree at a ends, as its head says
pub tree_end : {w : List ℕ} {a e : ℕ} (t : Tree) → Is w a e (tree_bytes t) → field_end w a ≡ e
unfolding tree_bytes
tree_end {w} {a} {e} t h = is_field_end (tree_f t) [] (subst (Is w a e) (sym (nothing (tree_bytes t))) h) ∙ sym h.ends
  where
    nothing : (xs : List ℕ) → xs ++ [] ≡ xs
    nothing [] = refl
    nothing (x ∷ xs) = ap (λ l. x ∷ l) (nothing xs)

-- ---- each stands in its place
pub all_stood : {w : List ℕ} {a e : ℕ} (ts : List Tree) → AllowedA ts → Is w a e (array_trees ts) → base ≤ a → e ≤ base + trees_max → All (Stood w) (spots size_of a ts)
unfolding spots
all_stood [] o h l u = tt
all_stood {w} {a} {e} (t ∷ ts) o h l u =
    let k = subst (Is w a e) (trees_cons t ts) h in
    let n = h.ends in
    let m = length_cons t ts in (
      record { ok = o.0; stands = is_left (tree_bytes t) (array_trees ts) refl k; above = l; within = omega arith },
      all_stood {a = a + length (tree_bytes t)} ts o.1 (is_right (tree_bytes t) (array_trees ts) refl k) (omega arith) u,
    )
