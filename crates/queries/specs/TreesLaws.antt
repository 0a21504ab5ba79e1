-- Trees that stand one behind another, as the list of an array: the first and the rest, none, those behind an array's
-- head, and how many bytes they take.
use Rattle.std.specs.Prelude.{◌≡◌, refl, ℕ, ◌+◌, ◌≤◌, length}
use Rattle.std.proofs.Common.{sym, ap, ◌∙◌, arith, length-append, take_all}
use Rattle.std.proofs.Math.Path.{subst}
use mathlib.Core.List.{List, [], ◌∷◌, ◌++◌}
use Rattle.spec_trees.specs.Tree.{Tree, trees}
use Rattle.spec_trees.specs.SizeLaws.{length_tree, tree_six}
use Rattle.spec_trees.specs.Bytes.{bytes, tree_f, tree_fs, tree_bytes, array_f, array_bytes}
use Rattle.areas.specs.Area.{Is, field_end}
use Rattle.areas.specs.AreaLaws.{is_content, is_join, is_left, is_right}
use Rattle.format.specs.Stand.{trees_bytes}
use Rattle.format.specs.StandLaws.{trees_parts, trees_none, is_alone}
use Rattle.queries.specs.Places.{array_trees}

-- the first tree, which ends at m, and those behind it
pub record ArrayParts (w : List ℕ) (p m e : ℕ) (ts : List Tree) : Type 0 where
  pub first : Tree
  pub rest : List Tree
  pub same : ts ≡ first ∷ rest
  pub first_is : Is w p m (tree_bytes first)
  pub rest_is : Is w m e (array_trees rest)
  pub after : p + 6 ≤ m
  pub within : m ≤ e

module _ {w : List ℕ} {p e : ℕ} where
  pub array_parts : {m : ℕ} (ts : List Tree) → m ≡ field_end w p → (p ≡ e → ⊥) → Is w p e (array_trees ts) → ArrayParts w p m e ts
  unfolding bytes tree_f
  array_parts [] g n h = absurd (n (omega (arith, h.ends)))
  array_parts {m} (t ∷ ts) g n h =
      let a = trees_parts (trees (t ∷ ts)) g n h in
      let z : t ≡ a.first = cc in
      let y : trees ts ≡ a.rest = cc in
      record {
        first = t;
        rest = ts;
        same = refl;
        first_is = subst (λ x. Is w p m (tree_bytes x)) (sym z) a.first_is;
        rest_is = subst (λ x. Is w m e (trees_bytes x)) (sym y) a.rest_is;
        after = a.after;
        within = a.within;
      }

  pub array_none : (ts : List Tree) → p ≡ e → Is w p e (array_trees ts) → ts ≡ []
  array_none [] z h = refl
  array_none (t ∷ ts) z h = let y = trees_none (trees (t ∷ ts)) z h in let x : ◌≡◌ {A = ℕ} 0 1 = cc in absurd (omega arith)

  -- a tree before others
  pub array_before : {m : ℕ} (t : Tree) (ts : List Tree) → Is w p m (tree_bytes t) → Is w m e (array_trees ts) → Is w p e (array_trees (t ∷ ts))
  unfolding bytes tree_f tree_bytes
  array_before t ts h k = is_join h k

-- a tree behind others
pub array_behind : {w : List ℕ} {p m e : ℕ} (ts : List Tree) (t : Tree) → Is w p m (array_trees ts) → Is w m e (tree_bytes t) → Is w p e (array_trees (ts ++ (t ∷ [])))
unfolding bytes tree_f tree_bytes
array_behind {w} {p} {m} {e} [] t h k = let z : m ≡ p = omega (arith, h.ends) in subst (λ i. Is w i e (array_trees (t ∷ []))) z (is_alone t k)
array_behind {w} {p} {m} {e} (x ∷ xs) t h k =
    let y : p + length (tree_bytes x) ≡ p + length (tree_bytes x) = refl in
    array_before x (xs ++ (t ∷ [])) (is_left (tree_bytes x) (array_trees xs) y h) (array_behind {p = p + length (tree_bytes x)} xs t (is_right (tree_bytes x) (array_trees xs) y h) k)

-- the trees of an array stand behind its head
pub array_reads : (s : List ℕ) (ts : List Tree) → s ≡ array_bytes ts → Is s 3 (length s) (array_trees ts)
unfolding array_bytes array_f
array_reads s ts z =
    let all : Is s 0 (length s) s = record { lies = take_all (length s) s (omega arith); ends = omega arith; inside = omega arith } in
    is_content (1, bytes (tree_fs (trees ts))) (subst (Is s 0 (length s)) z all)

-- ---- a tree has six bytes or more
pub six : (t : Tree) → 6 ≤ length (tree_bytes t)
six t = omega (arith, tree_six t, length_tree t)

-- ---- the bytes of a tree and of those behind it
pub trees_cons : (t : Tree) (ts : List Tree) → array_trees (t ∷ ts) ≡ tree_bytes t ++ array_trees ts
unfolding bytes tree_f tree_bytes
trees_cons t ts = refl

pub length_cons : (t : Tree) (ts : List Tree) → length (array_trees (t ∷ ts)) ≡ length (tree_bytes t) + length (array_trees ts)
length_cons t ts = ap length (trees_cons t ts) ∙ length-append (tree_bytes t) (array_trees ts)

pub length_none : length (array_trees []) ≡ 0
unfolding bytes tree_fs
length_none = refl
