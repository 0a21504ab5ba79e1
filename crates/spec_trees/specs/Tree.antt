-- Roots, trees and arrays. A tree has a root and zero or more labels, each of which points to an array, a list of
-- trees.
use Rattle.std.specs.Prelude.{List, [], ◌∷◌, Bool, cond, ◌&&◌, ℕ, ℤ, eqb, leb, ltb}
use Rattle.std.proofs.Math.Option.{Option, none, some}
use Rattle.spec_trees.specs.Limits.{label_max}

pub data Root : Type 0 where
  void : Root
  boolean : Bool → Root
  integer : ℤ → Root
  text : List ℕ → Root
  deriving Discrete as Root-discrete

infixr 5 ◌▹◌
mutual
  pub data Tree : Type 0 where
    node : Root → Labels → Tree
    deriving Discrete as Tree-discrete

  -- an array that stands in a tree
  pub data Trees : Type 0 where
    ε : Trees
    ◌▹◌ : Tree → Trees → Trees
    deriving Discrete as Trees-discrete

  -- by rising labels: a label, its array, the labels after it
  pub data Labels : Type 0 where
    bare : Labels
    label : ℕ → Trees → Labels → Labels

-- outside a tree an array is a list
abbrev pub list : Trees → List Tree
list ε = []
list (t ▹ ts) = t ∷ list ts

abbrev pub trees : List Tree → Trees
trees [] = ε
trees (t ∷ ts) = t ▹ trees ts

abbrev pub root : Tree → Root
root (node r ls) = r

abbrev pub labels : Tree → Labels
labels (node r ls) = ls

-- the bare void tree
abbrev pub bare_void : Tree
bare_void = node void bare

-- a number that may be a label
unfoldable pub is_label : ℕ → Bool
is_label k = leb 1 k && leb k label_max

-- the array under label k, if the label is there
unfoldable pub find : ℕ → Labels → Option (List Tree)
find k bare = none
find k (label j a ls) = cond (eqb k j) (some (list a)) (find k ls)

-- the labels with a under k: in the place of what k held, or put in by rising labels
unfoldable pub put : ℕ → Trees → Labels → Labels
put k a bare = label k a bare
put k a (label j b ls) =
    cond (ltb k j) (label k a (label j b ls)) (cond (eqb k j) (label k a ls) (label j b (put k a ls)))
