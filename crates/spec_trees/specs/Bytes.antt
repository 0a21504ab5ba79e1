-- The byte form of trees and arrays. A field is a one-byte tag, a two-byte length, high byte first, and that many
-- content bytes.
use Rattle.std.specs.Prelude.{List, [], ◌∷◌, ◌++◌, reverse, cond, ℕ, zero, suc, ◌-◌, ◌*◌, ◌/◌, ◌%◌, ◌^◌, ℤ, pos, negsuc, length}
use Rattle.spec_trees.specs.Tree.{Root, void, boolean, integer, text, Tree, node, Trees, ε, ◌▹◌, Labels, bare, label, trees}

-- a field: its tag and its content
abbrev pub Field : Type 0
Field = ℕ × List ℕ

-- its bytes. Only this and `Readers.fields` see length bytes
unfoldable pub field_bytes : Field → List ℕ
field_bytes f = f.0 ∷ length f.1 / 256 ∷ length f.1 % 256 ∷ f.1

-- what two length bytes can say is below this
abbrev pub two_limit : ℕ
two_limit = 256 * 256

-- fields, one behind another
unfoldable pub bytes : List Field → List ℕ
unfolding field_bytes
bytes [] = []
bytes (f ∷ fs) = field_bytes f ++ bytes fs

-- w in n bytes, low byte first; and high byte first
unfoldable pub low : ℕ → ℕ → List ℕ
low zero w = []
low (suc n) w = w % 256 ∷ low n (w / 256)

unfoldable pub big : ℕ → ℕ → List ℕ
big n w = reverse (low n w)

-- two's complement in 64 bits
unfoldable pub pattern : ℤ → ℕ
pattern (pos n) = n
pattern (negsuc n) = 2 ^ 64 - 1 - n

unfoldable pub root_f : Root → Field
root_f void = (3, [])
root_f (boolean b) = (4, cond b 1 0 ∷ [])
root_f (integer z) = (5, big 8 (pattern z))
root_f (text s) = (6, s)

-- ---- a label's field

-- its tag, which tells how many bytes stand before the label's trees: the field's head, the label, the head of its array
abbrev pub label_tag : ℕ
label_tag = 7

-- the tag for the label k, and so how many bytes stand before its trees
unfoldable pub label_heads : ℕ → ℕ
label_heads k = label_tag

-- the label's bytes
unfoldable pub label_of : ℕ → List ℕ
label_of k = k ∷ []

-- the field of the label k, whose array has this content
unfoldable pub label_f : ℕ → List ℕ → Field
label_f k c = (label_heads k, label_of k ++ field_bytes (1, c))

-- ---- trees, arrays, labels
unfoldable mutual
  pub tree_f : Tree → Field
  tree_f (node r ls) = (2, bytes (root_f r ∷ label_fs ls))

  pub tree_fs : Trees → List Field
  tree_fs ε = []
  tree_fs (t ▹ ts) = tree_f t ∷ tree_fs ts

  pub label_fs : Labels → List Field
  label_fs bare = []
  label_fs (label k a ls) = label_f k (bytes (tree_fs a)) ∷ label_fs ls

unfoldable pub array_f : List Tree → Field
array_f ts = (1, bytes (tree_fs (trees ts)))

unfoldable pub tree_bytes : Tree → List ℕ
tree_bytes t = field_bytes (tree_f t)

unfoldable pub array_bytes : List Tree → List ℕ
array_bytes ts = field_bytes (array_f ts)
