-- Byte forms that are accepted and some that are refused, computed from the definitions.
use Rattle.std.specs.Prelude.{◌≡◌, refl, List, [], ◌∷◌, ◌++◌, map, Bool, true, false, ℕ, replicate, ℤ, pos}
use Rattle.std.proofs.Math.Option.{Option}
use Rattle.spec_trees.specs.Options.{◌>>=◌, only, maybe, some?}
use Rattle.spec_trees.specs.Lists.{filter, all, gather, each}
use Rattle.spec_trees.specs.Tree.{Tree, node, void, integer, Labels, bare, label, trees, is_label, find, put}
use Rattle.spec_trees.specs.Size.{depth, root_size, size, array_size, fits}
use Rattle.spec_trees.specs.Bytes.{Field, field_bytes, bytes, low, big, pattern, root_f, label_heads, label_of, label_f, tree_f, array_f, tree_bytes, array_bytes}
use Rattle.spec_trees.specs.Readers.{split, fields, inside, one, two, three, many, chosen, among, tagged, emptied, low_value, big_value, well_formed, tested}
use Rattle.spec_trees.specs.Decode.{signed, bit, root_r, array_with, label_c, label_r, labels_with, tree_c, tree_r, array_r, decode_array, read_array}

-- ---- notation for trees
abbrev pub int : ℤ → Tree
int z = node (integer z) bare

abbrev pub # : ℕ → Tree
# n = int (pos n)

abbrev pub ⟨◌⟩ : Labels → Tree
⟨ ls ⟩ = node void ls

infixr 4 ◌⇒◌⨾◌
abbrev pub ◌⇒◌⨾◌ : ℕ → List Tree → Labels → Labels
k ⇒ a ⨾ ls = label k (trees a) ls

-- ---- under this name all definitions of the crate compute
unfoldable abbrev pub decoded : List ℕ → Option (List Tree)
unfolding ◌>>=◌ only maybe some? filter all gather each is_label find put depth root_size size array_size fits field_bytes bytes low big pattern root_f label_heads label_of label_f tree_f array_f tree_bytes array_bytes split fields inside one two three many chosen among tagged emptied low_value big_value well_formed tested signed bit root_r array_with label_c label_r labels_with tree_c tree_r array_r decode_array read_array
decoded b = decode_array b

-- ---- forms
array : List Field → List ℕ
array fs = field_bytes (1, bytes fs)

tree : List Field → Field
tree fs = (2, bytes fs)

-- a label field whose array has just this content
under : ℕ → List ℕ → Field
under k c = (7, k ∷ field_bytes (1, c))

abbrev void_f : Field
void_f = (3, [])

-- bytes, and whether they are an array
abbrev forms : List (List ℕ × Bool)
forms =
    (array [], true)
    ∷ ([], false)
    ∷ (1 ∷ 0 ∷ [], false)
    -- lengths: one too long, one too short, one too long inside
    ∷ (1 ∷ 0 ∷ 1 ∷ [], false)
    ∷ (1 ∷ 0 ∷ 0 ∷ 0 ∷ [], false)
    ∷ (1 ∷ 0 ∷ 6 ∷ 2 ∷ 0 ∷ 3 ∷ 3 ∷ 0 ∷ 0 ∷ [], true)
    ∷ (1 ∷ 0 ∷ 6 ∷ 2 ∷ 0 ∷ 4 ∷ 3 ∷ 0 ∷ 0 ∷ [], false)
    ∷ (1 ∷ 0 ∷ 6 ∷ 2 ∷ 0 ∷ 3 ∷ 3 ∷ 0 ∷ 1 ∷ [], false)
    -- another tag; no root; two roots
    ∷ (field_bytes (16, []), false)
    ∷ (array (void_f ∷ []), false)
    ∷ (array (tree [] ∷ []), false)
    ∷ (array (tree (void_f ∷ void_f ∷ []) ∷ []), false)
    -- roots
    ∷ (array (tree ((3, 0 ∷ []) ∷ []) ∷ []), false)
    ∷ (array (tree ((4, 1 ∷ []) ∷ []) ∷ []), true)
    ∷ (array (tree ((4, 2 ∷ []) ∷ []) ∷ []), false)
    ∷ (array (tree ((5, replicate 8 255) ∷ []) ∷ []), true)
    ∷ (array (tree ((5, replicate 7 255) ∷ []) ∷ []), false)
    ∷ (array (tree ((6, replicate 255 0) ∷ []) ∷ []), true)
    ∷ (array (tree ((6, replicate 256 0) ∷ []) ∷ []), false)
    -- labels: rising, none repeated, 1 to 255
    ∷ (array (tree (void_f ∷ under 1 [] ∷ under 255 [] ∷ []) ∷ []), true)
    ∷ (array (tree (void_f ∷ under 1 [] ∷ under 1 [] ∷ []) ∷ []), false)
    ∷ (array (tree (void_f ∷ under 2 [] ∷ under 1 [] ∷ []) ∷ []), false)
    ∷ (array (tree (void_f ∷ under 0 [] ∷ []) ∷ []), false)
    ∷ (array (tree (void_f ∷ (7, []) ∷ []) ∷ []), false)
    ∷ (array (tree (void_f ∷ (7, 1 ∷ []) ∷ []) ∷ []), false)
    ∷ (array (tree (void_f ∷ (7, 1 ∷ (array [] ++ array [])) ∷ []) ∷ []), false)
    ∷ []

forms_are : map (λ r. some? (decoded r.0)) forms ≡ map (λ r. r.1) forms
unfolding decoded array tree under
forms_are = refl
