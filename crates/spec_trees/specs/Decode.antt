-- Bytes read as roots, trees and arrays.
use Rattle.std.specs.Prelude.{List, [], ◌∷◌, true, false, cond, ℕ, zero, suc, ◌+◌, ◌-◌, ◌^◌, ℤ, pos, negsuc, length, eqb, leb, ltb}
use Rattle.std.proofs.Math.Option.{Option, none, some, map}
use Rattle.spec_trees.specs.Options.{◌>>=◌, only}
use Rattle.spec_trees.specs.Lists.{each}
use Rattle.spec_trees.specs.Limits.{array_max, tree_max, depth_max, text_max}
use Rattle.spec_trees.specs.Tree.{Root, void, boolean, integer, text, Tree, node, Labels, bare, label, trees, is_label}
use Rattle.spec_trees.specs.Bytes.{Field, label_tag}
use Rattle.spec_trees.specs.Readers.{Reader, Table, inside, one, among, tagged, emptied, big_value, Tested, tested}

-- ---- roots
unfoldable pub signed : ℕ → ℤ
signed w = cond (ltb w (2 ^ 63)) (pos w) (negsuc (2 ^ 64 - 1 - w))

unfoldable pub bit : List ℕ → Option Root
bit [] = none
bit (zero ∷ []) = some (boolean false)
bit (suc zero ∷ []) = some (boolean true)
bit (suc (suc n) ∷ []) = none
bit (b ∷ c ∷ bs) = none

abbrev pub root_table : Table Root
root_table =
    (3, emptied void)
    ∷ (4, bit)
    ∷ (5, λ c. only (eqb (length c) 8) (some (integer (signed (big_value c)))))
    ∷ (6, λ c. only (leb (length c) text_max) (some (text c)))
    ∷ []

unfoldable pub root_r : Reader Root
root_r = among root_table

-- ---- arrays, labels, trees; r reads the trees inside
unfoldable pub array_with : Reader Tree → Reader (List Tree)
array_with r = tagged 1 (inside (each r))

unfoldable pub label_c : Reader Tree → List ℕ → Option (ℕ × List Tree)
label_c r [] = none
label_c r (k ∷ b) = only (is_label k) (inside (one (λ a. (k, a)) (array_with r)) b)

unfoldable pub label_r : Reader Tree → Reader (ℕ × List Tree)
label_r r = tagged label_tag (label_c r)

-- rising labels, all above k
unfoldable pub labels_with : Reader Tree → ℕ → List Field → Option Labels
labels_with r k [] = some bare
labels_with r k (f ∷ fs) =
    label_r r f >>= λ l. only (ltb k l.0) (map (label l.0 (trees l.1)) (labels_with r l.0 fs))

-- one root, then labels
unfoldable pub tree_c : Reader Tree → List Field → Option Tree
tree_c r [] = none
tree_c r (f ∷ fs) = root_r f >>= λ x. map (node x) (labels_with r 0 fs)

-- a tree where d levels of trees may stand
unfoldable pub tree_r : ℕ → Reader Tree
tree_r zero f = none
tree_r (suc d) f = tagged 2 (λ b. only (leb (3 + length b) tree_max) (inside (tree_c (tree_r d)) b)) f

-- An array inside a tree or a query is shorter than `array_max` by the limit of what holds it.
unfoldable pub array_r : Reader (List Tree)
array_r = array_with (tree_r depth_max)

-- one array field that spans all the bytes
unfoldable pub decode_array : List ℕ → Option (List Tree)
decode_array b = only (leb (length b) array_max) (inside (one (λ a. a) array_r) b)

-- an array that is lent: over 16,384 bytes, malformed, or its trees
unfoldable pub read_array : List ℕ → Tested (List Tree)
read_array b = tested array_max b (decode_array b)
