-- The byte form of what the format allows holds bytes only: so an area can hold it.
use Rattle.std.specs.Prelude.{List, [], ◌∷◌, ◌++◌, true, false, ℕ, zero, suc, ◌/◌, ◌≤◌, ◌<◌, length, get_or, T, leb}
use Rattle.std.proofs.Common.{arith, length-append, leb→le}
use Rattle.spec_trees.specs.Lists.{All}
use Rattle.spec_trees.specs.Limits.{label_max}
use Rattle.spec_trees.specs.Tree.{Root, void, boolean, integer, text, Tree, node, Trees, ε, ◌▹◌, Labels, bare, label, trees, is_label}
use Rattle.spec_trees.specs.Bytes.{Field, two_limit, field_bytes, bytes, low, big, pattern, root_f, label_tag, label_heads, label_of, label_f, tree_f, tree_fs, label_fs, array_f, array_bytes}
use Rattle.spec_trees.specs.Within.{AllBytes, OkR, Ok, OkA, OkL, AllowedA, Within}
use Rattle.spec_trees.specs.OptionLaws.{T_and}
use Rattle.spec_trees.specs.ListLaws.{All-append, All-reverse, All-of}
use Rattle.spec_trees.specs.SizeLaws.{length_array}

-- bytes only, if there are no more of them than two length bytes can say
abbrev pub InBytes : List ℕ → Type 0
InBytes xs = length xs < two_limit → AllBytes xs

abbrev pub FieldInBytes : Field → Type 0
FieldInBytes f = InBytes (field_bytes f)

-- byte by byte, as of a slice
pub bytes_are : (xs : List ℕ) → ((k : ℕ) → get_or xs k 0 < 256) → AllBytes xs
bytes_are xs h = All-of (λ x. x < 256) 0 xs (λ k l. h k)

-- ---- fields
pub bytes_append_in : (xs ys : List ℕ) → InBytes xs → InBytes ys → InBytes (xs ++ ys)
bytes_append_in xs ys a b l =
    let n = length-append xs ys in
    All-append (λ x. x < 256) xs ys (a (omega (arith, n))) (b (omega (arith, n)))

pub field_in : (t : ℕ) (c : List ℕ) → t < 256 → InBytes c → FieldInBytes (t, c)
unfolding field_bytes
field_in t c s h l = (s, (omega arith, (omega arith, h (omega arith))))

pub fields_in : (fs : List Field) → All FieldInBytes fs → InBytes (bytes fs)
unfolding bytes
fields_in [] h l = tt
fields_in (f ∷ fs) h l = bytes_append_in (field_bytes f) (bytes fs) h.0 (fields_in fs h.1) l

-- a field whose content is fields
pub nested_in : (t : ℕ) (fs : List Field) → t < 256 → All FieldInBytes fs → FieldInBytes (t, bytes fs)
nested_in t fs s h = field_in t (bytes fs) s (fields_in fs h)

-- ---- numbers
low_in : (n w : ℕ) → AllBytes (low n w)
unfolding low
low_in zero w = tt
low_in (suc n) w = (omega arith, low_in n (w / 256))

pub big_in : (n w : ℕ) → AllBytes (big n w)
unfolding big
big_in n w = All-reverse (λ x. x < 256) (low n w) (low_in n w)

pub label_small : (k : ℕ) → T (is_label k) → k ≤ label_max
unfolding is_label
label_small k h = leb→le k label_max (T_and (leb 1 k) (leb k label_max) h).1

pub label_in : (k : ℕ) → T (is_label k) → k < 256
label_in k h = omega (arith, label_small k h)

-- ---- trees
root_in : (r : Root) → OkR r → FieldInBytes (root_f r)
unfolding root_f
root_in void h = field_in 3 [] (omega arith) (λ l. tt)
root_in (boolean true) h = field_in 4 (1 ∷ []) (omega arith) (λ l. (omega arith, tt))
root_in (boolean false) h = field_in 4 (0 ∷ []) (omega arith) (λ l. (omega arith, tt))
root_in (integer z) h = field_in 5 (big 8 (pattern z)) (omega arith) (λ l. big_in 8 (pattern z))
root_in (text s) h = field_in 6 s (omega arith) (λ l. h.1)

mutual
  unfolding tree_f label_f label_heads label_of

  pub tree_in : (t : Tree) → Ok t → FieldInBytes (tree_f t)
  tree_in (node r ls) h = nested_in 2 (root_f r ∷ label_fs ls) (omega arith) (root_in r h.0, labels_in ls 0 h.1)

  pub trees_in : (a : Trees) → OkA a → All FieldInBytes (tree_fs a)
  trees_in ε h = tt
  trees_in (t ▹ ts) h = (tree_in t h.0, trees_in ts h.1)

  labels_in : (ls : Labels) (k : ℕ) → OkL ls k → All FieldInBytes (label_fs ls)
  labels_in bare k h = tt
  labels_in (label j a ls) k h = (
    field_in label_tag (j ∷ field_bytes (1, bytes (tree_fs a))) (omega arith)
        (bytes_append_in (j ∷ []) (field_bytes (1, bytes (tree_fs a))) (λ l. (label_in j h.1, tt))
        (nested_in 1 (tree_fs a) (omega arith) (trees_in a h.2))),
    labels_in ls j h.3,
  )

-- ---- arrays
allowed_ok : (ts : List Tree) → AllowedA ts → OkA (trees ts)
allowed_ok [] h = tt
allowed_ok (t ∷ ts) h = (h.0.ok, allowed_ok ts h.1)

pub array_in : (ts : List Tree) → AllowedA ts → FieldInBytes (array_f ts)
unfolding array_f
array_in ts h = nested_in 1 (tree_fs (trees ts)) (omega arith) (trees_in (trees ts) (allowed_ok ts h))

-- the byte form of an array within the limits
pub array_bytes_lem : (ts : List Tree) → Within ts → AllBytes (array_bytes ts)
unfolding array_bytes
array_bytes_lem ts h = array_in ts h.allowed (omega (arith, length_array ts, h.small))
