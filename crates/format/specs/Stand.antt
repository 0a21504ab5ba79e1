-- Trees, arrays and labels that stand in an area, and what readers of them say.
use Rattle.std.specs.Prelude.{◌≡◌, List, ◌++◌, ℕ, ◌+◌, ◌-◌, ◌≤◌, length, Some, None, Ok}
use Rattle.std.proofs.Math.Option.{Option, none, some}
use Rattle.spec_trees.specs.Tree.{Root, Tree, Trees, Labels, list, find, put}
use Rattle.spec_trees.specs.Bytes.{field_bytes, bytes, root_f, tree_fs, label_fs, label_heads, label_of}
use Rattle.spec_trees.specs.Within.{OkL}
use Rattle.areas.specs.declared.span.Span.{Span}
use Rattle.areas.specs.Area.{Is, IsAt, Wrote, Out}
use Rattle.format.specs.Labels.{Found}

-- ---- the bytes of a tree's parts: its root, its labels, one label with its array, the trees of an array
abbrev pub root_bytes : Root → List ℕ
root_bytes r = field_bytes (root_f r)

abbrev pub labels_bytes : Labels → List ℕ
labels_bytes ls = bytes (label_fs ls)

abbrev pub trees_bytes : Trees → List ℕ
trees_bytes a = bytes (tree_fs a)

-- the label k with its array, from the bytes of the array's trees
abbrev pub entry_of : ℕ → List ℕ → List ℕ
entry_of k c = field_bytes (label_heads k, label_of k ++ field_bytes (1, c))

abbrev pub entry_bytes : ℕ → Trees → List ℕ
entry_bytes k a = entry_of k (trees_bytes a)

-- ---- readers

-- some value, of which f gives the bytes, stands in s from p to e
pub record Holds {A : Type 0} (f : A → List ℕ) (s : List ℕ) (p e : ℕ) : Type 0 where
  pub value : A
  pub value_is : Is s p e (f value)

-- r is g of whatever value stands there
abbrev pub Says : {A B : Type 0} (f : A → List ℕ) (g : A → B) (s : List ℕ) (p e : ℕ) → B → Type 0
Says {A} f g s p e r = (x : A) → Is s p e (f x) → r ≡ g x

-- x is an array whose trees stand at a place within another
pub record ArrayIs (s : List ℕ) (around : Span) (x : Option (List Tree)) (at : Span) : Type 0 where
  pub array : Trees
  pub same : x ≡ some (list array)
  pub array_is : IsAt s at (trees_bytes array)
  pub after : around.from ≤ at.from
  pub within : at.to ≤ around.to

-- what an answer says of x, which may be an array
pub record FoundIs (s : List ℕ) (around : Span) (x : Option (List Tree)) (r : Found) : Type 0 where
  pub part : (at : Span) → r ≡ Some at → ArrayIs s around x at
  pub missing : r ≡ None → x ≡ none

-- the entry of the label k among labels, with its array at a place; before it and behind it stand the other labels, which
-- stay when another array is put in its place, where labels rise
pub record EntryIs (s : List ℕ) (around : Span) (k : ℕ) (ls : Labels) (at : Span) : Type 0 where
  pub array : Trees
  pub front : List ℕ
  pub back : List ℕ
  pub same : find k ls ≡ some (list array)
  pub front_is : Is s around.from (at.from - label_heads k) front
  pub array_is : IsAt s at (trees_bytes array)
  pub back_is : Is s at.to around.to back
  pub heads : around.from + label_heads k ≤ at.from
  pub within : at.to ≤ around.to
  pub put_is : (m : ℕ) → OkL ls m → (a : Trees) → labels_bytes (put k a ls) ≡ front ++ (entry_bytes k a ++ back)

pub record EntryFound (s : List ℕ) (around : Span) (k : ℕ) (ls : Labels) (r : Found) : Type 0 where
  pub part : (at : Span) → r ≡ Some at → EntryIs s around k ls at
  pub missing : r ≡ None → find k ls ≡ none

-- the answer to a search for the label k, whatever labels stand there
abbrev pub Finds : (s : List ℕ) (around : Span) (k : ℕ) → Found → Type 0
Finds s around k r = (ls : Labels) → IsAt s around (labels_bytes ls) → EntryFound s around k ls r

-- ---- writers of heads

-- a content that was written from d on with the answer r ends in w
abbrev pub Behind : List ℕ → ℕ → Out → Type 0
Behind w d r = (e : ℕ) → r ≡ Ok e → (d ≤ e) × (e ≤ length w)

-- w became v: n bytes of heads were stored at d, so that whatever content c was written behind them, f of it is written
pub record Headed (f : List ℕ → List ℕ) (n : ℕ) (w v : List ℕ) (d : ℕ) (r q : Out) : Type 0 where
  pub same : q ≡ r
  pub wrote : (u : List ℕ) (stop : ℕ) (c : List ℕ) → d + n ≤ length u → Wrote u w (d + n) stop c r → Wrote u v d stop (f c) q
