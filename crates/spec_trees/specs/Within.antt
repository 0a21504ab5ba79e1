-- What the format allows: bytes, roots in range, rising labels, trees and arrays within the limits.
use Rattle.std.specs.Prelude.{List, ℕ, ◌≤◌, ◌<◌, ◌^◌, length, T}
use Rattle.std.specs.Int.Signed.{mag}
use Rattle.spec_trees.specs.Lists.{All}
use Rattle.spec_trees.specs.Limits.{array_max, tree_max, depth_max, text_max}
use Rattle.spec_trees.specs.Tree.{Root, void, boolean, integer, text, Tree, node, Trees, ε, ◌▹◌, Labels, bare, label, is_label}
use Rattle.spec_trees.specs.Size.{size, depth, array_size}

-- what a lent area holds
abbrev pub AllBytes : List ℕ → Type 0
AllBytes b = All (λ x. x < 256) b

-- an integer is signed, of 64 bits: `mag` of n is n, and of -n it is n - 1
abbrev pub OkR : Root → Type 0
OkR void = Unit {0}
OkR (boolean b) = Unit {0}
OkR (integer z) = mag z < 2 ^ 63
OkR (text s) = (length s ≤ text_max) × AllBytes s

-- well formed: roots in range, labels rising, here all above k
abbrev mutual
  pub Ok : Tree → Type 0
  Ok (node r ls) = OkR r × OkL ls 0

  pub OkA : Trees → Type 0
  OkA ε = Unit {0}
  OkA (t ▹ ts) = Ok t × OkA ts

  pub OkL : Labels → ℕ → Type 0
  OkL bare k = Unit {0}
  OkL (label j a ls) k = (k < j) × T (is_label j) × OkA a × OkL ls j

-- a tree that is allowed where d levels of trees may stand. The trees inside are no larger, and one level less deep
pub record Allowed (d : ℕ) (t : Tree) : Type 0 where
  pub ok : Ok t
  pub small : size t ≤ tree_max
  pub shallow : depth t ≤ d

-- the trees of an array
abbrev pub AllowedA : List Tree → Type 0
AllowedA ts = All (Allowed depth_max) ts

-- an array within the limits
pub record Within (ts : List Tree) : Type 0 where
  pub allowed : AllowedA ts
  pub small : array_size ts ≤ array_max
