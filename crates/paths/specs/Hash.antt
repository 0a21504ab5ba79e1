-- The number of a value, for an index: equal values have equal numbers, and nothing else is asked of them.
use Rattle.std.specs.Prelude.{List, [], ◌∷◌, ℕ, ◌+◌, ◌-◌, ◌*◌, ◌%◌, length, drop}
use Rattle.std.proofs.Math.Option.{none, some}
use Rattle.spec_trees.specs.Tree.{Tree}
use Rattle.spec_trees.specs.Bytes.{tree_bytes}
use Rattle.spec_stages.specs.Paths.{Given}

-- numbers are below this
abbrev pub hash_limit : ℕ
hash_limit = 65536

-- what a number is multiplied with before the next byte is added
abbrev pub hash_times : ℕ
hash_times = 251

-- so many bytes of a tree count, the last
abbrev pub hash_bytes : ℕ
hash_bytes = 16

-- ---- the number h with more behind it: a byte, bytes, a tree, trees, what a path gives
unfoldable pub step_hash : ℕ → ℕ → ℕ
step_hash h b = (h * hash_times + b) % hash_limit

unfoldable pub bytes_hash : ℕ → List ℕ → ℕ
bytes_hash h [] = h
bytes_hash h (b ∷ bs) = bytes_hash (step_hash h b) bs

-- the last bytes, or all, if they are fewer
abbrev pub last_bytes : List ℕ → List ℕ
last_bytes bs = drop (length bs - hash_bytes) bs

unfoldable pub tree_hash : ℕ → Tree → ℕ
tree_hash h t = bytes_hash h (last_bytes (tree_bytes t))

unfoldable pub trees_hash : ℕ → List Tree → ℕ
trees_hash h [] = h
trees_hash h (t ∷ ts) = trees_hash (tree_hash h t) ts

-- absent is not the empty array
unfoldable pub given_hash : ℕ → Given → ℕ
given_hash h none = step_hash h 0
given_hash h (some a) = trees_hash (step_hash h 1) a
