-- The bytes of a bare tree, by its root's tag and content.
use Rattle.std.specs.Prelude.{List, ℕ}
use Rattle.spec_trees.specs.Bytes.{field_bytes, big}

abbrev pub bare_tree : ℕ → List ℕ → List ℕ
bare_tree tag c = field_bytes (2, field_bytes (tag, c))

-- whose root is the integer with these bits
abbrev pub integer_tree : ℕ → List ℕ
integer_tree x = bare_tree 5 (big 8 x)
