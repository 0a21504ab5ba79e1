-- A tail of an area that is lent, and the area when it comes back.
use Rattle.std.specs.Prelude.{List, ◌++◌, ℕ, ◌-◌, length, take, drop}

-- w from a on
abbrev pub tail : ℕ → List ℕ → List ℕ
tail a w = take (length w - a) (drop a w)

-- w, whose tail from a on was lent and came back as y
abbrev pub lent : ℕ → List ℕ → List ℕ → List ℕ
lent a w y = take a w ++ (y ++ drop (length w - a) (drop a w))
