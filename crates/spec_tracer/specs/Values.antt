-- The root that a value becomes: void, an integer in hundredths, or a text.
use Rattle.std.specs.Prelude.{List, [], ◌∷◌, cond, ◌&&◌, ℕ, ◌+◌, ◌-◌, ◌*◌, ℤ, pos, neg_ℤ, length, eqb, leb}
use Rattle.std.proofs.Math.Option.{Option, none, some, map}
use Rattle.spec_trees.specs.Options.{only, maybe}
use Rattle.spec_trees.specs.Tree.{Root, void, integer, text, Tree, node, bare}
use Rattle.spec_tracer.specs.Limits.{whole_max}
use Rattle.spec_tracer.specs.Message.{is_digit, front, behind}

abbrev pub minus : ℕ
minus = 45

abbrev pub point : ℕ
point = 46

-- what a digit says
unfoldable pub digit : ℕ → ℕ
digit b = b - 48

-- the number that digits write behind those that wrote n
unfoldable pub decimal : ℕ → List ℕ → ℕ
decimal n [] = n
decimal n (b ∷ c) = decimal (n * 10 + digit b) c

-- 1 or 2 digits behind a point: tenths count ten
unfoldable pub parts : List ℕ → Option ℕ
parts [] = none
parts (x ∷ []) = only (is_digit x) (some (digit x * 10))
parts (x ∷ y ∷ []) = only (is_digit x && is_digit y) (some (digit x * 10 + digit y))
parts (x ∷ y ∷ z ∷ c) = none

-- what stands behind the whole digits: nothing, or a point and its digits
unfoldable pub fraction : List ℕ → Option ℕ
fraction [] = some 0
fraction (b ∷ c) = only (eqb b point) (parts c)

-- 1 to 6 digits, and optionally a point with 1 or 2 digits, in hundredths
unfoldable pub amount : List ℕ → Option ℕ
amount c =
    only (leb 1 (length (front is_digit c)) && leb (length (front is_digit c)) whole_max)
    (map (λ f. decimal 0 (front is_digit c) * 100 + f) (fraction (behind is_digit c)))

-- the same with an optional minus
unfoldable pub hundredths : List ℕ → Option ℤ
hundredths [] = none
hundredths (b ∷ c) = cond (eqb b minus) (map (λ n. neg_ℤ (pos n)) (amount c)) (map (λ n. pos n) (amount (b ∷ c)))

-- JOB's label, under which a number is text
abbrev pub job_label : ℕ
job_label = 1

-- of a value under label k
unfoldable pub value_root : ℕ → List ℕ → Root
value_root k [] = void
value_root k (b ∷ c) = cond (eqb k job_label) (text (b ∷ c)) (maybe (text (b ∷ c)) integer (hundredths (b ∷ c)))

unfoldable pub value_tree : ℕ → List ℕ → Tree
value_tree k v = node (value_root k v) bare
