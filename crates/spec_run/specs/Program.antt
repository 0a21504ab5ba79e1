-- What the program writes for what stands on its standard input.
use Rattle.std.specs.Prelude.{List, [], ◌∷◌, ◌++◌, cond, ℕ, ◌+◌, ◌*◌, ◌/◌, ◌%◌, take, drop, replicate, ltb, eqb}
use Rattle.spec_trees.specs.Limits.{array_max, work_min, positions_min}
use Rattle.spec_run.specs.Run.{call, Outcome, plain_run, result_bytes}

-- how many bytes it reads at most
abbrev pub program_max : ℕ
program_max = 65536

-- as long as its head says; fewer than three bytes have no head, and are all that is left
unfoldable pub headed : List ℕ → ℕ
headed [] = 0
headed (t ∷ []) = 1
headed (t ∷ h ∷ []) = 2
headed (t ∷ h ∷ l ∷ c) = 3 + (h * 256 + l)

-- ---- text
unfoldable pub digit : ℕ → ℕ
digit n = cond (ltb n 10) (48 + n) (87 + n)

-- lower-case hexadecimal and a line feed
unfoldable pub hex : List ℕ → List ℕ
hex [] = 10 ∷ []
hex (b ∷ bs) = digit (b / 16) ∷ digit (b % 16) ∷ hex bs

-- a number below 100
unfoldable pub decimal : ℕ → List ℕ
decimal n = cond (ltb n 10) ((48 + n) ∷ []) ((48 + n / 10) ∷ (48 + n % 10) ∷ [])

-- "refused ", the number and a line feed
unfoldable pub refused_text : ℕ → List ℕ
refused_text n = 114 ∷ 101 ∷ 102 ∷ 117 ∷ 115 ∷ 101 ∷ 100 ∷ 32 ∷ (decimal n ++ (10 ∷ []))

unfoldable pub shown : Outcome → List ℕ
shown r = cond (eqb r.number 0) (hex (result_bytes r)) (refused_text r.number)

-- ---- the query, then the input, each as long as its head says or what is left, then the joined array, all the rest
unfoldable pub answered : List ℕ → Outcome
answered s =
    let rest = drop (headed s) s in
    plain_run
    (call (take (headed s) s) (take (headed rest) rest) (drop (headed rest) rest) (replicate work_min 0) (replicate array_max 0) (replicate positions_min 0))

unfoldable pub program : List ℕ → List ℕ
program input = shown (answered (take program_max input))
