-- The tree that a message becomes.
use Rattle.std.specs.Prelude.{List, [], ◌∷◌, map, Bool, true, cond, ◌&&◌, ℕ, zero, suc, length, eqb, leb}
use Rattle.std.proofs.Math.Option.{Option, some}
use Rattle.spec_trees.specs.Options.{◌>>=◌, only}
use Rattle.spec_trees.specs.Lists.{filter, same_bytes}
use Rattle.spec_trees.specs.Tree.{void, Tree, node, Labels, bare, label, trees}
use Rattle.spec_tracer.specs.Limits.{message_max}
use Rattle.spec_tracer.specs.Message.{Line}
use Rattle.spec_tracer.specs.Reading.{message}
use Rattle.spec_tracer.specs.Values.{value_tree}

-- ---- JOB, DBL, HBOX, VBOX, FED, IPD and DO, in ASCII
abbrev pub names : List (List ℕ)
names =
    (74 ∷ 79 ∷ 66 ∷ [])
    ∷ (68 ∷ 66 ∷ 76 ∷ [])
    ∷ (72 ∷ 66 ∷ 79 ∷ 88 ∷ [])
    ∷ (86 ∷ 66 ∷ 79 ∷ 88 ∷ [])
    ∷ (70 ∷ 69 ∷ 68 ∷ [])
    ∷ (73 ∷ 80 ∷ 68 ∷ [])
    ∷ (68 ∷ 79 ∷ [])
    ∷ []

-- the label of a name among these, the first of which has label k; 0 if it is none of them
unfoldable pub label_among : ℕ → List (List ℕ) → List ℕ → ℕ
label_among k [] n = 0
label_among k (x ∷ xs) n = cond (same_bytes n x) k (label_among (suc k) xs n)

-- 1 to 7, or 0
unfoldable pub label_named : List ℕ → ℕ
label_named n = label_among 1 names n

-- the lines that become label k
unfoldable pub lines_for : ℕ → List Line → List Line
lines_for k ls = filter (λ l. eqb (label_named l.0) k) ls

-- none of the n names from the one with label k on has two lines
unfoldable pub once_from : ℕ → ℕ → List Line → Bool
once_from k zero ls = true
once_from k (suc n) ls = leb (length (lines_for k ls)) 1 && once_from (suc k) n ls

unfoldable pub once : List Line → Bool
once ls = once_from 1 (length names) ls

-- the label k, if it has a line, holds one tree for each value of that line
unfoldable pub labelled : ℕ → List Line → Labels → Labels
labelled k [] rest = rest
labelled k (l ∷ ls) rest = label k (trees (map (value_tree k) l.1)) rest

-- n labels from k on
unfoldable pub labels_from : ℕ → ℕ → List Line → Labels
labels_from k zero ls = bare
labels_from k (suc n) ls = labelled k (lines_for k ls) (labels_from (suc k) n ls)

unfoldable pub message_tree : List Line → Tree
message_tree ls = node void (labels_from 1 (length names) ls)

-- at most 4,096 bytes, every line in form, none of the seven names twice
unfoldable pub traced : List ℕ → Option Tree
traced m = only (leb (length m) message_max) (message m >>= λ ls. only (once ls) (some (message_tree ls)))
