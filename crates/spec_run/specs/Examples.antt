-- The plain run on examples: each row of the table of refusals, the bench examples at the limits, the program; and the
-- calls that regroup and that trace a message.
use Rattle.std.specs.Prelude.{◌≡◌, refl, List, [], ◌∷◌, ◌++◌, ℕ, length, replicate, pos}
use Rattle.spec_trees.specs.Tree.{Tree, node, text, bare, bare_void}
use Rattle.spec_trees.specs.Bytes.{array_bytes}
use Rattle.spec_trees.specs.Examples.{int, #, ⟨◌⟩, ◌⇒◌⨾◌}
use Rattle.spec_queries.specs.Query.{always, negated, pair_of, total_pair, match, unwind, group, lookup}
use Rattle.spec_queries.specs.Bytes.{query_bytes}
use Rattle.spec_tracer.proofs.Examples.{becomes}
use Rattle.spec_stages.specs.PositionExamples.{stems}
use Rattle.spec_run.specs.Refusal.{keeps_result, keeps_work}
use Rattle.spec_run.specs.Run.{reading, asking, refusal_at, final, verdict_of, verdict, zeros, work_after, result_after, positions_after, number_in, length_in, outcome_of, plain_run, check_number, checked_query, checked_array}
use Rattle.spec_run.specs.Regroup.{regroup_verdict_of}
use Rattle.spec_run.specs.Tracer.{tracer_verdict}
use Rattle.spec_run.specs.Program.{headed, digit, hex, decimal, refused_text, shown, answered, program}

-- what a call is lent but for a position area, of the work area only its length
pub record Lent : Type 0 where
  pub query : List ℕ
  pub input : List ℕ
  pub joined : List ℕ
  pub work : ℕ
  pub result : List ℕ

abbrev lent : List ℕ → List ℕ → List ℕ → ℕ → List ℕ → Lent
lent q i j n r = record { query = q; input = i; joined = j; work = n; result = r }

-- What the plain run tells of it and of a position area: number, length, result area, position area. Under this name all
-- definitions of this crate and of those below compute.
unfoldable abbrev pub told : Lent → List ℕ → ℕ × ℕ × List ℕ × List ℕ
unfolding stems keeps_result keeps_work reading refusal_at final verdict_of verdict zeros work_after result_after positions_after number_in length_in outcome_of plain_run check_number checked_query checked_array headed digit hex decimal refused_text shown answered program
told c p =
    let x = verdict_of c.query c.input c.joined c.work (length p) (length c.result) in
    (number_in x, length_in x, result_after c.result x, positions_after p x)

-- and what is expected
abbrev Row : Type 0
Row = Lent × List ℕ × (ℕ × ℕ × List ℕ × List ℕ)

-- each row is what the plain run tells
abbrev AllHold : List Row → Type 0
AllHold [] = Unit {0}
AllHold (r ∷ rs) = (told r.0 r.1 ≡ r.2) × AllHold rs

abbrev no_stage : List ℕ
no_stage = 16 ∷ 0 ∷ 0 ∷ []

abbrev no_tree : List ℕ
no_tree = 1 ∷ 0 ∷ 0 ∷ []

abbrev nines : List ℕ
nines = replicate 6 9

abbrev noughts : List ℕ
noughts = replicate 6 0

abbrev over : List ℕ
over = replicate 16385 0

-- position areas: one entry too few, just enough, and one more
abbrev few : List ℕ
few = replicate 2729 7

abbrev enough : List ℕ
enough = replicate 2730 7

abbrev more : List ℕ
more = replicate 2731 7

abbrev cleared : List ℕ
cleared = replicate 2731 0

-- 100 bare voids under 1 and under 2
abbrev hundreds : Tree
hundreds = ⟨ 1 ⇒ replicate 100 bare_void ⨾ 2 ⇒ replicate 100 bare_void ⨾ bare ⟩

-- an unwind by 1 of these makes an array of over 16,384 bytes, and a lookup makes the last tree too large
abbrev late : List Tree
late = ⟨ 1 ⇒ replicate 100 bare_void ⨾ 2 ⇒ replicate 30 bare_void ⨾ bare ⟩ ∷ ⟨ 1 ⇒ # 7 ∷ [] ⨾ 5 ⇒ replicate 50 bare_void ⨾ bare ⟩ ∷ []

-- two trees that together are too large for one
abbrev twice : List Tree
twice = hundreds ∷ hundreds ∷ []

abbrev late_joined : List Tree
late_joined = ⟨ 1 ⇒ # 7 ∷ [] ⨾ 2 ⇒ replicate 300 bare_void ⨾ bare ⟩ ∷ []

-- the first and the last have one key; the other is of the subset that comes first
abbrev jobs : List ℕ
jobs = array_bytes (⟨ 1 ⇒ [] ⨾ bare ⟩ ∷ bare_void ∷ ⟨ 1 ⇒ [] ⨾ bare ⟩ ∷ [])

abbrev by_job : List ℕ
by_job = query_bytes (group [] (pair_of (1 ∷ []) (1 ∷ []) ∷ []) ∷ [])

-- a total of 2 does not fit, and unwound by 3 the tree gives an array of over 16,384 bytes
abbrev huge : List Tree
huge = ⟨ 2 ⇒ int (pos 9223372036854775807) ∷ # 1 ∷ [] ⨾ 3 ⇒ replicate 40 bare_void ⨾ 4 ⇒ replicate 60 bare_void ⨾ bare ⟩ ∷ []

-- a group with that total, and behind it a lookup that makes its tree too large
abbrev summed : List ℕ
summed = query_bytes (group (total_pair (2 ∷ []) (2 ∷ []) ∷ []) [] ∷ lookup (9 ∷ []) (9 ∷ []) (3 ∷ []) ∷ [])

abbrev unwound_summed : List ℕ
unwound_summed = query_bytes (unwind (3 ∷ []) ∷ group (total_pair (2 ∷ []) (2 ∷ []) ∷ []) [] ∷ lookup (9 ∷ []) (9 ∷ []) (3 ∷ []) ∷ [])

abbrev rows : List Row
rows =
    -- the twelve refusals, in order, 11 behind 1; each call has the faults of the later ones too, where it can
    (lent over over over 65535 nines, few, (1, 0, nines, few))
    ∷ (lent (replicate 4097 0) over over 65536 nines, few, (11, 0, nines, few))
    ∷ (lent (replicate 4097 0) over over 65536 nines, enough, (2, 0, nines, enough))
    ∷ (lent (16 ∷ 0 ∷ 1 ∷ []) over over 65536 nines, enough, (3, 0, nines, enough))
    ∷ (lent no_stage over over 65536 nines, enough, (4, 0, nines, enough))
    ∷ (lent no_stage (1 ∷ 0 ∷ 0 ∷ 0 ∷ []) over 65536 nines, enough, (5, 0, nines, enough))
    ∷ (lent no_stage no_tree over 65536 nines, enough, (6, 0, nines, enough))
    ∷ (lent no_stage no_tree [] 65536 nines, enough, (7, 0, nines, enough))
    -- these clear the areas to their ends. 12 at a group: before 8 in the stretch that it opens, and before 10; 9 of the
    -- array that enters it goes before it
    ∷ (lent unwound_summed (array_bytes huge) (array_bytes twice) 65536 nines, more, (9, 0, noughts, cleared))
    ∷ (lent summed (array_bytes huge) (array_bytes twice) 65536 nines, more, (12, 0, noughts, cleared))
    ∷ (lent (query_bytes (lookup [] [] (3 ∷ []) ∷ [])) (array_bytes (hundreds ∷ [])) (array_bytes (hundreds ∷ [])) 65536 nines, more, (8, 0, noughts, cleared))
    ∷ (lent (query_bytes (unwind (1 ∷ []) ∷ unwind (2 ∷ []) ∷ group [] [] ∷ [])) (array_bytes (hundreds ∷ [])) no_tree 65536 nines, more, (9, 0, noughts, cleared))
    ∷ (lent no_stage (array_bytes (bare_void ∷ [])) no_tree 65536 nines, more, (10, 0, noughts, cleared))
    -- one entry too few for a call without other faults, which the next row accepts
    ∷ (lent no_stage no_tree no_tree 65536 nines, few, (11, 0, nines, few))
    -- accepted: bytes beyond the length keep their value, and so do entries beyond the result trees
    ∷ (lent no_stage no_tree no_tree 65536 nines, enough, (0, 3, 1 ∷ 0 ∷ 0 ∷ 9 ∷ 9 ∷ 9 ∷ [], enough))
    ∷ (lent no_stage jobs no_tree 65536 (replicate 35 9), enough, (0, 35, jobs, 1 ∷ 2 ∷ 3 ∷ replicate 2727 7))
    -- a group's tree bears its first member's position
    ∷ (
      lent by_job jobs no_tree 65536 (replicate 22 9),
      enough,
      (0, 22, array_bytes (bare_void ∷ ⟨ 1 ⇒ [] ⨾ bare ⟩ ∷ []), 2 ∷ 1 ∷ replicate 2728 7),
    )
    -- accepted, though 10,000 trees passed; with an empty group in place of match, above: 9
    ∷ (
      lent (query_bytes (unwind (1 ∷ []) ∷ unwind (2 ∷ []) ∷ match (negated always) ∷ [])) (array_bytes (hundreds ∷ [])) no_tree 65536 nines,
      enough,
      (0, 3, 1 ∷ 0 ∷ 0 ∷ 9 ∷ 9 ∷ 9 ∷ [], enough),
    )
    -- the first stretch with a fault decides: 9 there, though the stretch behind it would give 8, as it does alone
    ∷ (
      lent (query_bytes (unwind (1 ∷ []) ∷ group [] [] ∷ lookup (9 ∷ []) (9 ∷ []) (3 ∷ []) ∷ [])) (array_bytes late) (array_bytes twice) 65536 nines,
      more,
      (9, 0, noughts, cleared),
    )
    ∷ (lent (query_bytes (group [] [] ∷ lookup (9 ∷ []) (9 ∷ []) (3 ∷ []) ∷ [])) (array_bytes late) (array_bytes twice) 65536 nines, more, (8, 0, noughts, cleared))
    -- in one stretch 8 goes before 10: the last tree gets too large, and the list is over 16,384 bytes before it
    ∷ (
      lent (query_bytes (unwind (1 ∷ []) ∷ lookup (1 ∷ []) (1 ∷ []) (3 ∷ []) ∷ [])) (array_bytes late) (array_bytes late_joined) 65536 nines,
      more,
      (8, 0, noughts, cleared),
    )
    ∷ (lent (query_bytes (unwind (1 ∷ []) ∷ [])) (array_bytes late) no_tree 65536 nines, more, (10, 0, noughts, cleared))
    ∷ []

pub rows_hold : AllHold rows
unfolding told
rows_hold =
    (refl, (refl, (refl, (refl, (refl, (refl, (refl, (refl, (refl, (refl, (refl, (refl, (refl, (refl, (refl, (refl, (refl, (refl, (refl, (refl, (refl, (refl, tt))))))))))))))))))))))

-- ---- the regrouping call: the same of it, the first array in the input's place and the second in the joined array's
unfoldable abbrev pub regroup_told : Lent → ℕ × ℕ × List ℕ
unfolding told asking regroup_verdict_of
regroup_told c =
    let x = regroup_verdict_of c.query c.input c.joined c.work (length c.result) in
    (number_in x, length_in x, result_after c.result x)

abbrev RegroupRow : Type 0
RegroupRow = Lent × (ℕ × ℕ × List ℕ)

abbrev AllRegroup : List RegroupRow → Type 0
AllRegroup [] = Unit {0}
AllRegroup (r ∷ rs) = (regroup_told r.0 ≡ r.1) × AllRegroup rs

-- a group that places an aggregate at a and its key at k
abbrev tally : List ℕ → List ℕ → List ℕ
tally a k = query_bytes (group (pair_of (2 ∷ []) a ∷ []) (pair_of (1 ∷ []) k ∷ []) ∷ [])

-- such a group, whose destinations are 5 and 4
abbrev lenses : List ℕ
lenses = tally (5 ∷ []) (4 ∷ [])

-- 200 bare voids to be joined with others: together too large for one tree
abbrev many : List Tree
many = ⟨ 5 ⇒ replicate 200 bare_void ⨾ bare ⟩ ∷ []

-- two of these are over 16,384 bytes together, with one head counted
abbrev half : List ℕ
half = array_bytes (replicate 1366 bare_void)

abbrev regroup_rows : List RegroupRow
regroup_rows =
    -- its refusals, in order; each call has the faults of the later ones too, where it can
    (lent over over over 65535 nines, (1, 0, nines))
    ∷ (lent (replicate 4097 0) over over 65536 nines, (2, 0, nines))
    ∷ (lent (16 ∷ 0 ∷ 1 ∷ []) over over 65536 nines, (3, 0, nines))
    -- no group; a group and a stage more; a destination of two labels; one label in both lists
    ∷ (lent no_stage over over 65536 nines, (3, 0, nines))
    ∷ (lent (query_bytes (group [] [] ∷ match always ∷ [])) over over 65536 nines, (3, 0, nines))
    ∷ (lent (tally (5 ∷ 6 ∷ []) (4 ∷ [])) over over 65536 nines, (3, 0, nines))
    ∷ (lent (tally (4 ∷ []) (4 ∷ [])) over over 65536 nines, (3, 0, nines))
    -- a total
    ∷ (lent (query_bytes (group (total_pair (2 ∷ []) (5 ∷ []) ∷ []) (pair_of (1 ∷ []) (4 ∷ []) ∷ []) ∷ [])) over over 65536 nines, (3, 0, nines))
    -- the first array before the second
    ∷ (lent lenses over over 65536 nines, (4, 0, nines))
    ∷ (lent lenses (1 ∷ 0 ∷ 0 ∷ 0 ∷ []) over 65536 nines, (5, 0, nines))
    ∷ (lent lenses no_tree over 65536 nines, (4, 0, nines))
    ∷ (lent lenses no_tree [] 65536 nines, (5, 0, nines))
    ∷ (lent lenses half half 65536 nines, (9, 0, noughts))
    ∷ (lent lenses (array_bytes many) (array_bytes many) 65536 nines, (8, 0, noughts))
    ∷ (lent lenses (array_bytes many) no_tree 65536 nines, (10, 0, noughts))
    -- accepted: the members of a class are those of the first array and then those of the second
    ∷ (
      lent lenses (array_bytes (⟨ 4 ⇒ # 1 ∷ [] ⨾ 5 ⇒ # 7 ∷ [] ⨾ bare ⟩ ∷ [])) (array_bytes (⟨ 4 ⇒ # 2 ∷ [] ⨾ bare ⟩ ∷ ⟨ 4 ⇒ # 1 ∷ [] ⨾ 5 ⇒ # 8 ∷ [] ⨾ bare ⟩ ∷ [])) 65536 (replicate 92 9),
      (0, 92, array_bytes (⟨ 4 ⇒ # 1 ∷ [] ⨾ 5 ⇒ # 7 ∷ # 8 ∷ [] ⨾ bare ⟩ ∷ ⟨ 4 ⇒ # 2 ∷ [] ⨾ bare ⟩ ∷ [])),
    )
    -- an aggregate that is absent in one tray and empty in the other is present; a group of no pairs is such a group
    ∷ (
      lent lenses (array_bytes (⟨ 4 ⇒ [] ⨾ bare ⟩ ∷ [])) (array_bytes (⟨ 4 ⇒ [] ⨾ 5 ⇒ [] ⨾ bare ⟩ ∷ [])) 65536 (replicate 23 9),
      (0, 23, array_bytes (⟨ 4 ⇒ [] ⨾ 5 ⇒ [] ⨾ bare ⟩ ∷ [])),
    )
    ∷ (lent (query_bytes (group [] [] ∷ [])) (array_bytes many) (array_bytes many) 65536 (replicate 9 9), (0, 9, array_bytes (bare_void ∷ [])))
    ∷ []

pub regroup_rows_hold : AllRegroup regroup_rows
unfolding regroup_told
regroup_rows_hold = (refl, (refl, (refl, (refl, (refl, (refl, (refl, (refl, (refl, (refl, (refl, (refl, (refl, (refl, (refl, (refl, (refl, (refl, tt))))))))))))))))))

-- ---- the call that traces a message: what is told of a message and a result area, and what is expected
unfoldable abbrev pub tracer_told : List ℕ → List ℕ → ℕ × ℕ × List ℕ
unfolding told becomes asking tracer_verdict
tracer_told m area = let x = tracer_verdict m (length area) in (number_in x, length_in x, result_after area x)

abbrev TracerRow : Type 0
TracerRow = List ℕ × List ℕ × (ℕ × ℕ × List ℕ)

abbrev AllTraced : List TracerRow → Type 0
AllTraced [] = Unit {0}
AllTraced (r ∷ rs) = (tracer_told r.0 r.1 ≡ r.2) × AllTraced rs

abbrev bare_array : List ℕ
bare_array = 1 ∷ 0 ∷ 6 ∷ 2 ∷ 0 ∷ 3 ∷ 3 ∷ 0 ∷ 0 ∷ []

-- DO=1, with its end and without
abbrev whole : List ℕ
whole = 68 ∷ 79 ∷ 61 ∷ 49 ∷ 13 ∷ 10 ∷ []

abbrev unended : List ℕ
unended = 68 ∷ 79 ∷ 61 ∷ 49 ∷ []

abbrev tracer_rows : List TracerRow
tracer_rows =
    -- the empty message: an area just long enough, one that is longer, and one that is too short
    ([], replicate 9 9, (0, 9, bare_array))
    ∷ ([], replicate 12 9, (0, 9, bare_array ++ replicate 3 9))
    ∷ ([], replicate 8 9, (10, 0, replicate 8 0))
    ∷ ([], [], (10, 0, []))
    -- a message with one integer, and an area of one byte less than its array has
    ∷ (whole, replicate 29 9, (10, 0, replicate 29 0))
    -- out of form, or a name twice: 13 goes before 10, and the area is as it was
    ∷ (unended, replicate 8 9, (13, 0, replicate 8 9))
    ∷ (whole ++ whole, replicate 8 9, (13, 0, replicate 8 9))
    ∷ (unended, replicate 40 9, (13, 0, replicate 40 9))
    ∷ []

pub tracer_rows_hold : AllTraced tracer_rows
unfolding tracer_told
tracer_rows_hold = (refl, (refl, (refl, (refl, (refl, (refl, (refl, (refl, tt))))))))

-- ---- at the limits: the input's number
abbrev texts : ℕ → Tree
texts n = node (text (replicate n 7)) bare

abbrev numbered : List Tree → ℕ
numbered ts = (told (lent no_stage (array_bytes ts) no_tree 65536 (replicate 16384 0)) enough).0

-- label 1 over 338 bare voids and a text: a tree of 2,048 bytes, and one byte more
pub tree_limit : (numbered (⟨ 1 ⇒ replicate 338 bare_void ++ texts 1 ∷ [] ⨾ bare ⟩ ∷ []) ≡ 0) × (numbered (⟨ 1 ⇒ replicate 338 bare_void ++ texts 2 ∷ [] ⨾ bare ⟩ ∷ []) ≡ 5)
unfolding told
tree_limit = (refl, refl)

-- 2,729 bare voids and a text: an array of 16,384 bytes, and one byte more
pub array_limit : (numbered (replicate 2729 bare_void ++ texts 1 ∷ []) ≡ 0) × (numbered (replicate 2729 bare_void ++ texts 2 ∷ []) ≡ 4)
unfolding told
array_limit = (refl, refl)

-- ---- the program: the document's example; nothing on standard input is refused as a query
pub program_example : program (16 ∷ 0 ∷ 0 ∷ 1 ∷ 0 ∷ 0 ∷ 1 ∷ 0 ∷ 0 ∷ []) ≡ 48 ∷ 49 ∷ 48 ∷ 48 ∷ 48 ∷ 48 ∷ 10 ∷ []
unfolding told
program_example = refl

pub program_empty : program [] ≡ 114 ∷ 101 ∷ 102 ∷ 117 ∷ 115 ∷ 101 ∷ 100 ∷ 32 ∷ 51 ∷ 10 ∷ []
unfolding told
program_empty = refl
