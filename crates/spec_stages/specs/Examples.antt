-- Document 01's examples P1 to P9, and its habits that give false lists, computed from the definitions.
use Rattle.std.specs.Prelude.{◌≡◌, refl, List, [], ◌∷◌, map, Bool, true, false, ℕ, ℤ, pos, neg_ℤ, length, replicate}
use Rattle.std.proofs.Math.Bool.{decide}
use Rattle.std.proofs.Math.Option.{some}
use Rattle.spec_trees.specs.Tree.{Tree, node, integer, bare, bare_void}
use Rattle.spec_trees.specs.Size.{array_size}
use Rattle.spec_trees.specs.Bytes.{array_bytes}
use Rattle.spec_trees.specs.Examples.{int, #, ⟨◌⟩, ◌⇒◌⨾◌, decoded}
use Rattle.spec_queries.specs.Query.{exists, equal, pair_of, Stage, unwind, group, lookup}
use Rattle.spec_queries.specs.Examples.{admitted}
use Rattle.spec_stages.specs.Paths.{present, join, joins, over, reached, apply}
use Rattle.spec_stages.specs.DecisionLaws.{int?, bytes?, trees?, array?, given?}
use Rattle.spec_stages.specs.Equality.{same_given}
use Rattle.spec_stages.specs.Criteria.{holds}
use Rattle.spec_stages.specs.Data.{nearest, reduced_int, reduced_root, reduced_tree, value}
use Rattle.spec_stages.specs.Merge.{merge_root, merge, build}
use Rattle.spec_stages.specs.Unwind.{holding, unwound}
use Rattle.spec_stages.specs.Project.{kept, place_at, placed, item, projected}
use Rattle.spec_stages.specs.Sums.{added}
use Rattle.spec_stages.specs.Totals.{root_integers, tree_integers, given_integers, sum_of, total, fits_signed, total_given}
use Rattle.spec_stages.specs.Group.{key, same_key, alike, sum, having, classes, upto, grouped, aggregate, aggregated, total_fits, totals_fit, identified, sourced, class_tree}
use Rattle.spec_stages.specs.Lookup.{matches, partners, looked}
use Rattle.spec_stages.specs.Stages.{performed, leaving, is_group, State, going, large, entering, after, step, stages}

-- under this name all definitions of the crate and of those below compute: joined trees, stages, input trees
unfoldable abbrev pub ran : List Tree → List Stage → List Tree → State
unfolding decoded admitted present join joins over reached apply int? bytes? trees? array? given? same_given decide holds nearest reduced_int reduced_root reduced_tree value merge_root merge build holding unwound kept place_at placed item projected key same_key alike sum having classes upto added root_integers tree_integers given_integers sum_of total fits_signed total_given grouped aggregate aggregated total_fits totals_fit identified sourced class_tree matches partners looked performed leaving is_group entering after step stages
ran joined ss ts = stages joined ss (going ts)

-- what an example gives
pub data Value : Type 0 where
  flag : Bool → Value
  array : List Tree → Value
  state : State → Value
  count : ℕ → Value

-- what a definition gives, and what the document says
abbrev pub Row : Type 0
Row = Value × Value

abbrev reduced_10 : ℤ → Value
reduced_10 z = array (map (reduced_tree 10) (int z ∷ []))

abbrev pub table : List Row
table =
    -- P1: v{1:[]}: exists 1 and exists 1.2 hold; exists 2 doesn't
    (flag (holds (exists (1 ∷ [])) ⟨ 1 ⇒ [] ⨾ bare ⟩), flag true)
    ∷ (flag (holds (exists (1 ∷ 2 ∷ [])) ⟨ 1 ⇒ [] ⨾ bare ⟩), flag true)
    ∷ (flag (holds (exists (2 ∷ [])) ⟨ 1 ⇒ [] ⨾ bare ⟩), flag false)
    -- P2: unwind 1 of [v{1:[5,6]}, v{2:[9]}, v{1:[]}]: [v{1:[5]}, v{1:[6]}]
    ∷ (
      state (ran [] (unwind (1 ∷ []) ∷ []) (⟨ 1 ⇒ # 5 ∷ # 6 ∷ [] ⨾ bare ⟩ ∷ ⟨ 2 ⇒ # 9 ∷ [] ⨾ bare ⟩ ∷ ⟨ 1 ⇒ [] ⨾ bare ⟩ ∷ [])),
      state (going (⟨ 1 ⇒ # 5 ∷ [] ⨾ bare ⟩ ∷ ⟨ 1 ⇒ # 6 ∷ [] ⨾ bare ⟩ ∷ [])),
    )
    -- P3: unwind 1.2 of [v{1:[v{2:[5,6]}, v{2:[7]}]}]: v{1:[v{2:[5]}]}, then with 6, then 7
    ∷ (
      state (ran [] (unwind (1 ∷ 2 ∷ []) ∷ []) (⟨ 1 ⇒ ⟨ 2 ⇒ # 5 ∷ # 6 ∷ [] ⨾ bare ⟩ ∷ ⟨ 2 ⇒ # 7 ∷ [] ⨾ bare ⟩ ∷ [] ⨾ bare ⟩ ∷ [])),
      state (going (⟨ 1 ⇒ ⟨ 2 ⇒ # 5 ∷ [] ⨾ bare ⟩ ∷ [] ⨾ bare ⟩ ∷ ⟨ 1 ⇒ ⟨ 2 ⇒ # 6 ∷ [] ⨾ bare ⟩ ∷ [] ⨾ bare ⟩ ∷ ⟨ 1 ⇒ ⟨ 2 ⇒ # 7 ∷ [] ⨾ bare ⟩ ∷ [] ⨾ bare ⟩ ∷ [])),
    )
    -- P4: 3{1:[4,5]} merged with v{1:[6], 2:[7]}: 3{1:[6,5], 2:[7]}
    ∷ (
      array (merge (node (integer (pos 3)) (1 ⇒ # 4 ∷ # 5 ∷ [] ⨾ bare)) ⟨ 1 ⇒ # 6 ∷ [] ⨾ 2 ⇒ # 7 ∷ [] ⨾ bare ⟩ ∷ []),
      array (node (integer (pos 3)) (1 ⇒ # 6 ∷ # 5 ∷ [] ⨾ 2 ⇒ # 7 ∷ [] ⨾ bare) ∷ []),
    )
    -- P5: place [1] at 4.5: v{4:[v{5:[1]}]}
    ∷ (array (placed (4 ∷ 5 ∷ []) (some (# 1 ∷ [])) ∷ []), array (⟨ 4 ⇒ ⟨ 5 ⇒ # 1 ∷ [] ⨾ bare ⟩ ∷ [] ⨾ bare ⟩ ∷ []))
    -- P6: group, aggregate 2 to 2, grouping 1 to 1, of [v{1:[1],2:[10]}, v{2:[11]}, v{1:[1],2:[12]}]: [v{2:[11]},
    -- v{1:[1],2:[10,12]}]
    ∷ (
      state (ran [] (group (pair_of (2 ∷ []) (2 ∷ []) ∷ []) (pair_of (1 ∷ []) (1 ∷ []) ∷ []) ∷ [])
          (⟨ 1 ⇒ # 1 ∷ [] ⨾ 2 ⇒ # 10 ∷ [] ⨾ bare ⟩ ∷ ⟨ 2 ⇒ # 11 ∷ [] ⨾ bare ⟩ ∷ ⟨ 1 ⇒ # 1 ∷ [] ⨾ 2 ⇒ # 12 ∷ [] ⨾ bare ⟩ ∷ [])),
      state (going (⟨ 2 ⇒ # 11 ∷ [] ⨾ bare ⟩ ∷ ⟨ 1 ⇒ # 1 ∷ [] ⨾ 2 ⇒ # 10 ∷ # 12 ∷ [] ⨾ bare ⟩ ∷ [])),
    )
    -- P7: lookup 1, 1, 3 of [v{1:[1]}, v{2:[2]}] with [v{1:[1],4:[8]}, v{4:[9]}]: [v{1:[1],3:[v{1:[1],4:[8]}]},
    -- v{2:[2],3:[v{4:[9]}]}]
    ∷ (
      state (ran (⟨ 1 ⇒ # 1 ∷ [] ⨾ 4 ⇒ # 8 ∷ [] ⨾ bare ⟩ ∷ ⟨ 4 ⇒ # 9 ∷ [] ⨾ bare ⟩ ∷ []) (lookup (1 ∷ []) (1 ∷ []) (3 ∷ []) ∷ [])
          (⟨ 1 ⇒ # 1 ∷ [] ⨾ bare ⟩ ∷ ⟨ 2 ⇒ # 2 ∷ [] ⨾ bare ⟩ ∷ [])),
      state (going (⟨ 1 ⇒ # 1 ∷ [] ⨾ 3 ⇒ ⟨ 1 ⇒ # 1 ∷ [] ⨾ 4 ⇒ # 8 ∷ [] ⨾ bare ⟩ ∷ [] ⨾ bare ⟩ ∷ ⟨ 2 ⇒ # 2 ∷ [] ⨾ 3 ⇒ ⟨ 4 ⇒ # 9 ∷ [] ⨾ bare ⟩ ∷ [] ⨾ bare ⟩ ∷ [])),
    )
    -- P8: reduced by 10: 25 to 3, 24 to 2, -25 to -3, -24 to -2
    ∷ (reduced_10 (pos 25), array (# 3 ∷ []))
    ∷ (reduced_10 (pos 24), array (# 2 ∷ []))
    ∷ (reduced_10 (neg_ℤ (pos 25)), array (int (neg_ℤ (pos 3)) ∷ []))
    ∷ (reduced_10 (neg_ℤ (pos 24)), array (int (neg_ℤ (pos 2)) ∷ []))
    -- P9: [v{1:[7]}] is 30 bytes
    ∷ (count (array_size (⟨ 1 ⇒ # 7 ∷ [] ⨾ bare ⟩ ∷ [])), count 30)
    ∷ (count (length (array_bytes (⟨ 1 ⇒ # 7 ∷ [] ⨾ bare ⟩ ∷ []))), count 30)
    ∷ []

pub examples : map (λ r. r.0) table ≡ map (λ r. r.1) table
unfolding ran
examples = refl

-- ---- habits that give false lists
-- a stretch that makes an array of over 16,384 bytes, whose last tree then gets too large, and a group
abbrev voids : ℕ → List Tree
voids n = replicate n bare_void

abbrev late : State
late =
    ran (⟨ 1 ⇒ # 7 ∷ [] ⨾ 2 ⇒ voids 300 ⨾ bare ⟩ ∷ [])
    (unwind (1 ∷ []) ∷ lookup (1 ∷ []) (1 ∷ []) (3 ∷ []) ∷ group [] [] ∷ [])
    (⟨ 1 ⇒ voids 100 ⨾ 2 ⇒ voids 30 ⨾ bare ⟩ ∷ ⟨ 1 ⇒ # 7 ∷ [] ⨾ 5 ⇒ voids 50 ⨾ bare ⟩ ∷ [])

abbrev pub false_lists : List Row
false_lists =
    -- taking an empty array for a missing label
    (flag (holds (equal (1 ∷ []) []) ⟨ 1 ⇒ [] ⨾ bare ⟩), flag true)
    ∷ (flag (holds (equal (1 ∷ []) []) bare_void), flag false)
    -- comparing arrays as sets
    ∷ (flag (holds (equal (1 ∷ []) (# 5 ∷ # 6 ∷ [])) ⟨ 1 ⇒ # 6 ∷ # 5 ∷ [] ⨾ bare ⟩), flag false)
    ∷ (flag (holds (equal (1 ∷ []) (# 5 ∷ [])) ⟨ 1 ⇒ # 5 ∷ # 5 ∷ [] ⨾ bare ⟩), flag false)
    -- ordering groups by value
    ∷ (
      state (ran [] (group [] (pair_of (1 ∷ []) (1 ∷ []) ∷ []) ∷ []) (⟨ 1 ⇒ # 2 ∷ [] ⨾ bare ⟩ ∷ ⟨ 1 ⇒ # 1 ∷ [] ⨾ bare ⟩ ∷ [])),
      state (going (⟨ 1 ⇒ # 2 ∷ [] ⨾ bare ⟩ ∷ ⟨ 1 ⇒ # 1 ∷ [] ⨾ bare ⟩ ∷ [])),
    )
    -- giving 9 before the stretch is done, where a later tree gives 8
    ∷ (state late, state large)
    -- keeping trees that lack the unwound label
    ∷ (state (ran [] (unwind (1 ∷ []) ∷ []) (bare_void ∷ [])), state (going []))
    -- adding half the divisor to a negative
    ∷ (reduced_10 (neg_ℤ (pos 26)), array (int (neg_ℤ (pos 3)) ∷ []))
    ∷ []

pub no_false_list : map (λ r. r.0) false_lists ≡ map (λ r. r.1) false_lists
unfolding ran
no_false_list = refl
