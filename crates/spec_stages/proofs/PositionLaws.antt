-- Trees that bear positions go through the stages as trees do, and bear no other positions than those that went in.
use Rattle.std.specs.Prelude.{◌≡◌, refl, ℕ, suc, ◌+◌, ◌≤◌, ◌<◌}
use Rattle.std.proofs.Math.Path.{sym, ap, ap₂, fun_ext}
use Rattle.std.proofs.Common.{subst, ◌∙◌, arith}
use mathlib.Core.List.{List, [], ◌∷◌, ◌++◌}
use Rattle.std.proofs.Math.Option.{Option, some}
use Rattle.std.proofs.Math.ListN.{length, length-map}
use Rattle.spec_trees.specs.Options.{maybe}
use Rattle.spec_trees.specs.Lists.{All, gather, each}
use Rattle.spec_trees.specs.OptionLaws.{some_equal}
use Rattle.spec_trees.specs.ListLaws.{All-filter, All-map, All-gather, All-imply}
use Rattle.spec_trees.specs.FilterLaws.{gather_same, filter_map, map_gather, each_parts, gather_map}
use Rattle.spec_trees.specs.Tree.{Tree}
use Rattle.spec_queries.specs.Query.{Pair, Stage, match, unwind, project, group, lookup}
use Rattle.spec_stages.specs.Criteria.{holds}
use Rattle.spec_stages.specs.Unwind.{unwound}
use Rattle.spec_stages.specs.Project.{projected}
use Rattle.spec_stages.specs.Group.{alike, class_tree, grouped}
use Rattle.spec_stages.specs.Lookup.{looked}
use Rattle.spec_stages.specs.Stages.{performed, going, step, stages}
use Rattle.spec_stages.specs.Positions.{Borne, positions, unmarked, marked, numbered}
use Rattle.spec_stages.specs.Positions.{BorneClass, unmarked_class, borne_grouped, sole, onward, carry, carried, result_positions, origin, lines}
use Rattle.spec_stages.specs.GoingLaws.{step_accepted, stages_going}
use Rattle.spec_stages.proofs.FirstMemberLaws.{grouped_trees, Members, class_members, origin_first}

-- ---- positions given and forgotten
pub marked_trees : (n : ℕ) (ts : List Tree) → unmarked (marked n ts) ≡ ts
unfolding marked
marked_trees n [] = refl
marked_trees n (t ∷ ts) = ap (λ l. t ∷ l) (marked_trees n ts)

pub numbered_trees : (n : ℕ) (ts : List Tree) → unmarked (numbered n ts) ≡ ts
unfolding numbered
numbered_trees n [] = refl
numbered_trees n (t ∷ ts) = ap (λ l. t ∷ l) (numbered_trees (suc n) ts)

pub lines_borne : (bs : List Borne) → lines (positions bs) (unmarked bs) ≡ bs
unfolding lines
lines_borne [] = refl
lines_borne (b ∷ bs) = ap (λ l. b ∷ l) (lines_borne bs)

-- entries behind those of the trees have no part
pub lines_front : (ns rest : List ℕ) (ts : List Tree) → length ns ≡ length ts → lines (ns ++ rest) ts ≡ lines ns ts
unfolding lines
lines_front [] [] [] e = refl
lines_front [] (n ∷ rest) [] e = refl
lines_front [] rest (t ∷ ts) e = absurd (omega arith)
lines_front (n ∷ ns) rest [] e = refl
lines_front (n ∷ ns) rest (t ∷ ts) e = ap (λ l. record { position = n; tree = t } ∷ l) (lines_front ns rest ts (omega arith))

-- ---- what is carried, its positions forgotten, is what the stages give
module _ {A : Type 0} where
  gathered_trees : (n : A → ℕ) (f : A → List Tree) (xs : List A) → unmarked (gather (λ x. marked (n x) (f x)) xs) ≡ gather f xs
  gathered_trees n f xs = map_gather (λ b. b.tree) (λ x. marked (n x) (f x)) xs ∙ ap (λ g. gather g xs) (fun_ext (λ x. marked_trees (n x) (f x)))

  each_sole : (f : A → Option Tree) (xs : List A) {ts : List Tree} → each f xs ≡ some ts → gather (λ x. sole (f x)) xs ≡ ts
  unfolding each gather sole maybe
  each_sole f [] e = some_equal _ _ e
  each_sole f (x ∷ xs) e =
      let c = each_parts f x xs e in ap₂ ◌++◌ (ap sole c.first_is) (each_sole f xs c.others_are) ∙ c.all_are

onward_trees : (f : Tree → List Tree) (bs : List Borne) → unmarked (onward f bs) ≡ gather f (unmarked bs)
onward_trees f bs = gathered_trees (λ b. b.position) (λ b. f b.tree) bs ∙ sym (gather_map f (λ b. b.tree) bs)

carry_trees : (us : List Tree) (s : Stage) (bs : List Borne) {fs : List Tree} → performed us s (unmarked bs) ≡ some fs → unmarked (carry us s bs) ≡ fs
unfolding performed carry
carry_trees us (match c) bs e = sym (filter_map (holds c) (λ b. b.tree) bs) ∙ some_equal _ _ e
carry_trees us (unwind p) bs e = onward_trees (unwound p) bs ∙ some_equal _ _ e
carry_trees us (project is) bs e = onward_trees (λ t. sole (projected is t)) bs ∙ each_sole (projected is) (unmarked bs) e
carry_trees us (group ag gs) bs e =
    gathered_trees (λ c. c.0.position) (λ c. sole (class_tree ag gs (unmarked_class c))) (borne_grouped gs bs)
    ∙ sym (gather_map (λ c. sole (class_tree ag gs c)) unmarked_class (borne_grouped gs bs))
    ∙ ap (gather (λ c. sole (class_tree ag gs c))) (grouped_trees gs bs) ∙ each_sole (class_tree ag gs) (grouped gs (unmarked bs)) e
carry_trees us (lookup q r p) bs e = onward_trees (λ t. sole (looked q r p us t)) bs ∙ each_sole (looked q r p us) (unmarked bs) e

pub carried_trees : (us : List Tree) (ss : List Stage) (bs : List Borne) {fs : List Tree}
    → stages us ss (going (unmarked bs)) ≡ going fs → unmarked (carried us ss bs) ≡ fs
unfolding stages carried
carried_trees us [] bs e = cc
carried_trees us (s ∷ ss) bs e =
    let g = stages_going us ss (step us s (going (unmarked bs))) e in
    let c : unmarked (carry us s bs) ≡ g.0 = carry_trees us s bs (step_accepted us s (unmarked bs) g.1) in
    carried_trees us ss (carry us s bs) (ap (λ l. stages us ss (going l)) c ∙ sym (ap (stages us ss) g.1) ∙ e)

-- stages one after another
pub carried_then : (us : List Tree) (a b : List Stage) (bs : List Borne) → carried us (a ++ b) bs ≡ carried us b (carried us a bs)
unfolding carried
carried_then us [] b bs = refl
carried_then us (s ∷ a) b bs = carried_then us a b (carry us s bs)

-- ---- what holds of all positions that go in holds of all that come out
module _ (P : ℕ → Type 0) where
  abbrev pub Bear : List Borne → Type 0
  Bear bs = All (λ b. P b.position) bs

  pub marked_bear : (n : ℕ) (ts : List Tree) → P n → Bear (marked n ts)
  unfolding marked
  marked_bear n [] h = tt
  marked_bear n (t ∷ ts) h = (h, marked_bear n ts h)

  onward_bear : (f : Tree → List Tree) (bs : List Borne) → Bear bs → Bear (onward f bs)
  onward_bear f = All-gather (λ b. P b.position) (λ b. P b.position) _ (λ b. marked_bear b.position (f b.tree))

  -- a class's first tree is one of those that went in
  first_bears : (gs : List Pair) (bs : List Borne) → Bear bs → (c : BorneClass) → Members gs bs c → P c.0.position
  first_bears gs bs o c h = (subst Bear h (All-filter (λ b. P b.position) (λ b. alike gs c.0.tree b.tree) bs o)).0

  carry_bear : (us : List Tree) (s : Stage) (bs : List Borne) → Bear bs → Bear (carry us s bs)
  unfolding carry
  carry_bear us (match c) bs o = All-filter (λ b. P b.position) (λ b. holds c b.tree) bs o
  carry_bear us (unwind p) bs o = onward_bear (unwound p) bs o
  carry_bear us (project is) bs o = onward_bear (λ t. sole (projected is t)) bs o
  carry_bear us (group ag gs) bs o =
      All-gather (Members gs bs) (λ b. P b.position) _ (λ c h. marked_bear c.0.position _ (first_bears gs bs o c h)) (borne_grouped gs bs) (class_members gs bs)
  carry_bear us (lookup q r p) bs o = onward_bear (λ t. sole (looked q r p us t)) bs o

  pub carried_bear : (us : List Tree) (ss : List Stage) (bs : List Borne) → Bear bs → Bear (carried us ss bs)
  unfolding carried
  carried_bear us [] bs o = o
  carried_bear us (s ∷ ss) bs o = carried_bear us ss (carry us s bs) (carry_bear us s bs o)

  -- so it holds of the position of every class
  pub origin_bear : (gs : List Pair) (bs : List Borne) → Bear bs → All (λ c. P (origin gs c.0 bs)) (grouped gs (unmarked bs))
  origin_bear gs bs o =
      subst (All (λ c. P (origin gs c.0 bs))) (grouped_trees gs bs)
      (All-map (Members gs bs) (λ c. P (origin gs c.0 bs)) unmarked_class (λ c h. subst P (sym (origin_first gs c.0.tree bs h)) (first_bears gs bs o c h))
      (borne_grouped gs bs) (class_members gs bs))

-- where all that go in bear n, all that come out do
marked_again : (n : ℕ) (bs : List Borne) → Bear (λ i. i ≡ n) bs → bs ≡ marked n (unmarked bs)
unfolding marked
marked_again n [] o = refl
marked_again n (b ∷ bs) o = ap₂ ◌∷◌ (λ i. record { position = o.0 i; tree = b.tree }) (marked_again n bs o.1)

pub carried_marked : (us : List Tree) (ss : List Stage) (n : ℕ) (ts : List Tree) {fs : List Tree}
    → stages us ss (going ts) ≡ going fs → carried us ss (marked n ts) ≡ marked n fs
carried_marked us ss n ts e =
    marked_again n (carried us ss (marked n ts)) (carried_bear (λ i. i ≡ n) us ss (marked n ts) (marked_bear (λ i. i ≡ n) n ts refl))
    ∙ ap (marked n) (carried_trees us ss (marked n ts) (ap (λ l. stages us ss (going l)) (marked_trees n ts) ∙ e))

-- ---- group: every class's tree bears the position of the first tree that has its key
pub carry_group : (us : List Tree) (ag gs : List Pair) (bs : List Borne)
    → carry us (group ag gs) bs ≡ gather (λ c. marked (origin gs c.0 bs) (sole (class_tree ag gs c))) (grouped gs (unmarked bs))
unfolding carry
carry_group us ag gs bs =
    gather_same _ _ (borne_grouped gs bs)
    (All-imply (Members gs bs) _ (λ c h. ap (λ n. marked n (sole (class_tree ag gs (unmarked_class c)))) (sym (origin_first gs c.0.tree bs h)))
    (borne_grouped gs bs) (class_members gs bs))
    ∙ sym (gather_map (λ c. marked (origin gs c.0 bs) (sole (class_tree ag gs c))) unmarked_class (borne_grouped gs bs))
    ∙ ap (gather (λ c. marked (origin gs c.0 bs) (sole (class_tree ag gs c)))) (grouped_trees gs bs)

-- ---- the result of an input: as many positions as trees, which side by side are what the input is carried to
module _ (us : List Tree) (ss : List Stage) (ts : List Tree) {fs : List Tree} (e : stages us ss (going ts) ≡ going fs) where
  pub result_trees : unmarked (carried us ss (numbered 1 ts)) ≡ fs
  result_trees = carried_trees us ss (numbered 1 ts) (ap (λ l. stages us ss (going l)) (numbered_trees 1 ts) ∙ e)

  pub result_count : length (result_positions us ss ts) ≡ length fs
  unfolding result_positions
  result_count =
      length-map (carried us ss (numbered 1 ts)) (λ b. b.position) ∙ sym (length-map (carried us ss (numbered 1 ts)) (λ b. b.tree)) ∙ ap length result_trees

  pub result_lines : lines (result_positions us ss ts) fs ≡ carried us ss (numbered 1 ts)
  unfolding result_positions
  result_lines = ap (lines (result_positions us ss ts)) (sym result_trees) ∙ lines_borne (carried us ss (numbered 1 ts))

-- the positions lie between 1 and the count of input trees
numbered_within : (n : ℕ) (ts : List Tree) → Bear (λ i. (n ≤ i) × (i < n + length ts)) (numbered n ts)
unfolding numbered
numbered_within n [] = tt
numbered_within n (t ∷ ts) = (
  (omega arith, omega arith),
  All-imply _ _ (λ b h. (omega arith, omega arith)) (numbered (suc n) ts) (numbered_within (suc n) ts),
)

pub carried_within : (us : List Tree) (ss : List Stage) (ts : List Tree)
    → All (λ b. (1 ≤ b.position) × (b.position ≤ length ts)) (carried us ss (numbered 1 ts))
carried_within us ss ts = carried_bear (λ i. (1 ≤ i) × (i ≤ length ts)) us ss (numbered 1 ts)
    (All-imply _ _ (λ b h. (omega arith, omega arith)) (numbered 1 ts) (numbered_within 1 ts))

pub result_within : (us : List Tree) (ss : List Stage) (ts : List Tree) → All (λ i. (1 ≤ i) × (i ≤ length ts)) (result_positions us ss ts)
unfolding result_positions
result_within us ss ts =
    All-map (λ b. (1 ≤ b.position) × (b.position ≤ length ts)) (λ i. (1 ≤ i) × (i ≤ length ts)) (λ b. b.position) (λ b h. h) (carried us ss (numbered 1 ts))
    (carried_within us ss ts)
