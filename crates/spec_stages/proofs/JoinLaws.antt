-- Stages other than group go tree by tree: over a joined list they give what they give over the parts, joined.
use Rattle.std.specs.Prelude.{◌≡◌, refl, List, [], ◌∷◌, ◌++◌, Bool, true, false, cond, ◌&&◌, ℕ}
use Rattle.std.proofs.Common.{ap, ◌∙◌, arith}
use Rattle.std.proofs.Math.Option.{Option, none, some, map}
use Rattle.spec_trees.specs.Options.{◌>>=◌, maybe}
use Rattle.spec_trees.specs.Lists.{filter, all, gather, each}
use Rattle.spec_trees.specs.FilterLaws.{filter_append, all_append, gather_append}
use Rattle.spec_trees.specs.Tree.{Tree}
use Rattle.spec_trees.specs.Size.{fits}
use Rattle.spec_queries.specs.Query.{Stage, match, unwind, project, group, lookup}
use Rattle.spec_stages.specs.Criteria.{holds}
use Rattle.spec_stages.specs.Unwind.{unwound}
use Rattle.spec_stages.specs.Project.{projected}
use Rattle.spec_stages.specs.Lookup.{looked}
use Rattle.spec_stages.specs.Stages.{performed, leaving, is_group, State, going, large, halted, entering, after, step, stages}
use Rattle.spec_stages.specs.Join.{beside, in_turn, GroupFree}

-- ---- lists
-- both, or nothing
together : {A : Type 0} → Option (List A) → Option (List A) → Option (List A)
together none y = none
together (some a) none = none
together (some a) (some b) = some (a ++ b)

each_append : {A B : Type 0} (f : A → Option B) (a b : List A) → each f (a ++ b) ≡ together (each f a) (each f b)
unfolding each together ◌>>=◌
each_append f [] b = go (each f b)
  where
    go : {B : Type 0} (x : Option (List B)) → x ≡ together (some []) x
    go none = refl
    go (some b) = refl
each_append f (x ∷ a) b = rw (each_append f a b) (go (f x) (each f a) (each f b))
  where
    go : {B : Type 0} (x : Option B) (y z : Option (List B))
        → (x >>= λ y'. map (λ ys. y' ∷ ys) (together y z)) ≡ together (x >>= λ y'. map (λ ys. y' ∷ ys) y) z
    go none y z = refl
    go (some x) none z = refl
    go (some x) (some y) none = refl
    go (some x) (some y) (some z) = refl

-- ---- one stage
outcome_append : (us : List Tree) (s : Stage) (a b : List Tree) → is_group s ≡ false → performed us s (a ++ b) ≡ together (performed us s a) (performed us s b)
unfolding performed together is_group
outcome_append us (match c) a b h = ap some (filter_append (holds c) a b)
outcome_append us (unwind p) a b h = ap some (gather_append (unwound p) a b)
outcome_append us (project is) a b h = each_append (projected is) a b
outcome_append us (group ag gs) a b h = let z : ◌≡◌ {A = ℕ} 0 1 = cc in absurd (omega arith)
outcome_append us (lookup q r p) a b h = each_append (looked q r p us) a b

leaving_append : (x y : Option (List Tree)) → leaving (together x y) ≡ together (leaving x) (leaving y)
unfolding leaving together
leaving_append none y = refl
leaving_append (some a) none = go (all fits a)
  where
    go : (c : Bool) → none ≡ together (cond c (some a) none) none
    go true = refl
    go false = refl
leaving_append (some a) (some b) = rw (all_append fits a b) (go (all fits a) (all fits b))
  where
    go : (c d : Bool) → cond (c && d) (some (a ++ b)) none ≡ together (cond c (some a) none) (cond d (some b) none)
    go true true = refl
    go true false = refl
    go false d = refl

after_append : (x y : Option (List Tree)) → after (together x y) ≡ beside (after x) (after y)
unfolding after together beside
after_append none y = refl
after_append (some a) none = refl
after_append (some a) (some b) = refl

-- only at a group does a run halt
pub entering_none : (s : Stage) (a : List Tree) → is_group s ≡ false → entering s a ≡ none
unfolding entering is_group
entering_none (match c) a h = refl
entering_none (unwind p) a h = refl
entering_none (project is) a h = refl
entering_none (group ag gs) a h = let z : ◌≡◌ {A = ℕ} 0 1 = cc in absurd (omega arith)
entering_none (lookup q r p) a h = refl

abbrev NotHalted : State → Type 0
NotHalted (going a) = Unit {0}
NotHalted large = Unit {0}
NotHalted (halted h) = ⊥

pub step_going : (us : List Tree) (s : Stage) (a : List Tree) → is_group s ≡ false → step us s (going a) ≡ after (leaving (performed us s a))
unfolding step maybe
step_going us s a h = rw (entering_none s a h) refl

after_not_halted : (x : Option (List Tree)) → NotHalted (after x)
unfolding after
after_not_halted none = tt
after_not_halted (some a) = tt

step_not_halted : (us : List Tree) (s : Stage) (x : State) → is_group s ≡ false → NotHalted x → NotHalted (step us s x)
unfolding step
step_not_halted us s (going a) h p = rw (step_going us s a h) (after_not_halted (leaving (performed us s a)))
step_not_halted us s large h p = tt
step_not_halted us s (halted k) h p = absurd p

after_large : (x : Option (List Tree)) → large ≡ beside (after x) large
unfolding after beside
after_large none = refl
after_large (some a) = refl

step_beside : (us : List Tree) (s : Stage) (x y : State) → is_group s ≡ false → NotHalted x → NotHalted y → step us s (beside x y) ≡ beside (step us s x) (step us s y)
unfolding step beside
step_beside us s large y h p q = refl
step_beside us s (halted k) y h p q = absurd p
step_beside us s (going a) (halted k) h p q = absurd q
step_beside us s (going a) large h p q = rw (step_going us s a h) (after_large (leaving (performed us s a)))
step_beside us s (going a) (going b) h p q =
    rw (step_going us s (a ++ b) h, step_going us s a h, step_going us s b h, outcome_append us s a b h, leaving_append, after_append) refl

-- ---- a list of stages
stages_beside : (us : List Tree) (ss : List Stage) (x y : State) → GroupFree ss → NotHalted x → NotHalted y → stages us ss (beside x y) ≡ beside (stages us ss x) (stages us ss y)
unfolding stages
stages_beside us [] x y g p q = refl
stages_beside us (s ∷ ss) x y g p q =
    rw (step_beside us s x y g.0 p q)
    (stages_beside us ss (step us s x) (step us s y) g.1 (step_not_halted us s x g.0 p) (step_not_halted us s y g.0 q))

-- over a joined list, what the parts give, joined
pub stages_join : (us : List Tree) (ss : List Stage) (a b : List Tree) → GroupFree ss
    → stages us ss (going (a ++ b)) ≡ beside (stages us ss (going a)) (stages us ss (going b))
unfolding beside
stages_join us ss a b g = stages_beside us ss (going a) (going b) g tt tt

-- and over what f gives of each of two lists
pub each_join : {A : Type 0} (us : List Tree) (ss : List Stage) (f : A → Option Tree) (a b : List A) → GroupFree ss
    → stages us ss (after (each f (a ++ b))) ≡ beside (stages us ss (after (each f a))) (stages us ss (after (each f b)))
each_join us ss f a b g =
    ap (λ x. stages us ss (after x)) (each_append f a b) ∙ ap (stages us ss) (after_append (each f a) (each f b))
    ∙ stages_beside us ss (after (each f a)) (after (each f b)) g (after_not_halted (each f a)) (after_not_halted (each f b))

empty_step : (us : List Tree) (s : Stage) → is_group s ≡ false → step us s (going []) ≡ going []
unfolding step entering maybe is_group performed filter gather each leaving all after
empty_step us (match c) h = refl
empty_step us (unwind p) h = refl
empty_step us (project is) h = refl
empty_step us (group ag gs) h = let z : ◌≡◌ {A = ℕ} 0 1 = cc in absurd (omega arith)
empty_step us (lookup q r p) h = refl

stages_empty : (us : List Tree) (ss : List Stage) → GroupFree ss → stages us ss (going []) ≡ going []
unfolding stages
stages_empty us [] g = refl
stages_empty us (s ∷ ss) g = rw (empty_step us s g.0) (stages_empty us ss g.1)

-- so tree by tree
pub stages_each : (us : List Tree) (ss : List Stage) → GroupFree ss → (ts : List Tree) → stages us ss (going ts) ≡ in_turn (λ t. stages us ss (going (t ∷ []))) ts
unfolding in_turn
stages_each us ss g [] = stages_empty us ss g
stages_each us ss g (t ∷ ts) = stages_join us ss (t ∷ []) ts g ∙ ap (beside (stages us ss (going (t ∷ [])))) (stages_each us ss g ts)

-- stages one after another
pub stages_append : (us : List Tree) (a b : List Stage) (x : State) → stages us (a ++ b) x ≡ stages us b (stages us a x)
unfolding stages
stages_append us [] b x = refl
stages_append us (s ∷ a) b x = stages_append us a b (step us s x)
