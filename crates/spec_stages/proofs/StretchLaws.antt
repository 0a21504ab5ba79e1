-- A list of stages is its first stretch and the rest; a stretch goes tree by tree.
use Rattle.std.specs.Prelude.{◌≡◌, refl, List, [], ◌∷◌, ◌++◌, Bool, true, false, cond, ℕ, ◌≤◌, length, leb}
use Rattle.std.proofs.Common.{sym, ap, subst, ◌∙◌, arith, length-append}
use Rattle.std.proofs.Math.Option.{Option, none, some}
use Rattle.spec_trees.specs.Limits.{array_max}
use Rattle.spec_trees.specs.Lists.{All}
use Rattle.spec_trees.specs.ListLaws.{All-right}
use Rattle.spec_trees.specs.Tree.{Tree}
use Rattle.spec_trees.specs.Size.{array_size}
use Rattle.spec_trees.specs.Options.{maybe}
use Rattle.spec_trees.specs.OptionLaws.{leb_yes}
use Rattle.spec_queries.specs.Query.{Pair, Stage, match, unwind, project, group, lookup}
use Rattle.spec_queries.specs.Rules.{OkS}
use Rattle.spec_stages.specs.Group.{grouped, totals_fit}
use Rattle.spec_stages.specs.Stages.{is_group, performed, leaving, after, Halt, too_long, overflow, State, going, large, halted, entering, step, stages}
use Rattle.spec_stages.specs.Join.{in_turn, GroupFree}
use Rattle.spec_stages.proofs.JoinLaws.{step_going, stages_each, stages_append}
use Rattle.spec_stages.specs.Stretch.{before, behind, stretches, decided}

pub before_behind : (ss : List Stage) → before ss ++ behind ss ≡ ss
unfolding before behind
before_behind [] = refl
before_behind (s ∷ ss) = go (is_group s) (before_behind ss)
  where
    go : (c : Bool) → before ss ++ behind ss ≡ ss → cond c [] (s ∷ before ss) ++ cond c (s ∷ ss) (behind ss) ≡ s ∷ ss
    go true e = refl
    go false e = ap (λ y. s ∷ y) e

pub before_free : (ss : List Stage) → GroupFree (before ss)
unfolding before
before_free [] = tt
before_free (s ∷ ss) = go (is_group s) refl (before_free ss)
  where
    go : (c : Bool) → is_group s ≡ c → GroupFree (before ss) → GroupFree (cond c [] (s ∷ before ss))
    go true e g = tt
    go false e g = (e, g)

pub before_next : (s : Stage) (ss : List Stage) → is_group s ≡ false → before (s ∷ ss) ≡ s ∷ before ss
unfolding before
before_next s ss h = ap (λ c. cond c [] (s ∷ before ss)) h

pub before_group : (s : Stage) (ss : List Stage) → is_group s ≡ true → before (s ∷ ss) ≡ []
unfolding before
before_group s ss h = ap (λ c. cond c [] (s ∷ before ss)) h

pub before_none : before [] ≡ []
unfolding before
before_none = refl

-- the plain run is that of the stretch, and then of the rest
pub stretch : (us : List Tree) (ss : List Stage) (x : State) → stages us ss x ≡ stages us (behind ss) (stages us (before ss) x)
stretch us ss x = ap (λ y. stages us y x) (sym (before_behind ss)) ∙ stages_append us (before ss) (behind ss) x

pub stages_none : (us : List Tree) (ss : List Stage) → GroupFree ss → stages us ss (going []) ≡ going []
unfolding in_turn
stages_none us ss g = stages_each us ss g []

pub stages_large : (us : List Tree) (ss : List Stage) → stages us ss large ≡ large
unfolding stages step
stages_large us [] = refl
stages_large us (s ∷ ss) = stages_large us ss

-- ---- both parts are no longer than the whole, and of the same stages
pub shorter : (ss : List Stage) → (length (before ss) ≤ length ss) × (length (behind ss) ≤ length ss)
shorter ss =
    let a = length-append (before ss) (behind ss) in
    let b : length (before ss ++ behind ss) ≡ length ss = ap length (before_behind ss) in
    (omega arith, omega arith)

pub before_short : (ss : List Stage) → length (before ss) ≤ length ss
before_short ss = (shorter ss).0

pub behind_ok : (ss : List Stage) → All OkS ss → All OkS (behind ss)
behind_ok ss h = All-right OkS (before ss) (behind ss) (subst (All OkS) (sym (before_behind ss)) h)

pub stages_halted : (us : List Tree) (ss : List Stage) (h : Halt) → stages us ss (halted h) ≡ halted h
unfolding stages step
stages_halted us [] h = refl
stages_halted us (s ∷ ss) h = stages_halted us ss h

-- ---- the first stretch with a fault decides, and in it 8 goes before 9, and 12 before 8
after_not_halted : (x : Option (List Tree)) (k : Halt) → after x ≡ halted k → ⊥
unfolding after
after_not_halted none k e = let y : ◌≡◌ {A = ℕ} 0 1 = cc in omega arith
after_not_halted (some us) k e = let y : ◌≡◌ {A = ℕ} 0 1 = cc in omega arith

-- inside a stretch, where no array enters a group, no run halts: no array is too long, however many trees there are
-- between its stages
pub stretch_not_halted : (us : List Tree) (ss : List Stage) → GroupFree ss → (k : Halt) (x : State) → (x ≡ halted k → ⊥) → stages us ss x ≡ halted k → ⊥
unfolding stages step
stretch_not_halted us [] g k x h e = h e
stretch_not_halted us (s ∷ ss) g k large h e = stretch_not_halted us ss g.1 k large h e
stretch_not_halted us (s ∷ ss) g k (halted i) h e = h (sym (stages_halted us ss i) ∙ e)
stretch_not_halted us (s ∷ ss) g k (going ts) h e =
    stretch_not_halted us ss g.1 k (step us s (going ts)) (λ z. after_not_halted (leaving (performed us s ts)) k (sym (step_going us s ts g.0) ∙ z)) e

-- a total of the group that opens a stretch does not fit: so the stretch ends, whatever its trees would be
pub overflow_first : (us : List Tree) (ag gs : List Pair) (ss : List Stage) (ts : List Tree) → array_size ts ≤ array_max → totals_fit ag (grouped gs ts) ≡ false
    → stages us (group ag gs ∷ ss) (going ts) ≡ halted overflow
unfolding stages step entering maybe
overflow_first us ag gs ss ts b f = rw (leb_yes (array_size ts) array_max b, f) (stages_halted us ss overflow)

decided_large : (us : List Tree) (rs : List (List Stage)) → decided us rs large ≡ large
unfolding decided
decided_large us [] = refl
decided_large us (r ∷ rs) = refl

decided_halted : (us : List Tree) (rs : List (List Stage)) (h : Halt) → decided us rs (halted h) ≡ halted h
unfolding decided
decided_halted us [] h = refl
decided_halted us (r ∷ rs) h = refl

-- an array that is too long
entering_long : (s : Stage) (ts : List Tree) → is_group s ≡ true → leb (array_size ts) array_max ≡ false → entering s ts ≡ some too_long
unfolding entering is_group
entering_long (match c) ts g e = let z : ◌≡◌ {A = ℕ} 0 1 = cc in absurd (omega arith)
entering_long (unwind p) ts g e = let z : ◌≡◌ {A = ℕ} 0 1 = cc in absurd (omega arith)
entering_long (project is) ts g e = let z : ◌≡◌ {A = ℕ} 0 1 = cc in absurd (omega arith)
entering_long (group ag gs) ts g e = rw e refl
entering_long (lookup q r p) ts g e = let z : ◌≡◌ {A = ℕ} 0 1 = cc in absurd (omega arith)

-- a group, and what follows it: its array's length is tested before it
decided_group : (us : List Tree) (s : Stage) → is_group s ≡ true → (f : List Stage) (rs : List (List Stage)) (x : State)
    → decided us rs (stages us f (step us s x)) ≡ decided us ((s ∷ f) ∷ rs) x
unfolding decided stages step maybe
decided_group us s g f rs large = ap (decided us rs) (stages_large us f) ∙ decided_large us rs
decided_group us s g f rs (halted h) = ap (decided us rs) (stages_halted us f h) ∙ decided_halted us rs h
decided_group us s g f rs (going ts) = go (leb (array_size ts) array_max) refl
  where
    entered : State
    entered = decided us rs (stages us f (maybe (after (leaving (performed us s ts))) halted (entering s ts)))

    go : (c : Bool) → leb (array_size ts) array_max ≡ c → entered ≡ cond (leb (array_size ts) array_max) entered (halted too_long)
    go true e = ap (λ c. cond c entered (halted too_long)) (sym e)
    go false e =
        ap (λ h. decided us rs (stages us f (maybe (after (leaving (performed us s ts))) halted h))) (entering_long s ts g e)
        ∙ ap (decided us rs) (stages_halted us f too_long) ∙ decided_halted us rs too_long ∙ ap (λ c. cond c entered (halted too_long)) (sym e)

-- the theorem: the plain run's stages come to what the stretches decide, one after another
pub stretch_decides : (us : List Tree) (ss : List Stage) (x : State) → stages us ss x ≡ decided us (stretches ss).1 (stages us (stretches ss).0 x)
unfolding stages stretches decided
stretch_decides us [] x = refl
stretch_decides us (s ∷ ss) x = stretch_decides us ss (step us s x) ∙ go (is_group s) refl
  where
    f : List Stage
    f = (stretches ss).0

    rs : List (List Stage)
    rs = (stretches ss).1

    parted : Bool → List Stage × List (List Stage)
    parted c = cond c ([], (s ∷ f) ∷ rs) (s ∷ f, rs)

    go : (c : Bool) → is_group s ≡ c → decided us rs (stages us f (step us s x)) ≡ decided us (parted (is_group s)).1 (stages us (parted (is_group s)).0 x)
    go true e = decided_group us s e f rs x ∙ ap (λ c. decided us (parted c).1 (stages us (parted c).0 x)) (sym e)
    go false e = ap (λ c. decided us (parted c).1 (stages us (parted c).0 x)) (sym e)
