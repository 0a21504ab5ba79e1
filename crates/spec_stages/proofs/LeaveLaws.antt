-- What leaves a stage needs no further test: what a project, a lookup or a group builds fits by the tests inside it.
use Rattle.std.specs.Prelude.{◌≡◌, refl, List, [], ◌∷◌, ◌++◌, map, Bool, true, false, cond, ℕ, ◌≤◌, ◌<◌}
use Rattle.std.proofs.Common.{ap, arith}
use Rattle.std.proofs.Math.Option
use Rattle.std.proofs.Math.Option.{Option, none, some}
use Rattle.spec_trees.specs.Limits.{depth_max, array_max}
use Rattle.spec_trees.specs.Options.{◌>>=◌, maybe}
use Rattle.spec_trees.specs.OptionLaws.{leb_yes, leb_no}
use Rattle.spec_trees.specs.Lists.{All, filter, all, each}
use Rattle.spec_trees.specs.ListLaws.{All-every}
use Rattle.spec_trees.specs.Tree.{Tree, bare_void}
use Rattle.spec_trees.specs.Size.{array_size, fits}
use Rattle.spec_trees.specs.Within.{Allowed, AllowedA}
use Rattle.spec_queries.specs.Query.{Path, Route, Item, Pair, group}
use Rattle.spec_stages.specs.Merge.{build}
use Rattle.spec_stages.specs.Project.{item, projected}
use Rattle.spec_stages.specs.Lookup.{looked}
use Rattle.spec_stages.specs.Group.{Class, aggregated, identified, sourced, class_tree, grouped, totals_fit}
use Rattle.spec_stages.specs.Stages.{too_long, overflow, going, halted, entering, performed, leaving, after, step}
use Rattle.spec_stages.proofs.StageLaws.{fits_of, build_fits, void_fits}

-- trees that fit leave as they are
pub each_fits : {A : Type 0} (P : A → Type 0) (f : A → Option Tree) → ((a : A) (y : Tree) → P a → f a ≡ some y → fits y ≡ true)
    → (cs : List A) → All P cs → leaving (each f cs) ≡ each f cs
unfolding each leaving all ◌>>=◌
each_fits P f h [] p = refl
each_fits {A} P f h (c ∷ cs) p = go (f c) (each f cs) (λ y e. h c y p.0 e) (each_fits P f h cs p.1)
  where
    go : (x : Option Tree) (y : Option (List Tree)) → ((t : Tree) → x ≡ some t → fits t ≡ true) → leaving y ≡ y
        → leaving (x >>= λ t. Option.map (λ ts. t ∷ ts) y) ≡ (x >>= λ t. Option.map (λ ts. t ∷ ts) y)
    go none y k e = refl
    go (some t) none k e = refl
    go (some t) (some ts) k e = rw (k t refl) (more (all fits ts) e)
      where
        more : (b : Bool) → cond b (some ts) none ≡ some ts → cond b (some (t ∷ ts)) none ≡ some (t ∷ ts)
        more true e = refl
        more false e = let z : ◌≡◌ {A = ℕ} 0 1 = cc in absurd (omega arith)

-- what is built from the bare void tree fits
made_fits : {A : Type 0} (f : A → List Tree) (cs : List A) → leaving (each (λ c. build bare_void (f c)) cs) ≡ each (λ c. build bare_void (f c)) cs
made_fits f cs = each_fits (λ c. Unit {0}) (λ c. build bare_void (f c)) (λ c y p e. build_fits bare_void (f c) void_fits e) cs (All-every (λ c. tt) cs)

pub projected_leave : (is : List Item) (ts : List Tree) → leaving (each (projected is) ts) ≡ each (projected is) ts
unfolding projected
projected_leave is ts = made_fits (λ t. map (item t) is) ts

pub looked_leave : (q r : Route) (p : Path) (us ts : List Tree) → AllowedA ts → leaving (each (looked q r p us) ts) ≡ each (looked q r p us) ts
unfolding looked
looked_leave q r p us ts a = each_fits (Allowed depth_max) (looked q r p us) (λ t y h e. build_fits t _ (fits_of h) e) ts a

pub classes_leave : (ags gs : List Pair) (cs : List Class) → leaving (each (class_tree ags gs) cs) ≡ each (class_tree ags gs) cs
unfolding class_tree
classes_leave ags gs cs = made_fits (λ c. map (aggregated c) ags ++ map (identified c) (filter (sourced c) gs)) cs

pub group_step : (us : List Tree) (ags gs : List Pair) (ts : List Tree) → array_size ts ≤ array_max → totals_fit ags (grouped gs ts) ≡ true
    → step us (group ags gs) (going ts) ≡ after (each (class_tree ags gs) (grouped gs ts))
unfolding step entering maybe performed
group_step us ags gs ts b f = rw (leb_yes (array_size ts) array_max b, f) (ap after (classes_leave ags gs (grouped gs ts)))

-- a total that does not fit is found where the array enters, before any tree of the group is tested
pub group_overflow : (us : List Tree) (ags gs : List Pair) (ts : List Tree) → array_size ts ≤ array_max → totals_fit ags (grouped gs ts) ≡ false
    → step us (group ags gs) (going ts) ≡ halted overflow
unfolding step entering maybe
group_overflow us ags gs ts b f = rw (leb_yes (array_size ts) array_max b, f) refl

pub group_long : (us : List Tree) (ags gs : List Pair) (ts : List Tree) → array_max < array_size ts → step us (group ags gs) (going ts) ≡ halted too_long
unfolding step entering maybe
group_long us ags gs ts b = rw (leb_no (array_size ts) array_max b) refl
