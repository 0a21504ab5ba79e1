-- What a stage other than group makes of one tree.
use Rattle.std.specs.Prelude.{◌≡◌, refl, List, [], ◌∷◌, Bool, true, false, cond, ◌&&◌, ℕ}
use Rattle.std.proofs.Common.{sym, ap, ◌∙◌, append-nil, arith}
use Rattle.std.proofs.Math.Option.{Option, none, some, map}
use Rattle.spec_trees.specs.Options.{◌>>=◌, maybe}
use Rattle.spec_trees.specs.OptionLaws.{leb_yes, some_equal}
use Rattle.spec_trees.specs.Lists.{filter, all, gather, each}
use Rattle.spec_trees.specs.Limits.{tree_max, depth_max}
use Rattle.spec_trees.specs.Tree.{Tree, node, Trees, ε, ◌▹◌, Labels, bare, label, list, trees, labels, bare_void, find, put}
use Rattle.spec_trees.specs.Size.{size, depth, depth_l, size_l, root_size, fits}
use Rattle.spec_trees.specs.Within.{Ok, OkL, Allowed, AllowedA}
use Rattle.spec_trees.specs.SizeLaws.{trees_list}
use Rattle.spec_queries.specs.Query.{Path, Route, Criterion, Item, Stage, match, unwind, project, lookup}
use Rattle.spec_queries.specs.Rules.{OkS}
use Rattle.spec_stages.specs.Criteria.{holds}
use Rattle.spec_stages.specs.Merge.{merge, build}
use Rattle.spec_stages.specs.Unwind.{holding, unwound}
use Rattle.spec_stages.specs.Project.{projected}
use Rattle.spec_stages.specs.Lookup.{looked}
use Rattle.spec_stages.specs.Stages.{performed, leaving, entering, going, large, after, step, stages}
use Rattle.spec_stages.proofs.KeepLaws.{stages_allowed}
use Rattle.spec_trees.specs.FindLaws.{put_first, put_later, found_cases}
use Rattle.spec_stages.proofs.UnwoundLaws.{unwound_leaves, unwound_one}

pub fits_of : {x : Tree} → Allowed depth_max x → fits x ≡ true
unfolding fits
fits_of {x} h = rw (leb_yes (size x) tree_max h.small, leb_yes (depth x) depth_max h.shallow) refl

-- ---- match and unwind
pub step_match : (us : List Tree) (c : Criterion) {x : Tree} → Allowed depth_max x → step us (match c) (going (x ∷ [])) ≡ going (cond (holds c x) (x ∷ []) [])
unfolding step entering maybe performed filter after leaving all
step_match us c {x} h = go (holds c x)
  where
    go : (b : Bool) → after (leaving (some (cond b (x ∷ []) []))) ≡ going (cond b (x ∷ []) [])
    go true = rw (fits_of h) refl
    go false = refl

pub step_unwind : (us : List Tree) (p : Path) {x : Tree} → Allowed depth_max x → step us (unwind p) (going (x ∷ [])) ≡ going (unwound p x)
unfolding step entering maybe performed gather after
step_unwind us p {x} h = ap (λ l. after (leaving (some l))) (append-nil (unwound p x)) ∙ ap after (unwound_leaves p x h)

-- what stands under a label of rising labels, put back, changes nothing
put_same : (k : ℕ) (a : Trees) (ls : Labels) (m : ℕ) → OkL ls m → find k ls ≡ some (list a) → put k a ls ≡ ls
unfolding find
put_same k a bare m o e = let z : ◌≡◌ {A = ℕ} 0 1 = cc in absurd (omega arith)
put_same k a (label j c ls) m o e = found_cases k (list a) j c ls m o e
    (λ q z. put_first k j a c ls q ∙ ap (λ i. label i a ls) q ∙ ap (λ b. label j b ls) (sym (trees_list a) ∙ ap trees (sym z) ∙ trees_list c))
    (λ q z. put_later k j a c ls q ∙ ap (label j c) (put_same k a ls j o.3 z))

-- so a tree whose label holds one tree alone is its own outcome
pub unwound_alone : (k : ℕ) (t u : Tree) → Ok t → find k (labels t) ≡ some (u ∷ []) → unwound (k ∷ []) t ≡ t ∷ []
unfolding holding
unwound_alone k (node r ls) u o e = unwound_one k (node r ls) (u ∷ []) e ∙ ap (λ l. node r l ∷ []) (put_same k (u ▹ ε) ls 0 o.1 e)

-- ---- a tree that is built fits, or nothing is built
pub build_fits : (s : Tree) (ts : List Tree) {y : Tree} → fits s ≡ true → build s ts ≡ some y → fits y ≡ true
unfolding build
build_fits s [] {y} f e = ap fits (sym (some_equal s y e)) ∙ f
build_fits s (t ∷ ts) {y} f e = go (fits t) (fits (merge s t)) refl e (λ g k. build_fits (merge s t) ts g k)
  where
    go : (a b : Bool) → fits (merge s t) ≡ b → cond (a && b) (build (merge s t) ts) none ≡ some y
        → (fits (merge s t) ≡ true → build (merge s t) ts ≡ some y → fits y ≡ true) → fits y ≡ true
    go true true g e k = k g e
    go true false g e k = let z : ◌≡◌ {A = ℕ} 0 1 = cc in absurd (omega arith)
    go false b g e k = let z : ◌≡◌ {A = ℕ} 0 1 = cc in absurd (omega arith)

pub void_fits : fits bare_void ≡ true
unfolding fits size size_l root_size depth depth_l
void_fits = refl

one_leaves : (f : Tree → Option Tree) (x : Tree) {y : Tree} → f x ≡ some y → fits y ≡ true → leaving (each f (x ∷ [])) ≡ some (y ∷ [])
unfolding each ◌>>=◌ leaving all
one_leaves f x {y} e g = ap (λ o. leaving (o >>= λ z. map (λ zs. z ∷ zs) (some []))) e ∙ rw g refl

none_leaves : (f : Tree → Option Tree) (x : Tree) → f x ≡ none → leaving (each f (x ∷ [])) ≡ none
unfolding each ◌>>=◌ leaving
none_leaves f x e = ap (λ o. leaving (o >>= λ z. map (λ zs. z ∷ zs) (some []))) e

-- what a stage that is allowed gives of an allowed tree is allowed
pub step_allowed : (us : List Tree) (s : Stage) (x : Tree) (ys : List Tree) → AllowedA us → OkS s → Allowed depth_max x → step us s (going (x ∷ [])) ≡ going ys → AllowedA ys
unfolding stages
step_allowed us s x ys j g h e = stages_allowed us (s ∷ []) (x ∷ []) ys j (g, tt) (h, tt) e

-- ---- project
pub step_project : (us : List Tree) (is : List Item) (x : Tree) {y : Tree} → projected is x ≡ some y → step us (project is) (going (x ∷ [])) ≡ going (y ∷ [])
unfolding step entering maybe performed after projected
step_project us is x e = ap after (one_leaves (projected is) x e (build_fits bare_void _ void_fits e))

pub project_none : (us : List Tree) (is : List Item) (x : Tree) → projected is x ≡ none → step us (project is) (going (x ∷ [])) ≡ large
unfolding step entering maybe performed after
project_none us is x e = ap after (none_leaves (projected is) x e)

-- ---- lookup
pub step_lookup : (us : List Tree) (q r : Route) (p : Path) (x : Tree) {y : Tree} → Allowed depth_max x → looked q r p us x ≡ some y → step us (lookup q r p) (going (x ∷ [])) ≡ going (y ∷ [])
unfolding step entering maybe performed after looked
step_lookup us q r p x h e = ap after (one_leaves (looked q r p us) x e (build_fits x _ (fits_of h) e))

pub lookup_none : (us : List Tree) (q r : Route) (p : Path) (x : Tree) → looked q r p us x ≡ none → step us (lookup q r p) (going (x ∷ [])) ≡ large
unfolding step entering maybe performed after
lookup_none us q r p x e = ap after (none_leaves (looked q r p us) x e)
