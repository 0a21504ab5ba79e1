-- What unwinding gives: no more trees than the tree has bytes, none larger or deeper than the tree, all of them
-- allowed if the tree is; of a one-label path, one for each element, in order; and what is left after some were
-- handed on.
use Rattle.std.specs.Prelude.{◌≡◌, refl, List, [], ◌∷◌, map, Bool, true, false, ℕ, zero, suc, ◌+◌, ◌≤◌, ◌<◌, length, drop, get_or, eqb}
use Rattle.std.proofs.Common.{sym, subst, ◌∙◌, append-nil, add-one, arith, length-append, drop_of_length-le, drop-cons, eqb-true, le-leb}
use Rattle.std.proofs.Math.Path.{ap}
use Rattle.std.proofs.Math.Option.{Option, none, some}
use Rattle.std.proofs.lemmas.Bool.{eqb-false}
use Rattle.spec_trees.specs.Options.{maybe}
use Rattle.spec_trees.specs.Lists.{All, all, gather}
use Rattle.spec_trees.specs.Limits.{tree_max, depth_max}
use Rattle.spec_trees.specs.Tree.{Tree, node, Trees, ε, ◌▹◌, Labels, bare, label, list, trees, labels, find, put}
use Rattle.spec_trees.specs.Bytes.{label_heads}
use Rattle.spec_trees.specs.Size.{size, size_a, size_l, depth, depth_a, depth_l, fits}
use Rattle.spec_trees.specs.Within.{Ok, OkA, OkL, Allowed, AllowedA}
use Rattle.spec_trees.specs.OptionLaws.{some_equal}
use Rattle.spec_trees.specs.ListLaws.{All-imply, All-map, All-gather}
use Rattle.spec_trees.specs.SizeLaws.{trees_list}
use Rattle.spec_trees.specs.FindLaws.{no_label, find_first, find_later, put_first, put_later, found_cases, found_ok}
use Rattle.spec_queries.specs.Query.{Path, unwind}
use Rattle.spec_queries.specs.Rules.{OkP}
use Rattle.spec_stages.specs.Unwind.{holding, unwound}
use Rattle.spec_stages.specs.Stages.{performed, leaving, entering, after, step, stages}
use Rattle.spec_stages.proofs.KeepLaws.{stages_allowed}

-- ---- an array put in the place of another
module _ (k : ℕ) (a : List Tree) where
  -- an array that is no larger, put in its place, makes the labels no larger; and so for depth
  put_size : (b : Trees) (ls : Labels) (m : ℕ) → OkL ls m → find k ls ≡ some a → size_a b ≤ size_a (trees a) → size_l (put k b ls) ≤ size_l ls
  unfolding size
  put_size b bare m o e h = absurd (no_label k a e)
  put_size b (label j c ls) m o e h = found_cases k a j c ls m o e
      (λ q z. omega (arith, ap size_l (put_first k j b c ls q), ap label_heads q, ap size_a (sym (trees_list c) ∙ ap trees z)))
      (λ q z. omega (arith, ap size_l (put_later k j b c ls q), put_size b ls j o.3 z h))

  put_depth : (b : Trees) (ls : Labels) (m : ℕ) → OkL ls m → find k ls ≡ some a → depth_a b ≤ depth_a (trees a) → depth_l (put k b ls) ≤ depth_l ls
  unfolding depth
  put_depth b bare m o e h = absurd (no_label k a e)
  put_depth b (label j c ls) m o e h = found_cases k a j c ls m o e
      (λ q z. omega (arith, ap depth_l (put_first k j b c ls q), ap depth_a (sym (trees_list c) ∙ ap trees z)))
      (λ q z. omega (arith, ap depth_l (put_later k j b c ls q), put_depth b ls j o.3 z h))

-- the array under a label is smaller than the labels; here they need not rise
find_size : (k : ℕ) (a : List Tree) (ls : Labels) → find k ls ≡ some a → size_a (trees a) ≤ size_l ls
unfolding size
find_size k a bare e = absurd (no_label k a e)
find_size k a (label j c ls) e = go (eqb k j) refl (find_size k a ls)
  where
    go : (x : Bool) → eqb k j ≡ x → (find k ls ≡ some a → size_a (trees a) ≤ size_l ls) → size_a (trees a) ≤ size_l (label j c ls)
    go true q r = omega (arith, ap size_a (sym (trees_list c) ∙ ap trees (some_equal (list c) a (sym (find_first k j c ls (eqb-true k j q)) ∙ e))))
    go false q r = omega (arith, r (sym (find_later k j c ls (eqb-false k j q)) ∙ e))

-- ---- how many
pub length_map : {A B : Type 0} (f : A → B) (xs : List A) → length (map f xs) ≡ length xs
length_map f [] = refl
length_map f (x ∷ xs) = ap suc (length_map f xs)

-- by what stands under the label
pub unwound_none : (k : ℕ) (p : Path) (t : Tree) → find k (labels t) ≡ none → unwound (k ∷ p) t ≡ []
unfolding unwound maybe
unwound_none k p t e = ap (maybe [] (λ a. map (holding k t) (gather (unwound p) a))) e

pub unwound_some : (k : ℕ) (p : Path) (t : Tree) (a : List Tree) → find k (labels t) ≡ some a → unwound (k ∷ p) t ≡ map (holding k t) (gather (unwound p) a)
unfolding unwound maybe
unwound_some k p t a e = ap (maybe [] (λ a. map (holding k t) (gather (unwound p) a))) e

gather_count : (f : Tree → List Tree) → ((t : Tree) → length (f t) ≤ size t) → (a : List Tree) → length (gather f a) ≤ size_a (trees a)
unfolding gather size
gather_count f h [] = omega arith
gather_count f h (t ∷ ts) = omega (arith, h t, gather_count f h ts, length-append (f t) (gather f ts))

tree_size : (t : Tree) → 3 + size_l (labels t) ≤ size t
unfolding size
tree_size (node r ls) = omega arith

pub unwound_count : (p : Path) (t : Tree) → length (unwound p t) ≤ size t
unfolding unwound
unwound_count [] t = omega (arith, tree_size t)
unwound_count (k ∷ p) t = go (find k (labels t)) refl (gather_count (unwound p) (unwound_count p))
  where
    go : (x : Option (List Tree)) → find k (labels t) ≡ x → ((a : List Tree) → length (gather (unwound p) a) ≤ size_a (trees a)) → length (unwound (k ∷ p) t) ≤ size t
    go none e r = omega (arith, ap length (unwound_none k p t e))
    go (some a) e r = omega (arith, ap length (unwound_some k p t a e), length_map (holding k t) (gather (unwound p) a), r a, find_size k a (labels t) e, tree_size t)

-- ---- how large and how deep
-- no larger and no deeper than t
abbrev pub NoLarger : Tree → Tree → Type 0
NoLarger t u = (size u ≤ size t) × (depth u ≤ depth t)

-- the same of an array
abbrev UnderA : List Tree → Tree → Type 0
UnderA a u = (size u ≤ size_a (trees a)) × (depth u ≤ depth_a (trees a))

members : (a : List Tree) → OkA (trees a) → All (λ x. UnderA a x × Ok x) a
unfolding size depth
members [] o = tt
members (t ∷ ts) o = (
  ((omega arith, omega arith), o.0),
  All-imply (λ x. UnderA ts x × Ok x) (λ x. UnderA (t ∷ ts) x × Ok x)
      (λ x h. ((omega (arith, h.0.0), omega (arith, h.0.1)), h.1)) ts (members ts o.1),
)

holding_under : (k : ℕ) (t : Tree) (a : List Tree) → OkL (labels t) 0 → find k (labels t) ≡ some a → (u : Tree) → UnderA a u → NoLarger t (holding k t u)
unfolding holding size depth
holding_under k (node r ls) a o e u h =
    (omega (arith, put_size k a (u ▹ ε) ls 0 o e (omega (arith, h.0))), omega (arith, put_depth k a (u ▹ ε) ls 0 o e (omega (arith, h.1))))

pub labels_ok_lem : (t : Tree) → Ok t → OkL (labels t) 0
labels_ok_lem (node r ls) o = o.1

pub unwound_fits : (p : Path) (t : Tree) → Ok t → All (NoLarger t) (unwound p t)
unfolding unwound
unwound_fits [] t o = ((omega arith, omega arith), tt)
unwound_fits (k ∷ p) t o = go (find k (labels t)) refl (unwound_fits p)
  where
    go : (x : Option (List Tree)) → find k (labels t) ≡ x → ((t : Tree) → Ok t → All (NoLarger t) (unwound p t)) → All (NoLarger t) (unwound (k ∷ p) t)
    go none e r = subst (All (NoLarger t)) (sym (unwound_none k p t e)) tt
    go (some a) e r =
        let l : OkL (labels t) 0 = labels_ok_lem t o in
        let oa : OkA (trees a) = found_ok k a (labels t) 0 l e in
        subst (All (NoLarger t)) (sym (unwound_some k p t a e))
        (All-map (UnderA a) (NoLarger t) (holding k t) (holding_under k t a l e) (gather (unwound p) a)
        (All-gather (λ x. UnderA a x × Ok x) (UnderA a) (unwound p)
        (λ x h. All-imply (NoLarger x) (UnderA a) (λ u g. (omega (arith, g.0, h.0.0), omega (arith, g.1, h.0.1))) (unwound p x) (r x h.1)) a (members a oa)))

-- so an allowed tree's outcomes pass the test of every tree that leaves a stage
under_fits : (t u : Tree) → Allowed depth_max t → NoLarger t u → fits u ≡ true
unfolding fits
under_fits t u h g = rw (le-leb (size u) tree_max (omega (arith, h.small, g.0)), le-leb (depth u) depth_max (omega (arith, h.shallow, g.1))) refl

all_fits : (t : Tree) (us : List Tree) → Allowed depth_max t → All (NoLarger t) us → all fits us ≡ true
unfolding all
all_fits t [] h g = refl
all_fits t (u ∷ us) h g = rw (under_fits t u h g.0, all_fits t us h g.1) refl

pub unwound_leaves : (p : Path) (t : Tree) → Allowed depth_max t → leaving (some (unwound p t)) ≡ some (unwound p t)
unfolding leaving
unwound_leaves p t h = rw (all_fits t (unwound p t) h (unwound_fits p t h.ok)) refl

pub unwound_allowed : (p : Path) (t : Tree) → OkP p → Allowed depth_max t → AllowedA (unwound p t)
unfolding stages step entering maybe performed gather after
unwound_allowed p t g h =
    stages_allowed [] (unwind p ∷ []) (t ∷ []) (unwound p t) tt (g, tt) (h, tt)
    (ap (λ l. after (leaving (some l))) (append-nil (unwound p t)) ∙ ap after (unwound_leaves p t h))

-- ---- a path of one label: one outcome for each element, in order
gather_each : (a : List Tree) → gather (unwound []) a ≡ a
unfolding gather unwound
gather_each [] = refl
gather_each (t ∷ ts) = ap (λ l. t ∷ l) (gather_each ts)

pub unwound_one : (k : ℕ) (t : Tree) (a : List Tree) → find k (labels t) ≡ some a → unwound (k ∷ []) t ≡ map (holding k t) a
unwound_one k t a e = unwound_some k [] t a e ∙ ap (map (holding k t)) (gather_each a)

-- ---- what is left after j were handed on
module _ (us : List Tree) (j : ℕ) where
  pub left_next : (t : Tree) → j < length us → drop j us ≡ get_or us j t ∷ drop (j + 1) us
  left_next t h = drop-cons us j t h ∙ ap (λ n. get_or us j t ∷ drop n us) (sym (add-one j))

  pub left_none : length us ≤ j → drop j us ≡ []
  left_none h = drop_of_length-le us {i = j} h

-- of a path of one label, after the first j elements
drop_map : {A B : Type 0} (f : A → B) (j : ℕ) (xs : List A) → drop j (map f xs) ≡ map f (drop j xs)
drop_map f zero xs = refl
drop_map f (suc j) [] = refl
drop_map f (suc j) (x ∷ xs) = drop_map f j xs

-- element by element: what is left of the first and the rest is the first's outcome, and what is left of the rest
pub elements_next : (k : ℕ) (t : Tree) {a : Trees} (u : Tree) (us : Trees) → a ≡ u ▹ us → map (holding k t) (list a) ≡ holding k t u ∷ map (holding k t) (list us)
elements_next k t u us e = ap (λ l. map (holding k t) (list l)) e

-- the j-th element gives the j-th outcome
pub get_d_map : {A B : Type 0} (f : A → B) (xs : List A) (j : ℕ) (a : A) (b : B) → j < length xs → get_or (map f xs) j b ≡ f (get_or xs j a)
get_d_map f [] j a b l = absurd (omega arith)
get_d_map f (x ∷ xs) zero a b l = refl
get_d_map f (x ∷ xs) (suc j) a b l = get_d_map f xs j a b (omega arith)

-- ---- the j-th outcome is no larger than the tree
All-at : {A : Type 0} (P : A → Type 0) (xs : List A) (j : ℕ) (a : A) → j < length xs → All P xs → P (get_or xs j a)
All-at P [] j a l h = absurd (omega arith)
All-at P (x ∷ xs) zero a l h = h.0
All-at P (x ∷ xs) (suc j) a l h = All-at P xs j a (omega arith) h.1

pub outcome_under : (p : Path) (t : Tree) (j : ℕ) → Ok t → j < length (unwound p t) → NoLarger t (get_or (unwound p t) j t)
outcome_under p t j o l = All-at (NoLarger t) (unwound p t) j t l (unwound_fits p t o)
