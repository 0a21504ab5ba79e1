-- Every stage keeps trees well formed, and what leaves it is not too large: the stages keep arrays within the limits.
use Rattle.std.specs.Prelude.{◌≡◌, refl, List, [], ◌∷◌, ◌++◌, map, Bool, true, false, cond, not, ◌&&◌, ◌≢◌, ℕ, zero, suc, ◌+◌, ◌*◌, ◌^◌, ◌≤◌, ◌<◌, length, ℤ, pos, negsuc, neg_ℤ, T, eqb, leb, ltb}
use Rattle.std.proofs.Common.{sym, subst, le_of_suc-le-suc, div-lt_iff_lt-mul, mul-le-mul_left, suc-mul, arith, leb→le, ltb→lt, eqb→eq, nltb→le}
use Rattle.std.proofs.Math.Option
use Rattle.std.proofs.Math.Option.{Option, none, some}
use Rattle.std.specs.Int.Signed.{mag}
use Rattle.std.proofs.Math.Dec.{eqb_refl}
use Rattle.spec_trees.specs.Options.{◌>>=◌, maybe}
use Rattle.spec_trees.specs.Lists.{filter, all, All, gather, each}
use Rattle.spec_trees.specs.Limits.{tree_max, depth_max, array_max, label_max, divisor_max}
use Rattle.spec_trees.specs.Tree.{Root, void, boolean, integer, text, Tree, node, Trees, ε, ◌▹◌, Labels, bare, label, list, trees, root, labels, bare_void, is_label, find, put}
use Rattle.spec_trees.specs.Size.{size, depth, fits, array_size}
use Rattle.spec_trees.specs.Within.{OkR, Ok, OkA, OkL, Allowed, AllowedA}
use Rattle.spec_trees.specs.OptionLaws.{true_T, false_T, T_and, cond_cases}
use Rattle.spec_trees.specs.ListLaws.{All-append, All-filter, All-map, All-gather, All-imply, All-every, All-both}
use Rattle.spec_queries.specs.Query.{Path, Route, Data, literal, path, listed, test, choice, reduced, Datas, ended, more, Item, keep, place, Pair, Stage, match, unwind, project, group, lookup, is_divisor}
use Rattle.spec_queries.specs.Rules.{OkP, OkD, OkDs, OkI, OkPair, OkS}
use Rattle.spec_queries.specs.PathLaws.{path_labels}
use Rattle.spec_stages.specs.Paths.{Given, join, joins, over, reached, apply}
use Rattle.spec_stages.specs.Criteria.{holds}
use Rattle.spec_stages.specs.Data.{nearest, reduced_int, reduced_root, reduced_tree, value, values}
use Rattle.spec_stages.specs.Merge.{merge_root, merge, merge_a, merge_l, build}
use Rattle.spec_stages.specs.Unwind.{holding, unwound}
use Rattle.spec_stages.specs.Project.{kept, place_at, placed, item, projected}
use Rattle.spec_stages.specs.Totals.{total, fits_signed, total_given}
use Rattle.spec_stages.specs.Group.{key, alike, sum, having, Class, classes, upto, grouped, aggregate, aggregated, total_fits, totals_fit, identified, sourced, class_tree}
use Rattle.spec_stages.specs.Lookup.{matches, partners, looked}
use Rattle.spec_stages.specs.Stages.{performed, leaving, Halt, too_long, overflow, State, going, large, halted, entering, after, step, stages}
use Rattle.spec_stages.specs.FitLaws.{ClassFits, fit_classes}

-- ---- well formed trees in a list, in a tree, and where something may be missing
abbrev pub OkTs : List Tree → Type 0
OkTs ts = All Ok ts

ok_list : (a : Trees) → OkA a → OkTs (list a)
ok_list ε o = tt
ok_list (t ▹ ts) o = (o.0, ok_list ts o.1)

ok_trees : (ts : List Tree) → OkTs ts → OkA (trees ts)
ok_trees [] o = tt
ok_trees (t ∷ ts) o = (o.0, ok_trees ts o.1)

abbrev pub OkF : Given → Type 0
OkF none = Unit {0}
OkF (some a) = OkTs a

abbrev OkO : Option Tree → Type 0
OkO none = Unit {0}
OkO (some t) = Ok t

maybe_ok : {B : Type 0} (P : B → Type 0) {b : B} {f : List Tree → B} (x : Given) → OkF x → P b → ((a : List Tree) → OkTs a → P (f a)) → P (maybe b f x)
unfolding maybe
maybe_ok P none o p q = p
maybe_ok P (some a) o p q = q a o

bind_ok : (f : List Tree → Given) (x : Given) → OkF x → ((a : List Tree) → OkTs a → OkF (f a)) → OkF (x >>= f)
unfolding ◌>>=◌
bind_ok f none o q = tt
bind_ok f (some a) o q = q a o

-- ---- labels
root_ok_lem : (t : Tree) → Ok t → OkR (root t)
root_ok_lem (node r ls) o = o.0

labels_ok_lem : (t : Tree) → Ok t → OkL (labels t) 0
labels_ok_lem (node r ls) o = o.1

find_ok : (k : ℕ) (ls : Labels) (m : ℕ) → OkL ls m → OkF (find k ls)
unfolding find
find_ok k bare m o = tt
find_ok k (label j a ls) m o = cond_cases OkF (eqb k j) (λ e. ok_list a o.2) (λ e. find_ok k ls j o.3)

under_ok : (k : ℕ) (t : Tree) → Ok t → OkF (find k (labels t))
under_ok k t o = find_ok k (labels t) 0 (labels_ok_lem t o)

above : (k j : ℕ) → ltb k j ≡ false → eqb k j ≡ false → j < k
above k j e e' =
    let le : j ≤ k = nltb→le k j (false_T e) in
    let ne : k ≢ j = λ q. subst T e' (subst (λ x. T (eqb k x)) q (eqb_refl k)) in
    omega arith

put_ok : (k : ℕ) (a : Trees) (ls : Labels) (m : ℕ) → m < k → T (is_label k) → OkA a → OkL ls m → OkL (put k a ls) m
unfolding put
put_ok k a bare m p q oa o = (p, q, oa, tt)
put_ok k a (label j b ls) m p q oa o = cond_cases (λ x. OkL x m) (ltb k j)
    (λ e. (p, q, oa, (ltb→lt k j (true_T e), o.1, o.2, o.3)))
    (λ e. cond_cases (λ x. OkL x m) (eqb k j)
    (λ e'. (p, q, oa, subst (OkL ls) (sym (eqb→eq k j (true_T e'))) o.3))
    (λ e'. (o.0, o.1, o.2, put_ok k a ls j (above k j e e') q oa o.3)))

label_pos : (k : ℕ) → T (is_label k) → 0 < k
unfolding is_label
label_pos k h = leb→le 1 k (T_and (leb 1 k) (leb k label_max) h).0

-- ---- merge
merge_root_ok : (r s : Root) → OkR r → OkR s → OkR (merge_root r s)
unfolding merge_root
merge_root_ok r void p q = p
merge_root_ok r (boolean b) p q = q
merge_root_ok r (integer z) p q = q
merge_root_ok r (text s) p q = q

mutual
  unfolding merge

  pub merge_ok : (s t : Tree) → Ok s → Ok t → Ok (merge s t)
  merge_ok (node r ls) t p q = (merge_root_ok r (root t) p.0 (root_ok_lem t q), merge_l_ok ls (labels t) 0 p.1 (labels_ok_lem t q))

  merge_a_ok : (a b : Trees) → OkA a → OkA b → OkA (merge_a a b)
  merge_a_ok ε b p q = q
  merge_a_ok (s ▹ ss) ε p q = p
  merge_a_ok (s ▹ ss) (t ▹ ts) p q = (merge_ok s t p.0 q.0, merge_a_ok ss ts p.1 q.1)

  merge_l_ok : (ls ms : Labels) (m : ℕ) → OkL ls m → OkL ms 0 → OkL (merge_l ls ms) 0
  merge_l_ok bare ms m p q = q
  merge_l_ok (label k a ls) ms m p q =
      put_ok k _ (merge_l ls ms) 0 (omega (arith, p.0)) p.1
      (maybe_ok OkA (find k ms) (find_ok k ms 0 q) p.2 (λ b o. merge_a_ok a (trees b) p.2 (ok_trees b o)))
      (merge_l_ok ls ms k p.3 q)

build_ok : (s : Tree) (ts : List Tree) → Ok s → OkTs ts → OkO (build s ts)
unfolding build
build_ok s [] o q = o
build_ok s (t ∷ ts) o q = cond_cases OkO (fits t && fits (merge s t)) (λ e. build_ok (merge s t) ts (merge_ok s t o q.0) q.1) (λ e. tt)

-- ---- paths
join_ok : (x y : Given) → OkF x → OkF y → OkF (join x y)
unfolding join
join_ok none y p q = q
join_ok (some a) none p q = p
join_ok (some a) (some b) p q = All-append Ok a b p q

joins_ok : (xs : List Given) → All OkF xs → OkF (joins xs)
unfolding joins
joins_ok [] o = tt
joins_ok (x ∷ xs) o = join_ok x (joins xs) o.0 (joins_ok xs o.1)

pub over_ok : (f : Tree → Given) → ((t : Tree) → Ok t → OkF (f t)) → (ts : List Tree) → OkTs ts → OkF (over f ts)
unfolding over
over_ok f h [] o = tt
over_ok f h (t ∷ ts) o = joins_ok (map f (t ∷ ts)) (All-map Ok OkF f h (t ∷ ts) o)

reached_ok : (k : ℕ) (t : Tree) → Ok t → OkF (reached k t)
unfolding reached
reached_ok k t o = under_ok k t o

pub apply_ok : (p : Route) (t : Tree) → Ok t → OkF (apply p t)
unfolding apply
apply_ok [] t o = (o, tt)
apply_ok (k ∷ p) t o = bind_ok _ (reached k t) (reached_ok k t o) (λ a q. over_ok (apply p) (apply_ok p) a q)

-- ---- writing along a path
abbrev pub Labelled : Path → Type 0
Labelled p = All (λ k. T (is_label k)) p

all_labels : (p : Path) → T (all is_label p) → Labelled p
unfolding all
all_labels [] h = tt
all_labels (k ∷ p) h = let a = T_and (is_label k) (all is_label p) h in (a.0, all_labels p a.1)

pub labelled : (p : Path) → OkP p → Labelled p
labelled p h = all_labels p (path_labels p h)

holding_ok : (k : ℕ) → T (is_label k) → (t : Tree) → Ok t → (u : Tree) → Ok u → Ok (holding k t u)
unfolding holding
holding_ok k l t o u r = (root_ok_lem t o, put_ok k (u ▹ ε) (labels t) 0 (label_pos k l) l (r, tt) (labels_ok_lem t o))

unwound_ok : (p : Path) → Labelled p → (t : Tree) → Ok t → OkTs (unwound p t)
unfolding unwound
unwound_ok [] l t o = (o, tt)
unwound_ok (k ∷ p) l t o = maybe_ok OkTs (find k (labels t)) (under_ok k t o) tt
    (λ a q. All-map Ok Ok (holding k t) (holding_ok k l.0 t o) (gather (unwound p) a) (All-gather Ok Ok (unwound p) (unwound_ok p l.1) a q))

one_label_ok : (k : ℕ) → T (is_label k) → (a : List Tree) → OkTs a → Ok (node void (label k (trees a) bare))
one_label_ok k l a o = (tt, (label_pos k l, l, ok_trees a o, tt))

kept_ok : (p : Path) → Labelled p → (t : Tree) → Ok t → Ok (kept p t)
unfolding kept
kept_ok [] l t o = o
kept_ok (k ∷ p) l t o = maybe_ok Ok (find k (labels t)) (under_ok k t o) (tt, tt)
    (λ a q. one_label_ok k l.0 (map (kept p) a) (All-map Ok Ok (kept p) (kept_ok p l.1) a q))

place_at_ok : (p : Path) → Labelled p → (a : List Tree) → OkTs a → Ok (place_at p a)
unfolding place_at
place_at_ok [] l a o = (tt, tt)
place_at_ok (k ∷ []) l a o = one_label_ok k l.0 a o
place_at_ok (k ∷ j ∷ p) l a o = one_label_ok k l.0 (place_at (j ∷ p) a ∷ []) (place_at_ok (j ∷ p) l.1 a o, tt)

pub placed_ok : (p : Path) → Labelled p → (x : Given) → OkF x → Ok (placed p x)
unfolding placed
placed_ok p l none o = (tt, tt)
placed_ok p l (some a) o = place_at_ok p l a o

-- ---- reduced: a quotient by 1 or more stays in range
nearest_le : (n m : ℕ) → 1 ≤ n → nearest n m ≤ m
unfolding nearest
nearest_le n m h =
    let q : 2 ≤ 2 * n = omega arith in
    let l : 2 * m + n < suc m * (2 * n) = rw (suc-mul m (2 * n)) (omega (arith, mul-le-mul_left m q)) in
    le_of_suc-le-suc ((div-lt_iff_lt-mul (omega arith)).1 l)

mag_neg : (a b : ℕ) → a ≤ suc b → mag (neg_ℤ (pos a)) ≤ b
mag_neg zero b h = omega arith
mag_neg (suc a) b h = omega arith

reduced_ok : (n : ℕ) → 1 ≤ n → (t : Tree) → Ok t → Ok (reduced_tree n t)
unfolding reduced_tree reduced_root reduced_int
reduced_ok n h (node void ls) o = o
reduced_ok n h (node (boolean b) ls) o = o
reduced_ok n h (node (integer (pos m)) ls) o = (omega (arith, nearest_le n m h, o.0), o.1)
reduced_ok n h (node (integer (negsuc m)) ls) o = (omega (arith, mag_neg (nearest n (suc m)) m (nearest_le n (suc m) h), o.0), o.1)
reduced_ok n h (node (text s) ls) o = o

divisor_pos : (n : ℕ) → T (is_divisor n) → 1 ≤ n
unfolding is_divisor
divisor_pos n h = leb→le 1 n (T_and (leb 1 n) (leb n divisor_max) h).0

-- ---- data
map_found_ok : (f : List Tree → List Tree) → ((a : List Tree) → OkTs a → OkTs (f a)) → (x : Given) → OkF x → OkF (Option.map f x)
map_found_ok f h none o = tt
map_found_ok f h (some a) o = h a o

pub allowed_ok : (a : List Tree) → AllowedA a → OkTs a
allowed_ok a o = All-imply (Allowed depth_max) Ok (λ t p. p.ok) a o

mutual
  unfolding value

  value_ok : (d : Data) (t : Tree) → OkD d → Ok t → OkF (value d t)
  value_ok (literal a) t g o = allowed_ok a g
  value_ok (path p) t g o = apply_ok p t o
  value_ok (listed ds) t g o = joins_ok (values ds t) (values_ok ds t g.0 o)
  value_ok (test c) t g o = ((tt, tt), tt)
  value_ok (choice c d e) t g o = cond_cases OkF (holds c t) (λ q. value_ok d t g.1 o) (λ q. value_ok e t g.2 o)
  value_ok (reduced p n) t g o = map_found_ok (map (reduced_tree n)) (λ a. All-map Ok Ok (reduced_tree n) (reduced_ok n (divisor_pos n g.1)) a) (apply p t) (apply_ok p t o)

  values_ok : (ds : Datas) (t : Tree) → OkDs ds → Ok t → All OkF (values ds t)
  values_ok ended t g o = tt
  values_ok (more d ds) t g o = (value_ok d t g.0 o, values_ok ds t g.1 o)

pub item_ok : (t : Tree) → Ok t → (x : Item) → OkI x → Ok (item t x)
unfolding item
item_ok t o (keep p) g = kept_ok p (labelled p g) t o
item_ok t o (place d p) g = placed_ok p (labelled p g.1.0) (value d t) (value_ok d t g.0.0 o)

-- ---- classes
abbrev OkClass : Class → Type 0
OkClass c = Ok c.0 × OkTs c.1

classes_ok : (e : Tree → Tree → Bool) (seen ts : List Tree) → OkTs ts → All OkClass (classes e seen ts)
unfolding classes
classes_ok e seen [] o = tt
classes_ok e seen (t ∷ ts) o = cond_cases (All OkClass) (all (λ u. not (e u t)) seen)
    (λ q. ((o.0, All-filter Ok (e t) ts o.1), classes_ok e (t ∷ seen) ts o.1))
    (λ q. classes_ok e (t ∷ seen) ts o.1)

grouped_ok : (gs : List Pair) (ts : List Tree) → OkTs ts → All OkClass (grouped gs ts)
unfolding grouped having
grouped_ok gs ts o = All-gather (λ m. Unit {0}) OkClass (λ m. classes (alike gs) [] (having gs m ts))
    (λ m u. classes_ok (alike gs) [] (having gs m ts) (All-filter Ok (λ t. eqb (sum (key gs t)) m) ts o))
    (upto (2 ^ length gs)) (All-every (λ m. tt) (upto (2 ^ length gs)))

target : (p : Pair) → OkPair p → Labelled p.target
target p o = labelled p.target o.1.0

-- what a total that fits places
pub total_ok : (x : Option ℤ) → fits_signed x ≡ true → OkF (total_given x)
unfolding fits_signed total_given maybe
total_ok none h = tt
total_ok (some z) h = ((ltb→lt (mag z) (2 ^ 63) (true_T h), tt), tt)

pub aggregate_ok : (p : Pair) (c : Class) → OkTs (c.0 ∷ c.1) → total_fits p c ≡ true → OkF (aggregate p (c.0 ∷ c.1))
unfolding aggregate total_fits
aggregate_ok p c o f = go p.is_total f
  where
    ms : List Tree
    ms = c.0 ∷ c.1

    go : (b : Bool) → cond b (fits_signed (total p.source ms)) true ≡ true → OkF (cond b (total_given (total p.source ms)) (over (apply p.source) ms))
    go true f = total_ok (total p.source ms) f
    go false f = over_ok (apply p.source) (apply_ok p.source) ms o

class_tree_ok : (ag gs : List Pair) → All OkPair ag → All OkPair gs → (c : Class) → OkClass c × ClassFits ag c → OkO (class_tree ag gs c)
unfolding class_tree aggregated identified
class_tree_ok ag gs g h c (o, f) =
    let hs : List Pair = filter (sourced c) gs in
    build_ok bare_void (map (aggregated c) ag ++ map (identified c) hs) (tt, tt)
    (All-append Ok (map (aggregated c) ag) (map (identified c) hs)
    (All-map (λ p. OkPair p × (total_fits p c ≡ true)) Ok (aggregated c) (λ p l. placed_ok p.target (target p l.0) (aggregate p (c.0 ∷ c.1)) (aggregate_ok p c o l.1)) ag
    (All-both OkPair (λ p. total_fits p c ≡ true) ag g f))
    (All-map OkPair Ok (identified c) (λ p l. placed_ok p.target (target p l) (apply p.source c.0) (apply_ok p.source c.0 o.0)) hs (All-filter OkPair (sourced c) gs h)))

-- ---- stages
each_ok : {A : Type 0} (P : A → Type 0) (f : A → Option Tree) → ((x : A) → P x → OkO (f x)) → (xs : List A) → All P xs → OkF (each f xs)
unfolding each ◌>>=◌
each_ok P f h [] o = tt
each_ok P f h (x ∷ xs) o = go (f x) (h x o.0) (each f xs) (each_ok P f h xs o.1)
  where
    go : (a : Option Tree) → OkO a → (b : Given) → OkF b → OkF (a >>= λ y. Option.map (λ ys. y ∷ ys) b)
    go none p b q = tt
    go (some t) p none q = tt
    go (some t) p (some ts) q = (p, q)

projected_ok : (is : List Item) → All OkI is → (t : Tree) → Ok t → OkO (projected is t)
unfolding projected
projected_ok is g t o = build_ok bare_void (map (item t) is) (tt, tt) (All-map OkI Ok (item t) (item_ok t o) is g)

-- the part that a lookup adds
pub partners_ok : (q r : Route) (p : Path) (joined : List Tree) → OkP p → All Ok joined → (t : Tree) → Ok (place_at p (partners q r joined t))
unfolding partners
partners_ok q r p joined g j t = place_at_ok p (labelled p g) (partners q r joined t) (All-filter Ok (matches q r t) joined j)

looked_ok : (q r : Route) (p : Path) (joined : List Tree) → OkP p → OkTs joined → (t : Tree) → Ok t → OkO (looked q r p joined t)
unfolding looked
looked_ok q r p joined g j t o = build_ok t (place_at p (partners q r joined t) ∷ []) o (partners_ok q r p joined g j t, tt)

-- an array that enters a group whose totals fit
entering_fits : (ag gs : List Pair) (ts : List Tree) → entering (group ag gs) ts ≡ none → totals_fit ag (grouped gs ts) ≡ true
unfolding entering
entering_fits ag gs ts e = go (leb (array_size ts) array_max) (totals_fit ag (grouped gs ts)) e
  where
    go : (a b : Bool) → cond a (cond b none (some overflow)) (some too_long) ≡ none → b ≡ true
    go true true e = refl
    go true false e = let z : ◌≡◌ {A = ℕ} 0 1 = cc in absurd (omega arith)
    go false b e = let z : ◌≡◌ {A = ℕ} 0 1 = cc in absurd (omega arith)

outcome_ok : (joined : List Tree) (s : Stage) (ts : List Tree) → OkTs joined → OkS s → OkTs ts → entering s ts ≡ none → OkF (performed joined s ts)
unfolding performed
outcome_ok joined (match c) ts j g o e = All-filter Ok (holds c) ts o
outcome_ok joined (unwind p) ts j g o e = All-gather Ok Ok (unwound p) (unwound_ok p (labelled p g)) ts o
outcome_ok joined (project is) ts j g o e = each_ok Ok (projected is) (projected_ok is g.0) ts o
outcome_ok joined (group ag gs) ts j g o e =
    each_ok (λ c. OkClass c × ClassFits ag c) (class_tree ag gs) (class_tree_ok ag gs g.0.0 g.1.0) (grouped gs ts)
    (All-both OkClass (ClassFits ag) (grouped gs ts) (grouped_ok gs ts o) (fit_classes ag (grouped gs ts) (entering_fits ag gs ts e)))
outcome_ok joined (lookup q r p) ts j g o e = each_ok Ok (looked q r p joined) (looked_ok q r p joined g.2.0 j) ts o

-- ---- what leaves a stage is not too large
pub fits_allowed : (t : Tree) → Ok t → T (fits t) → Allowed depth_max t
unfolding fits
fits_allowed t o h =
    let p = T_and (leb (size t) tree_max) (leb (depth t) depth_max) h in
    record { ok = o; small = leb→le (size t) tree_max p.0; shallow = leb→le (depth t) depth_max p.1 }

all_allowed : (ts : List Tree) → OkTs ts → T (all fits ts) → AllowedA ts
unfolding all
all_allowed [] o h = tt
all_allowed (t ∷ ts) o h = let p = T_and (fits t) (all fits ts) h in (fits_allowed t o.0 p.0, all_allowed ts o.1 p.1)

-- a state whose trees are allowed
abbrev pub AllowedS : State → Type 0
AllowedS (going ts) = AllowedA ts
AllowedS large = Unit {0}
AllowedS (halted h) = Unit {0}

leaving_ok : (x : Given) → OkF x → AllowedS (after (leaving x))
unfolding after leaving
leaving_ok none o = tt
leaving_ok (some ts) o = cond_cases (λ y. AllowedS (after y)) (all fits ts) (λ e. all_allowed ts o (true_T e)) (λ e. tt)

step_allowed : (joined : List Tree) (s : Stage) (x : State) → OkTs joined → OkS s → AllowedS x → AllowedS (step joined s x)
unfolding step maybe
step_allowed joined s large j g o = tt
step_allowed joined s (halted h) j g o = tt
step_allowed joined s (going ts) j g o = go (entering s ts) refl
  where
    go : (h : Option Halt) → entering s ts ≡ h → AllowedS (maybe (after (leaving (performed joined s ts))) halted h)
    go none e = leaving_ok (performed joined s ts) (outcome_ok joined s ts j g (allowed_ok ts o) e)
    go (some h) e = tt

states_allowed : (joined : List Tree) (ss : List Stage) (x : State) → OkTs joined → All OkS ss → AllowedS x → AllowedS (stages joined ss x)
unfolding stages
states_allowed joined [] x j g o = o
states_allowed joined (s ∷ ss) x j g o = states_allowed joined ss (step joined s x) j g.1 (step_allowed joined s x j g.0 o)

-- the theorem: allowed stages over allowed trees, with allowed joined trees, give allowed trees
pub stages_allowed : (joined : List Tree) (ss : List Stage) (ts us : List Tree)
    → AllowedA joined → All OkS ss → AllowedA ts → stages joined ss (going ts) ≡ going us → AllowedA us
stages_allowed joined ss ts us j g o e = subst AllowedS e (states_allowed joined ss (going ts) (allowed_ok joined j) g o)
