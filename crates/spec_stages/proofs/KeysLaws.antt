-- A group told by keys gives what the group gives: class by class, the keys and the members are those of `grouped`.
use Rattle.std.specs.Prelude.{◌≡◌, false, cond}
use Rattle.std.proofs.Math.Path.{refl, sym, ap}
use Rattle.std.proofs.Common.{ap₂, ◌∙◌}
use mathlib.Core.List.{List, [], ◌∷◌, ◌++◌, map}
use Rattle.std.proofs.Math.Bool.{Bool, true, not}
use Rattle.std.proofs.Math.Option.{Option, none, some}
use Prim.Native.Nat.{ℕ, ◌^◌}
use Rattle.std.proofs.Math.ListN.{length}
use Rattle.std.proofs.Math.Dec.{eqb}
use borrow.Author.Tests.{eqb-true, eq-eqb}
use Rattle.spec_trees.specs.OptionLaws.{split, apart, both_true}
use Rattle.spec_trees.specs.Lists.{filter, all, All, each}
use Rattle.spec_trees.specs.ListLaws.{All-every, All-passed, All-imply, All-map}
use Rattle.spec_trees.specs.FilterLaws.{filter_constant, filter_both, filter_implied, map_same, gather_same, each_same, filter_map, map_gather, each_map}
use Rattle.spec_trees.specs.Tree.{Tree, bare_void}
use Rattle.spec_queries.specs.Query.{Pair, group}
use Rattle.spec_stages.specs.Paths.{Given, present, apply}
use Rattle.spec_stages.specs.Merge.{build}
use Rattle.spec_stages.specs.Project.{placed}
use Rattle.spec_stages.specs.Group.{key, same_key, alike, sum, having, Class, classes, upto, grouped, aggregated, identified, sourced, class_tree}
use Rattle.spec_stages.specs.Stages.{performed}
use Rattle.spec_stages.specs.Keys.{without, once, ranked, keys, sharing, shown, made}
use Rattle.spec_stages.proofs.AlikeLaws.{same_key_lem, sum_below}
use Rattle.spec_stages.specs.OnceLaws.{All-once, once_equal, All-ranked, ranked_equal}

-- ---- keys
-- x is the key of a tree
abbrev pub KeyOf : List Pair → List Given → Type 0
KeyOf gs x = (t : Tree) × (x ≡ key gs t)

-- ---- the classes of a list, told by keys
module _ (gs : List Pair) where
  -- what the tree of a class depends on
  abbrev told : Class → List Given × List Tree
  told c = (key gs c.0, c.0 ∷ c.1)

  -- no tree of those seen has the key x
  abbrev fresh : List Tree → List Given → Bool
  fresh seen x = all (λ u. not (same_key (key gs u) x)) seen

  -- the class of the key x in ts
  abbrev within : List Tree → List Given → List Given × List Tree
  within ts x = (x, sharing gs x ts)

  -- a tree whose key is not x adds nothing
  sharing_other : (x : List Given) (t : Tree) (ts : List Tree) → not (same_key (key gs t) x) ≡ true → sharing gs x (t ∷ ts) ≡ sharing gs x ts
  unfolding sharing filter
  sharing_other x t ts n = rw (other (same_key (key gs t) x) (same_key x (key gs t)) n turned) refl
    where
      turned : same_key x (key gs t) ≡ true → same_key (key gs t) x ≡ true
      turned z = (same_key_lem (key gs t) x).1 (sym ((same_key_lem x (key gs t)).0 z))

      other : (a b : Bool) → not a ≡ true → (b ≡ true → a ≡ true) → b ≡ false
      other a true n h = apart n (ap not (h refl))
      other a false n h = refl

  -- the classes of the trees behind those seen, where of the other keys all trees stand behind
  classes_told : (all_ts seen ts : List Tree) → ((x : List Given) → fresh seen x ≡ true → sharing gs x all_ts ≡ sharing gs x ts)
      → map told (classes (alike gs) seen ts) ≡ map (within all_ts) (filter (fresh seen) (once same_key (map (key gs) ts)))
  unfolding classes alike once without filter all sharing
  classes_told all_ts seen [] h = refl
  classes_told all_ts seen (t ∷ ts) h =
      let rest = classes_told all_ts (t ∷ seen) ts still ∙ ap (map (within all_ts)) (sym (filter_both (fresh seen) other (once same_key (map (key gs) ts)))) in
      split (fresh seen (key gs t))
      (λ p. rw p (ap₂ ◌∷◌ (ap (λ l. (key gs t, l)) (sym (h (key gs t) p ∙ own))) rest))
      (λ p. rw p rest)
    where
      other : List Given → Bool
      other x = not (same_key (key gs t) x)

      still : (x : List Given) → fresh (t ∷ seen) x ≡ true → sharing gs x all_ts ≡ sharing gs x ts
      still x z = let p = both_true (other x) (fresh seen x) z in h x p.1 ∙ sharing_other x t ts p.0

      own : sharing gs (key gs t) (t ∷ ts) ≡ t ∷ filter (alike gs t) ts
      own = rw ((same_key_lem (key gs t) (key gs t)).1 refl) refl

  -- of the trees of one subset, those that share a key of it are all that share it
  sharing_having : (m : ℕ) (ts : List Tree) (x : List Given) → eqb (sum x) m ≡ true → sharing gs x (having gs m ts) ≡ sharing gs x ts
  unfolding sharing having
  sharing_having m ts x z =
      filter_implied (λ t. same_key x (key gs t)) (λ t. eqb (sum (key gs t)) m)
      (λ t y. eq-eqb (sum (key gs t)) m (ap sum (sym ((same_key_lem x (key gs t)).0 y)) ∙ eqb-true (sum x) m z)) ts

  having_told : (m : ℕ) (ts : List Tree)
      → map told (classes (alike gs) [] (having gs m ts)) ≡ map (within ts) (once same_key (filter (λ x. eqb (sum x) m) (map (key gs) ts)))
  unfolding having all
  having_told m ts =
      let trees = having gs m ts in
      let f : List Given → Bool = λ x. eqb (sum x) m in
      let xs = once same_key (filter f (map (key gs) ts)) in
      let of_subset = All-once same_key same_key_lem (λ x. f x ≡ true) (filter f (map (key gs) ts)) (All-passed f (map (key gs) ts)) in
      let all_fresh : filter (fresh []) xs ≡ xs = filter_constant (fresh []) true xs (All-every (λ x. refl) xs) in
      classes_told trees [] trees (λ x z. refl)
      ∙ ap (λ l. map (within trees) (filter (fresh []) (once same_key l))) (sym (filter_map f (key gs) ts)) ∙ ap (map (within trees)) all_fresh
      ∙ map_same (within trees) (within ts) xs
      (All-imply (λ x. f x ≡ true) (λ x. within trees x ≡ within ts x) (λ x z. ap (λ l. (x, l)) (sharing_having m ts x z)) xs of_subset)

  -- for each subset by rising sum
  grouped_told : (ts : List Tree) → map told (grouped gs ts) ≡ map (within ts) (keys gs ts)
  unfolding grouped keys ranked
  grouped_told ts =
      let f : ℕ → List Class = λ m. classes (alike gs) [] (having gs m ts) in
      let g : ℕ → List (List Given) = λ m. once same_key (filter (λ x. eqb (sum x) m) (map (key gs) ts)) in
      let ms = upto (2 ^ length gs) in
      map_gather told f ms ∙ gather_same (λ m. map told (f m)) (λ m. map (within ts) (g m)) ms (All-every (λ m. having_told m ts) ms)
      ∙ sym (map_gather (within ts) g ms)

  -- all of them are keys of trees
  pub keys_of : (ts : List Tree) → All (KeyOf gs) (keys gs ts)
  unfolding keys
  keys_of ts =
      All-ranked same_key same_key_lem sum (KeyOf gs) (2 ^ length gs) (map (key gs) ts)
      (All-map (λ t. Unit {0}) (KeyOf gs) (key gs) (λ t h. (t, refl)) ts (All-every (λ t. tt) ts))

  -- a key stands among them once, if a tree has it
  pub keys_sharing : (x : List Given) (ts : List Tree) → KeyOf gs x → filter (same_key x) (keys gs ts) ≡ once same_key (map (key gs) (sharing gs x ts))
  unfolding keys sharing
  keys_sharing x ts o =
      ranked_equal same_key same_key_lem sum x (2 ^ length gs) (map (key gs) ts) (rw o.1 (sum_below gs o.0))
      ∙ ap (once same_key) (filter_map (same_key x) (key gs) ts)

  pub once_shared : (x : List Given) (t : Tree) (ms : List Tree) → All (λ u. same_key x (key gs u) ≡ true) (t ∷ ms)
      → once same_key (map (key gs) (t ∷ ms)) ≡ x ∷ []
  once_shared x t ms a =
      ap (λ y. once same_key (y ∷ map (key gs) ms)) (sym ((same_key_lem x (key gs t)).0 a.0))
      ∙ once_equal same_key same_key_lem x (map (key gs) ms) (All-map (λ u. same_key x (key gs u) ≡ true) (λ y. same_key x y ≡ true) (key gs) (λ u z. z) ms a.1)

-- ---- the tree of a class, told by its key and its members
shown_key : (c : Class) (gs : List Pair) → map (identified c) (filter (sourced c) gs) ≡ shown gs (key gs c.0)
unfolding shown key filter sourced identified placed present
shown_key c [] = refl
shown_key c (p ∷ gs) = go (apply p.source c.0) refl (shown_key c gs)
  where
    go : (x : Given) → apply p.source c.0 ≡ x → map (identified c) (filter (sourced c) gs) ≡ shown gs (key gs c.0)
        → map (identified c) (cond (present x) (p ∷ filter (sourced c) gs) (filter (sourced c) gs)) ≡ shown (p ∷ gs) (x ∷ key gs c.0)
    go none z h = h
    go (some a) z h = ap₂ ◌∷◌ (ap (placed p.target) z) h

pub made_told : (ag gs : List Pair) (c : Class) → class_tree ag gs c ≡ made ag gs (key gs c.0) (c.0 ∷ c.1)
unfolding class_tree made aggregated
made_told ag gs c = ap (λ l. build bare_void (map (aggregated c) ag ++ l)) (shown_key c gs)

-- what a group gives, key by key
pub group_told : (us : List Tree) (ag gs : List Pair) (ts : List Tree)
    → performed us (group ag gs) ts ≡ each (λ x. made ag gs x (sharing gs x ts)) (keys gs ts)
unfolding performed
group_told us ag gs ts =
    let f : List Given × List Tree → Option Tree = λ w. made ag gs w.0 w.1 in
    each_same (class_tree ag gs) (λ c. f (told gs c)) (grouped gs ts) (All-every (made_told ag gs) (grouped gs ts))
    ∙ sym (each_map f (told gs) (grouped gs ts)) ∙ ap (each f) (grouped_told gs ts) ∙ each_map f (within gs ts) (keys gs ts)
