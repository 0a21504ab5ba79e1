-- Classes of trees that bear positions: the classes of the trees, and what their first members are.
use Rattle.std.proofs.Math.Path.{◌≡◌, refl, fun_ext}
use Rattle.std.proofs.Common.{sym, ap, subst, ◌∙◌, arith}
use mathlib.Core.List.{List, [], ◌∷◌, ◌++◌, map}
use Rattle.std.specs.Prelude.{Bool, ℕ, ◌^◌, length, eqb}
use Rattle.std.proofs.Math.Bool.{true, false, cond, not}
use Rattle.spec_trees.specs.OptionLaws.{both_true, cond_cases}
use Rattle.spec_trees.specs.Lists.{filter, all, All, gather}
use Rattle.spec_trees.specs.ListLaws.{All-filter, All-every, All-passed, All-imply, All-gather}
use Rattle.spec_trees.specs.FilterLaws.{filter_implied, filter_map, all_map, map_gather}
use Rattle.spec_trees.specs.Tree.{Tree}
use Rattle.spec_queries.specs.Query.{Pair}
use Rattle.spec_stages.specs.Group.{key, alike, sum, having, classes, upto, grouped}
use Rattle.spec_stages.specs.Positions.{Borne, unmarked, BorneClass, unmarked_class, borne_having, borne_classes, borne_grouped, origin}
use Rattle.spec_stages.specs.Equivalence.{Equivalence}
use Rattle.spec_stages.specs.EquivalenceLaws.{turned}
use Rattle.spec_stages.proofs.AlikeLaws.{alike_keys, alike_equivalence}

-- ---- positions forgotten, they are the classes of the trees
module _ (e : Tree → Tree → Bool) where
  classes_trees : (seen bs : List Borne) → map unmarked_class (borne_classes e seen bs) ≡ classes e (unmarked seen) (unmarked bs)
  unfolding borne_classes classes
  classes_trees seen [] = refl
  classes_trees seen (b ∷ bs) =
      rw (all_map (λ u. not (e u b.tree)) (λ u. u.tree) seen, filter_map (e b.tree) (λ u. u.tree) bs, ← classes_trees (b ∷ seen) bs)
      (go (all (λ u. not (e u.tree b.tree)) seen) (b, filter (λ u. e b.tree u.tree) bs) (borne_classes e (b ∷ seen) bs))
    where
      go : (x : Bool) (c : BorneClass) (cs : List BorneClass)
          → map unmarked_class (cond x (c ∷ cs) cs) ≡ cond x (unmarked_class c ∷ map unmarked_class cs) (map unmarked_class cs)
      go true c cs = refl
      go false c cs = refl

pub grouped_trees : (gs : List Pair) (bs : List Borne) → map unmarked_class (borne_grouped gs bs) ≡ grouped gs (unmarked bs)
unfolding borne_grouped grouped borne_having having
grouped_trees gs bs =
    map_gather unmarked_class (λ m. borne_classes (alike gs) [] (borne_having gs m bs)) (upto (2 ^ length gs))
    ∙ ap (λ f. gather f (upto (2 ^ length gs)))
    (fun_ext (λ m. classes_trees (alike gs) [] (borne_having gs m bs)
    ∙ ap (classes (alike gs) []) (sym (filter_map (λ t. eqb (sum (key gs t)) m) (λ b. b.tree) bs))))

-- ---- the members of a class are all the trees that are like its first, in order
module _ (e : Tree → Tree → Bool) (q : Equivalence e) where
  -- the class begins behind those seen, and has all its members in bs
  abbrev Begun : (seen bs : List Borne) → BorneClass → Type 0
  Begun seen bs c = (all (λ u. not (e u.tree c.0.tree)) seen ≡ true) × (filter (λ u. e c.0.tree u.tree) bs ≡ c.0 ∷ c.1)

  begun_before : (b : Borne) (seen bs : List Borne) (c : BorneClass) → Begun (b ∷ seen) bs c → Begun seen (b ∷ bs) c
  unfolding all filter
  begun_before b seen bs c o =
      let a = both_true (not (e b.tree c.0.tree)) (all (λ u. not (e u.tree c.0.tree)) seen) o.0 in
      (a.1, rw (turned e q c.0.tree b.tree) (go (e b.tree c.0.tree) a.0))
    where
      go : (x : Bool) → not x ≡ true → cond x (b ∷ filter (λ u. e c.0.tree u.tree) bs) (filter (λ u. e c.0.tree u.tree) bs) ≡ c.0 ∷ c.1
      go true z = let z' : ◌≡◌ {A = ℕ} 0 1 = cc in absurd (omega arith)
      go false z = o.1

  begun_behind : (b : Borne) (seen bs : List Borne) (cs : List BorneClass) → All (Begun (b ∷ seen) bs) cs → All (Begun seen (b ∷ bs)) cs
  begun_behind b seen bs = All-imply (Begun (b ∷ seen) bs) (Begun seen (b ∷ bs)) (begun_before b seen bs)

  classes_begun : (seen bs : List Borne) → All (Begun seen bs) (borne_classes e seen bs)
  unfolding borne_classes filter
  classes_begun seen [] = tt
  classes_begun seen (b ∷ bs) =
      let rest = begun_behind b seen bs (borne_classes e (b ∷ seen) bs) (classes_begun (b ∷ seen) bs) in
      cond_cases (All (Begun seen (b ∷ bs))) (all (λ u. not (e u.tree b.tree)) seen) (λ h. ((h, rw (q.self b.tree) refl), rest)) (λ h. rest)

-- the class is what bs has of its key
abbrev pub Members : List Pair → List Borne → BorneClass → Type 0
Members gs bs c = filter (λ b. alike gs c.0.tree b.tree) bs ≡ c.0 ∷ c.1

module _ (gs : List Pair) (m : ℕ) where
  abbrev in_subset : Borne → Bool
  in_subset b = eqb (sum (key gs b.tree)) m

  -- also in the whole list, since trees that are alike are of one subset
  members_within : (bs : List Borne) (c : BorneClass) → Members gs (filter in_subset bs) c → Members gs bs c
  members_within bs c o = sym (filter_implied like in_subset (λ b h. sym (ap (λ n. eqb n m) (alike_keys sum gs c.0.tree b.tree h)) ∙ first) bs) ∙ o
    where
      like : Borne → Bool
      like b = alike gs c.0.tree b.tree

      first : in_subset c.0 ≡ true
      first = (subst (All (λ b. in_subset b ≡ true)) o (All-filter (λ b. in_subset b ≡ true) like (filter in_subset bs) (All-passed in_subset bs))).0

pub class_members : (gs : List Pair) (bs : List Borne) → All (Members gs bs) (borne_grouped gs bs)
unfolding borne_grouped borne_having
class_members gs bs =
    let q = alike_equivalence gs in
    All-gather (λ m. Unit {0}) (Members gs bs) (λ m. borne_classes (alike gs) [] (borne_having gs m bs))
    (λ m u. All-imply (Begun (alike gs) q [] (borne_having gs m bs)) (Members gs bs) (λ c o. members_within gs m bs c o.1)
    (borne_classes (alike gs) [] (borne_having gs m bs)) (classes_begun (alike gs) q [] (borne_having gs m bs)))
    (upto (2 ^ length gs)) (All-every (λ m. tt) (upto (2 ^ length gs)))

-- so its first member is the first tree that has its key
pub origin_first : (gs : List Pair) (t : Tree) (bs : List Borne) {c : Borne} {cs : List Borne}
    → filter (λ b. alike gs t b.tree) bs ≡ c ∷ cs → origin gs t bs ≡ c.position
unfolding filter origin
origin_first gs t [] o = let z : ◌≡◌ {A = ℕ} 0 1 = cc in absurd (omega arith)
origin_first gs t (b ∷ bs) {c} {cs} o = rw (turned (alike gs) (alike_equivalence gs) b.tree t) (go (alike gs t b.tree) o (origin_first gs t bs))
  where
    go : (x : Bool) → cond x (b ∷ filter (λ u. alike gs t u.tree) bs) (filter (λ u. alike gs t u.tree) bs) ≡ c ∷ cs
        → (filter (λ u. alike gs t u.tree) bs ≡ c ∷ cs → origin gs t bs ≡ c.position) → cond x b.position (origin gs t bs) ≡ c.position
    go true z h = let i : b ≡ c = cc in ap (λ u. u.position) i
    go false z h = h z

-- a tree that is like none before it is where its class comes from
pub origin_begins : (gs : List Pair) (seen : List Borne) (b : Borne) (bs : List Borne)
    → all (λ u. not (alike gs u b.tree)) (unmarked seen) ≡ true → origin gs b.tree (seen ++ (b ∷ bs)) ≡ b.position
unfolding all origin
origin_begins gs [] b bs h = rw ((alike_equivalence gs).self b.tree) refl
origin_begins gs (u ∷ seen) b bs h =
    let a = both_true (not (alike gs u.tree b.tree)) (all (λ w. not (alike gs w b.tree)) (unmarked seen)) h in
    go (alike gs u.tree b.tree) a.0 (origin_begins gs seen b bs a.1)
  where
    go : (x : Bool) → not x ≡ true → origin gs b.tree (seen ++ (b ∷ bs)) ≡ b.position
        → cond x u.position (origin gs b.tree (seen ++ (b ∷ bs))) ≡ b.position
    go true z i = let z' : ◌≡◌ {A = ℕ} 0 1 = cc in absurd (omega arith)
    go false z i = i
