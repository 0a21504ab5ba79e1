-- Tray results joined and grouped again, each destination now also being the source, give the grouping of the whole.
use Rattle.std.specs.Prelude.{◌≡◌, true, ◌^◌}
use Rattle.std.proofs.Math.Path.{refl, sym, ap, ap₂}
use Rattle.std.proofs.Common.{subst, ◌∙◌}
use mathlib.Core.List.{List, [], ◌∷◌, ◌++◌, map, map-map, map-append, append-nil}
use Rattle.std.proofs.Math.Option.{Option, none, some}
use Rattle.std.proofs.Math.ListN.{length, length-map}
use Rattle.spec_trees.specs.OptionLaws.{some_equal}
use Rattle.spec_trees.specs.Lists.{filter, All, gather, each}
use Rattle.spec_trees.specs.ListLaws.{All-append, All-passed, All-imply}
use Rattle.spec_trees.specs.FilterLaws.{filter_append, gather_append, map_same, gather_same, each_same, map_gather, each_parts, Back, each_back, each_filter}
use Rattle.spec_trees.specs.Tree.{Tree, bare_void}
use Rattle.spec_queries.specs.Query.{Pair, group}
use Rattle.spec_queries.specs.Again.{again, regroups, regrouped}
use Rattle.spec_queries.specs.Rules.{Plain}
use Rattle.spec_queries.specs.AgainLaws.{regroups_parts, none_totals}
use Rattle.spec_stages.specs.Paths.{Given, join, joins, over, apply}
use Rattle.spec_stages.specs.Merge.{build}
use Rattle.spec_stages.specs.Project.{place_at, placed}
use Rattle.spec_stages.specs.Group.{key, same_key, sum, aggregate}
use Rattle.spec_stages.specs.Stages.{performed}
use Rattle.spec_stages.specs.Keys.{once, ranked, keys, sharing, shown, made}
use Rattle.spec_stages.specs.Trays.{Tray, inputs, results, GroupGives}
use Rattle.spec_stages.proofs.AlikeLaws.{same_key_lem}
use Rattle.spec_stages.specs.OnceLaws.{ranked_gather}
use Rattle.spec_stages.proofs.KeysLaws.{KeyOf, keys_of, keys_sharing, once_shared, group_told}
use Rattle.spec_stages.proofs.PathLaws.{joins_append}
use Rattle.spec_stages.proofs.ReadLaws.{made_reads}

-- ---- what an aggregate takes, part by part
-- the class of one key in one tray: its tree, and its members
record Part : Type 0 where
  tree : Tree
  first : Tree
  others : List Tree

abbrev members : Part → List Tree
members c = c.first ∷ c.others

-- the tree holds what the pair took from the members
abbrev Holds : Pair → Part → Type 0
Holds p c = apply p.target c.tree ≡ aggregate p (members c)

-- that is what its source gives of each, joined: it is no total
plain_takes : (p : Pair) → Plain p → (ts : List Tree) → aggregate p ts ≡ over (apply p.source) ts
unfolding aggregate
plain_takes p o ts = rw o refl

joins_parts : (p : Pair) → Plain p → (cs : List Part) → All (Holds p) cs
    → joins (map (apply p.target) (map (λ c. c.tree) cs)) ≡ joins (map (apply p.source) (gather members cs))
unfolding joins gather over
joins_parts p o [] h = refl
joins_parts p o (c ∷ cs) h =
    ap₂ join (h.0 ∙ plain_takes p o (members c)) (joins_parts p o cs h.1) ∙ sym (joins_append (apply p.source) (members c) (gather members cs))

-- from the trees of the parts a pair takes again what it takes from all members
taken_again : (p : Pair) → Plain p → (cs : List Part) → All (Holds p) cs → aggregate (again p) (map (λ c. c.tree) cs) ≡ aggregate p (gather members cs)
unfolding aggregate again over gather
taken_again p o [] h = rw o refl
taken_again p o (c ∷ cs) h = joins_parts p o (c ∷ cs) h ∙ sym (plain_takes p o (gather members (c ∷ cs)))

-- ---- the tree of a class, made again
shown_again : (gs : List Pair) (x : List Given) → shown (map again gs) x ≡ shown gs x
unfolding shown again
shown_again [] x = refl
shown_again (p ∷ gs) [] = refl
shown_again (p ∷ gs) (none ∷ x) = shown_again gs x
shown_again (p ∷ gs) (some a ∷ x) = ap (λ l. place_at p.target a ∷ l) (shown_again gs x)

made_again : (ag gs : List Pair) (x : List Given) (rs ts : List Tree) → All (λ p. aggregate (again p) rs ≡ aggregate p ts) ag
    → made (map again ag) (map again gs) x rs ≡ made ag gs x ts
unfolding made again
made_again ag gs x rs ts h =
    let f : Pair → Tree = λ p. placed p.target (aggregate (again p) rs) in
    let g : Pair → Tree = λ p. placed p.target (aggregate p ts) in
    ap₂ (λ a b. build bare_void (a ++ b))
    (map-map (λ p. placed p.target (aggregate p rs)) again ag
    ∙ map_same f g ag (All-imply (λ p. aggregate (again p) rs ≡ aggregate p ts) (λ p. f p ≡ g p) (λ p z. ap (placed p.target) z) ag h))
    (shown_again gs x)

-- ---- the trees of one key
module _ (ag gs : List Pair) (x : List Given) where
  -- in results and in inputs they are those of the same parts
  record Shares (rs ts : List Tree) : Type 0 where
    parts : List Part
    results_are : sharing (map again gs) x rs ≡ map (λ c. c.tree) parts
    inputs_are : sharing gs x ts ≡ gather members parts
    hold : All (λ c. All (λ p. Holds p c) ag) parts

  shares_none : Shares [] []
  unfolding sharing filter gather
  shares_none = record { parts = []; results_are = refl; inputs_are = refl; hold = tt }

  shares_append : (rs ts qs us : List Tree) → Shares rs ts → Shares qs us → Shares (rs ++ qs) (ts ++ us)
  unfolding sharing
  shares_append rs ts qs us g h = record {
    parts = g.parts ++ h.parts;
    results_are =
        filter_append (λ t. same_key x (key (map again gs) t)) rs qs ∙ ap₂ ◌++◌ g.results_are h.results_are
        ∙ sym (map-append (λ c. c.tree) g.parts h.parts);
    inputs_are =
        filter_append (λ t. same_key x (key gs t)) ts us ∙ ap₂ ◌++◌ g.inputs_are h.inputs_are
        ∙ sym (gather_append members g.parts h.parts);
    hold = All-append (λ c. All (λ p. Holds p c) ag) g.parts h.parts g.hold h.hold;
  }

  -- so the tree of the key is the same
  shares_made : All Plain ag → (rs ts : List Tree) → Shares rs ts → made (map again ag) (map again gs) x (sharing (map again gs) x rs) ≡ made ag gs x (sharing gs x ts)
  shares_made plains rs ts h =
      rw (h.results_are, h.inputs_are)
      (made_again ag gs x (map (λ c. c.tree) h.parts) (gather members h.parts) (taken ag plains h.hold))
    where
      taken : (ag : List Pair) → All Plain ag → All (λ c. All (λ p. Holds p c) ag) h.parts
          → All (λ p. aggregate (again p) (map (λ c. c.tree) h.parts) ≡ aggregate p (gather members h.parts)) ag
      taken [] o a = tt
      taken (p ∷ ag) o a = (
        taken_again p o.0 h.parts (All-imply (λ c. All (λ q. Holds q c) (p ∷ ag)) (Holds p) (λ c b. b.0) h.parts a),
        taken ag o.1 (All-imply (λ c. All (λ q. Holds q c) (p ∷ ag)) (λ c. All (λ q. Holds q c) ag) (λ c b. b.1) h.parts a),
      )

-- ---- one tray
key_again : (gs : List Pair) (t : Tree) → key (map again gs) t ≡ map (λ p. apply p.target t) gs
unfolding key again
key_again gs t = map-map (λ p. apply p.source t) again gs

module _ (us : List Tree) (ag gs : List Pair) (g : regroups ag gs ≡ true) (k : Tray) (h : GroupGives us ag gs k) where
  -- the tree of the class that has the key x
  abbrev tree_of : List Given → Option Tree
  tree_of x = made ag gs x (sharing gs x k.input)

  tray_told : each tree_of (keys gs k.input) ≡ some k.result
  tray_told = sym (group_told us ag gs k.input) ∙ h

  -- what is read of it
  tree_reads : (x : List Given) → KeyOf gs x → (r : Tree) → tree_of x ≡ some r
      → All (λ p. apply p.target r ≡ aggregate p (sharing gs x k.input)) ag × (key (map again gs) r ≡ x)
  unfolding key
  tree_reads x o r z =
      let a = made_reads ag gs x (sharing gs x k.input) (regroups_parts ag gs g).1 (ap length o.1 ∙ length-map gs (λ p. apply p.source o.0)) z in
      (a.0, key_again gs r ∙ a.1)

  tray_back : All (Back tree_of (key (map again gs))) (keys gs k.input)
  tray_back =
      All-imply (KeyOf gs) (Back tree_of (key (map again gs))) (λ x o r z. (tree_reads x o r z).1) (keys gs k.input) (keys_of gs k.input)

  -- the keys of the results are those of the classes, in order
  tray_keys : map (key (map again gs)) k.result ≡ keys gs k.input
  tray_keys = each_back tree_of (key (map again gs)) (keys gs k.input) tray_back tray_told

  -- of one key there is one tree in the results, or none where there is none in the tray
  tray_shares : (x : List Given) → KeyOf gs x → Shares ag gs x k.result k.input
  unfolding sharing each once gather
  tray_shares x o =
      let kept = each_filter tree_of (key (map again gs)) (same_key x) (keys gs k.input) tray_back tray_told in
      go (sharing gs x k.input) refl (All-passed (λ t. same_key x (key gs t)) k.input)
      (ap (each tree_of) (sym (keys_sharing gs x k.input o)) ∙ kept)
    where
      go : (ts : List Tree) → sharing gs x k.input ≡ ts → All (λ t. same_key x (key gs t) ≡ true) ts
          → each tree_of (once same_key (map (key gs) ts)) ≡ some (sharing (map again gs) x k.result) → Shares ag gs x k.result k.input
      go [] z a y = record { parts = []; results_are = sym (some_equal [] (sharing (map again gs) x k.result) y); inputs_are = z; hold = tt }
      go (t ∷ ms) z a y =
          let c = each_parts tree_of x [] (ap (each tree_of) (sym (once_shared gs x t ms a)) ∙ y) in
          record {
            parts = record { tree = c.first; first = t; others = ms } ∷ [];
            results_are = sym c.all_are ∙ ap (λ l. c.first ∷ l) (sym (some_equal [] c.others c.others_are));
            inputs_are = z ∙ sym (append-nil (t ∷ ms));
            hold = (subst (λ l. All (λ p. apply p.target c.first ≡ aggregate p l) ag) z (tree_reads x o c.first c.first_is).0, tt);
          }

-- ---- the whole, of any number of trays
module _ (us : List Tree) (ag gs : List Pair) (g : regroups ag gs ≡ true) where
  trays_share : (x : List Given) → KeyOf gs x → (ks : List Tray) → All (GroupGives us ag gs) ks → Shares ag gs x (results ks) (inputs ks)
  unfolding gather
  trays_share x o [] h = shares_none ag gs x
  trays_share x o (k ∷ ks) h =
      shares_append ag gs x k.result k.input (results ks) (inputs ks) (tray_shares us ag gs g k h.0 x o) (trays_share x o ks h.1)

  module _ (ks : List Tray) (h : All (GroupGives us ag gs) ks) where
    keys_again : keys (map again gs) (results ks) ≡ keys gs (inputs ks)
    unfolding keys
    keys_again =
        let f : Tray → List (List Given) = λ k. map (key (map again gs)) k.result in
        let f' : Tray → List (List Given) = λ k. keys gs k.input in
        let same = gather_same f f' ks (All-imply (GroupGives us ag gs) (λ k. f k ≡ f' k) (tray_keys us ag gs g) ks h) in
        ap₂ (λ n l. ranked same_key sum (2 ^ n) l) (length-map gs again) (map_gather (key (map again gs)) (λ k. k.result) ks ∙ same)
        ∙ ranked_gather same_key same_key_lem sum (2 ^ length gs) (λ k. map (key gs) k.input) ks
        ∙ ap (ranked same_key sum (2 ^ length gs)) (sym (map_gather (key gs) (λ k. k.input) ks))

    -- a group does not look at the joined array: that of the regrouping may be any
    pub regroup_law : (ws : List Tree) → performed ws (regrouped ag gs) (results ks) ≡ performed us (group ag gs) (inputs ks)
    regroup_law ws =
        let f : List Given → Option Tree = λ x. made (map again ag) (map again gs) x (sharing (map again gs) x (results ks)) in
        let f' : List Given → Option Tree = λ x. made ag gs x (sharing gs x (inputs ks)) in
        let same : (x : List Given) → KeyOf gs x → f x ≡ f' x = λ x o. shares_made ag gs x (none_totals ag (regroups_parts ag gs g).0) (results ks) (inputs ks) (trays_share x o ks h) in
        let xs = keys gs (inputs ks) in
        group_told ws (map again ag) (map again gs) (results ks) ∙ ap (each f) keys_again
        ∙ each_same f f' xs (All-imply (KeyOf gs) (λ x. f x ≡ f' x) same xs (keys_of gs (inputs ks)))
        ∙ sym (group_told us ag gs (inputs ks))
