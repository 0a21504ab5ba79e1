-- Laws of arranging all classes: subset by subset, and the front has room for them.
use Rattle.std.specs.Prelude.{◌≡◌, refl, ℕ, zero, suc, ◌+◌, ◌-◌, ◌^◌, ◌≤◌, ◌<◌}
use Rattle.std.proofs.Common.{sym, ◌∙◌, arith, pow_mono}
use Rattle.std.proofs.Math.Path.{ap, subst}
use mathlib.Core.List.{List, [], ◌∷◌, ◌++◌, append-nil, append_assoc}
use Rattle.std.proofs.Math.ListN.{length}
use Rattle.spec_trees.specs.Limits.{work_min}
use Rattle.spec_trees.specs.Lists.{gather}
use Rattle.spec_trees.specs.FilterLaws.{gather_append}
use Rattle.spec_trees.specs.Tree.{Tree, trees}
use Rattle.spec_trees.specs.Bytes.{bytes, tree_fs}
use Rattle.spec_trees.specs.Size.{array_size}
use Rattle.spec_trees.specs.SizeLaws.{length_tree_fs}
use Rattle.spec_trees.specs.Within.{AllowedA}
use Rattle.areas.specs.Area.{Is}
use Rattle.areas.specs.declared.span.Span.{Span}
use Rattle.areas.specs.AreaLaws.{is_beyond}
use Rattle.spec_queries.specs.Query.{Pair}
use Rattle.queries.specs.Places.{array_trees}
use Rattle.paths.specs.ComparedLaws.{is_none}
use Rattle.spec_stages.specs.Group.{Class, upto, grouped}
use Rattle.spec_stages.specs.Classes.{scan}
use Rattle.spec_stages.proofs.ClassesLaws.{grouped_scan}
use Rattle.spec_stages.specs.OnceLaws.{gather_upto}
use Rattle.spec_stages.specs.Flat.{members, flat}
use Rattle.spec_stages.proofs.GroupedLaws.{flat_size}
use Rattle.spec_stages.specs.Positions.{Borne, unmarked, origin}
use Rattle.keys.specs.Keys.{FewPairs}
use Rattle.map.specs.Map.{trees_max}
use Rattle.positions.specs.Bearing.{Bears}
use Rattle.key_index.specs.declared.front.Reached.{Reached}
use Rattle.key_index.specs.Index.{numbers_at, base, Index, Collected}
use Rattle.key_index.specs.Entering.{EntersAll}
use Rattle.arrange.specs.Arrange.{arranged, trees_of, number_bytes, index_at, Front, Grows, Subset, SubsetArranged, Arranged}
use Rattle.arrange.specs.KeptLaws.{index_kept}
use Rattle.positions.specs.BearingLaws.{bears_beyond}
use Rattle.arrange.specs.FrontLaws.{length_both, arranged_trees, arranged_both, grows_none, grows_then}

-- ---- the classes of the subsets below k
abbrev pub found : List Pair → List Tree → ℕ → List Class
found gs ts k = gather (λ i. scan gs i [] ts) (upto k)

found_none : (gs : List Pair) (ts : List Tree) → found gs ts 0 ≡ []
unfolding gather upto
found_none gs ts = refl

found_more : (gs : List Pair) (ts : List Tree) (k : ℕ) → found gs ts (k + 1) ≡ found gs ts k ++ scan gs k [] ts
found_more gs ts k = let z : k + 1 ≡ suc k = omega arith in ap (found gs ts) z ∙ gather_upto (λ b. scan gs b [] ts) k

found_all : (gs : List Pair) (ts : List Tree) → found gs ts (2 ^ length gs) ≡ grouped gs ts
found_all gs ts = sym (grouped_scan gs ts)

upto_rest : (k d : ℕ) → (rest : List ℕ) × (upto (k + d) ≡ upto k ++ rest)
unfolding upto
upto_rest k zero = let z : k + 0 ≡ k = omega arith in ([], ap upto z ∙ sym (append-nil (upto k)))
upto_rest k (suc d) =
    let r = upto_rest k d in
    let z : k + suc d ≡ suc (k + d) = omega arith in
    (r.0 ++ ((k + d) ∷ []), ap upto z ∙ ap (λ l. l ++ ((k + d) ∷ [])) r.1 ∙ append_assoc (upto k) r.0 ((k + d) ∷ []))

-- they are no more bytes than the array
flat_both : (xs ys : List Class) → length (array_trees (flat (xs ++ ys))) ≡ length (array_trees (flat xs)) + length (array_trees (flat ys))
unfolding flat
flat_both xs ys = ap (λ l. length (array_trees l)) (gather_append members xs ys) ∙ length_both (flat xs) (flat ys)

array_length : (ts : List Tree) → array_size ts ≡ 3 + length (array_trees ts)
unfolding array_size
array_length ts = omega (arith, length_tree_fs (trees ts))

flat_length : (gs : List Pair) (ts : List Tree) → length (array_trees (flat (grouped gs ts))) ≡ length (array_trees ts)
flat_length gs ts = omega (arith, flat_size gs ts, array_length (flat (grouped gs ts)), array_length ts)

found_length : (gs : List Pair) (ts : List Tree) (k d : ℕ) → k + d ≡ 2 ^ length gs → length (array_trees (flat (found gs ts k))) ≤ length (array_trees ts)
found_length gs ts k d z =
    let r = upto_rest k d in
    let f : ℕ → List Class = λ i. scan gs i [] ts in
    let whole : grouped gs ts ≡ found gs ts k ++ gather f r.0 = sym (found_all gs ts) ∙ ap (found gs ts) (sym z) ∙ ap (gather f) r.1 ∙ gather_append f (upto k) r.0 in
    omega (arith, flat_length gs ts, ap (λ l. length (array_trees (flat l))) whole, flat_both (found gs ts k) (gather f r.0))

-- ---- the trees are entered
pub record Entered (w : List ℕ) (n : ℕ) (gs : List Pair) (bs : List Borne) : Type 0 where
  pub size : length w ≡ work_min
  pub short : n ≤ trees_max
  pub few : FewPairs gs
  pub trees_ok_lem : AllowedA (unmarked bs)
  pub trees_is : Is w base (base + n) (array_trees (unmarked bs))
  pub bears : Bears w 0 bs
  pub index : Index w gs (unmarked bs)

pub entered : {w v q : List ℕ} {keys_at : Span} {n : ℕ} → length v ≡ length w → EntersAll w v q keys_at n → (c : Collected w q keys_at n) → Entered v n c.grouping c.borne
entered l h c = record {
  size = l ∙ c.size;
  short = c.short;
  few = c.few;
  trees_ok_lem = c.trees_ok_lem;
  trees_is = is_beyond base c.trees_is h.beyond l (omega arith);
  bears = bears_beyond _ _ base (omega arith) h.beyond 0 c.borne c.bears;
  index = h.index c;
}

abbrev pub empty : Reached
empty = record { to = 0; count = 0 }

module _ {w₀ : List ℕ} {n : ℕ} {gs : List Pair} {bs : List Borne} (e : Entered w₀ n gs bs) where
  abbrev ts : List Tree
  ts = unmarked bs

  -- the position of the first tree that has the key of t
  abbrev p : Tree → ℕ
  p t = origin gs t bs

  pub arranging_begin : Grows w₀ w₀ empty empty (arranged p (found gs ts 0))
  unfolding arranged gather
  arranging_begin = subst (λ l. Grows w₀ w₀ empty empty (arranged p l)) (sym (found_none gs ts)) (grows_none w₀ empty)

  module _ {w : List ℕ} {f : Reached} (k : ℕ) (g : Grows w₀ w empty f (arranged p (found gs ts k))) where
    filled_is : f.to ≡ length (array_trees (flat (found gs ts k)))
    filled_is = omega (arith, g.to_is, ap (λ l. length (array_trees l)) (arranged_trees p (found gs ts k)))

    pub arranging_subset : k < 2 ^ length gs → Subset w n k f
    arranging_subset b =
        let d : k + 1 + (2 ^ length gs - (k + 1)) ≡ 2 ^ length gs = omega arith in
        let l = found_length gs ts (k + 1) (2 ^ length gs - (k + 1)) d in
        record {
          short = e.short;
          grouping = gs;
          few = e.few;
          borne = bs;
          trees_ok_lem = e.trees_ok_lem;
          trees_is = is_beyond index_at e.trees_is g.kept g.same (omega arith);
          bears = bears_beyond w₀ w index_at (omega arith) g.kept 0 bs e.bears;
          index = index_kept w₀ w g.kept gs ts e.index;
          below = omega (arith, pow_mono {i = length gs} {j = 4} e.few);
          room = record {
            size = g.same ∙ e.size;
            sparse = g.sparse (omega arith);
            fits = omega (arith, e.short, e.trees_is.ends, filled_is, ap (λ l. length (array_trees (flat l))) (found_more gs ts k), flat_both (found gs ts k) (scan gs k [] ts));
          };
        }

    pub arranging_next : {v : List ℕ} {r : Reached} → k < 2 ^ length gs → SubsetArranged w v n k f r → Grows w₀ v empty r (arranged p (found gs ts (k + 1)))
    unfolding arranging_subset
    arranging_next {v} {r} b h =
        subst (Grows w₀ v empty r) (sym (ap (arranged p) (found_more gs ts k) ∙ arranged_both p (found gs ts k) (scan gs k [] ts))) (grows_then g (h (arranging_subset b)))

    pub arranging_end : k ≡ 2 ^ length gs → Arranged w n p (grouped gs ts)
    unfolding bytes tree_fs number_bytes gather
    arranging_end z =
        let all : found gs ts k ≡ grouped gs ts = ap (found gs ts) z ∙ found_all gs ts in
        let none : Front w₀ empty [] = record { trees_is = is_none (omega arith); numbers_is = is_none (omega (arith, e.size)) } in
        let front : Front w f (arranged p (grouped gs ts)) = subst (λ l. Front w f (arranged p l)) all (g.front [] none) in
        let to : f.to ≡ n = omega (arith, filled_is, ap (λ l. length (array_trees (flat l))) all, flat_length gs ts, e.trees_is.ends) in
        record {
          trees_is = subst (λ l. Is w 0 n (array_trees l)) (arranged_trees p (grouped gs ts)) (subst (λ m. Is w 0 m (array_trees (trees_of (arranged p (grouped gs ts))))) to front.trees_is);
          numbers_is = subst (λ m. Is w numbers_at m (number_bytes (arranged p (grouped gs ts)))) front.numbers_is.ends front.numbers_is;
        }
