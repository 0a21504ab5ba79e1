-- Laws of entering a tree: what the stores do makes it one of the index.
use Rattle.std.specs.Prelude.{◌≡◌, refl, Bool, cond, ◌&&◌, ◌≢◌, ◌⊎◌, ℕ, ◌+◌, ◌≤◌, ◌<◌, length, drop, eqb, ltb, Ok, Option, Some}
use Rattle.std.proofs.Math.Path.{sym, ap}
use Rattle.std.proofs.Common.{subst, ◌∙◌, pow_mono, arith}
use mathlib.Core.List.{List, [], ◌∷◌, ◌++◌, reverse, append-nil, append_assoc}
use Rattle.std.proofs.Math.Bool.{true, false, and-false}
use Rattle.std.proofs.Math.Logic.{inl, inr}
use borrow.Author.Tests.{eqb-true, eqb-false, ltb-true, ltb-false, eq-eqb, ne_eqb}
use Rattle.spec_trees.specs.OptionLaws.{split, apart, cond_cases}
use Rattle.spec_trees.specs.Lists.{All, filter}
use Rattle.spec_trees.specs.ListLaws.{All-imply, All-reverse}
use Rattle.spec_trees.specs.Tree.{Tree}
use Rattle.areas.specs.declared.span.Span.{Span}
use Rattle.areas.specs.Area.{Wrote}
use Rattle.areas.specs.Number.{two_at, two_bytes}
use Rattle.spec_queries.specs.Query.{Pair}
use Rattle.spec_stages.specs.Group.{key, alike, sum}
use Rattle.spec_stages.specs.Classes.{unlike, begins, scan}
use Rattle.spec_stages.proofs.AlikeLaws.{alike_equivalence, sum_below}
use Rattle.keys.specs.Keys.{FewPairs}
use Rattle.map.specs.Map.{trees_max}
use Rattle.queries.specs.TreesLaws.{six}
use Rattle.key_index.specs.Links.{Spot, spots, elements, Apart, passing, offset, first_of, Entered, Stored}
use Rattle.key_index.specs.LinksLaws.{first_step}
use Rattle.key_index.specs.EnterLaws.{apart_found, rising_left}
use Rattle.key_index.specs.SpotsLaws.{spots_append, spots_elements, first_unseen}
use Rattle.key_index.specs.IndexLaws.{rising_below, spots_entered}
use Rattle.key_index.specs.Index.{base, back_at, next_at, mark_at, slots, heads_at, head_at, subsets_max, counts_at, count_at, size_of, standing, slot, mark, Marks, Index, Entering}
use Rattle.key_index.specs.Entering.{last_like, Noted, Stood, StoredIf, LinkedAt, Counted, Enters}
use Rattle.areas.specs.NumberLaws.{Put, put}
use Rattle.key_index.specs.StandingLaws.{all_stood}
use Rattle.key_index.specs.CountLaws.{one, count_behind, count_most, six_each}
use Rattle.key_index.specs.SearchLaws.{slot_below, end_seen, rising, places}

-- ---- a number that is stored under a condition
pub stored_not : {P : Type 0} (w : List ℕ) (a n : ℕ) → (P → ⊥) → StoredIf P w w a n
stored_not w a n never = record { set = λ p. absurd (never p); others = λ b l. refl; beyond = refl }

pub stored_put : {P : Type 0} {w v : List ℕ} {a n : ℕ} → P → a + 2 ≤ length w → a + 2 ≤ base → Wrote w v a (a + 2) (two_bytes n) (Ok (a + 2)) → StoredIf P w v a n
stored_put {w = w} {v = v} {a = a} {n = n} it l u h =
    let p = put l h in
    record {
      set = λ y. p.here;
      others = λ b k. either (p.below b) (p.above b) (k it);
      beyond = p.beyond base u;
    }
  where
    either : {P Q R : Type 0} → (P → R) → (Q → R) → P ⊎ Q → R
    either f g (inl a) = f a
    either f g (inr a) = g a

-- ---- the mark
pub mark_first : (m y : ℕ) → y ≡ 0 → m ≡ mark m (eqb y 0)
unfolding mark
mark_first m y z = sym (rw (eq-eqb y 0 z) refl)

pub mark_later : (m y : ℕ) → (y ≡ 0 → ⊥) → subsets_max ≡ mark m (eqb y 0)
unfolding mark
mark_later m y n = sym (rw (ne_eqb y 0 n) refl)

-- few pairs have few subsets
pub sum_small : (gs : List Pair) (t : Tree) → FewPairs gs → sum (key gs t) < subsets_max
sum_small gs t f = omega (arith, sum_below gs t, pow_mono {i = length gs} {j = 4} f)

-- no tree was found exactly if none of those seen is alike
pub unlike_found : (gs : List Pair) (seen : List Tree) (t : Tree) → eqb (last_like gs seen t) 0 ≡ unlike gs seen t
unfolding unlike
unlike_found gs seen t =
    let k = first_unseen size_of (λ u. alike gs u t) base (omega arith) seen in
    let n = last_like gs seen t in
    split (unlike gs seen t)
    (λ p. eq-eqb n 0 (k.1 p) ∙ sym p)
    (λ p. ne_eqb n 0 (λ z. apart (k.0 z) p) ∙ sym p)

-- t enters at b, behind the others
module _ (gs : List Pair) (marks marks' : ℕ → ℕ) (b : ℕ) (t : Tree) where
  pub marks_entered : (seen : List Tree) (ss : List (Spot Tree)) → All (λ s. marks' s.0 ≡ marks s.0) ss
      → marks' b ≡ mark (sum (key gs t)) (unlike gs (seen ++ elements ss) t) → Marks gs marks seen ss → Marks gs marks' seen (ss ++ ((b, t) ∷ []))
  marks_entered seen [] h z m = (z ∙ ap (λ l. mark (sum (key gs t)) (unlike gs l t)) (append-nil seen), tt)
  marks_entered seen (s ∷ ss) h z m = (
    h.0 ∙ m.0,
    marks_entered (seen ++ (s.1 ∷ [])) ss h.1 (z ∙ ap (λ l. mark (sum (key gs t)) (unlike gs l t)) (sym (append_assoc seen (s.1 ∷ []) (elements ss)))) m.1,
  )

-- ---- the last tree with the same key
all_both : {A : Type 0} (P Q : A → Type 0) (xs : List A) → All P xs → All Q xs → All (λ x. P x × Q x) xs
all_both P Q [] p q = tt
all_both P Q (x ∷ xs) p q = ((p.0, q.0), all_both P Q xs p.1 q.1)

first_place : (P : ℕ → Type 0) (f : Tree → Bool) (ss : List (Spot Tree)) → P 0 → All (λ s. P s.0) ss → P (first_of f ss)
unfolding first_of passing filter offset
first_place P f [] z h = z
first_place P f (s ∷ ss) z h = subst P (sym (first_step f s ss)) (cond_cases P (f s.1) (λ p. h.0) (λ p. first_place P f ss z h.1))

module _ {w q : List ℕ} {keys_at tree_at : Span} (e : Entering w q keys_at tree_at) where
  seen_places : All (λ s. (base ≤ s.0) × (s.0 + 6 ≤ tree_at.from)) (standing e.seen)
  seen_places =
      let l = places e in
      all_both (λ s. base ≤ s.0) (λ s. s.0 + 6 ≤ tree_at.from) (standing e.seen)
      (All-imply (Stood w) (λ s. base ≤ s.0) (λ s h. h.above) (standing e.seen) (all_stood e.seen e.seen_ok e.seen_is (omega arith) (omega arith)))
      (rising_below 6 0 (standing e.seen) (tree_at.from, e.tree) (rising e))

  -- it stands before this one, if there is one
  pub like_places : {y : ℕ} → y ≡ last_like e.grouping e.seen e.tree → (y ≢ 0 → base ≤ y) × (y + 6 ≤ tree_at.from)
  like_places {y} z =
      let l = places e in
      subst (λ o. (o ≢ 0 → base ≤ o) × (o + 6 ≤ tree_at.from)) (sym z)
      (first_place (λ o. (o ≢ 0 → base ≤ o) × (o + 6 ≤ tree_at.from)) (λ u. alike e.grouping u e.tree) (reverse (standing e.seen))
      ((λ n. absurd (n refl)), omega arith)
      (All-reverse (λ s. (s.0 ≢ 0 → base ≤ s.0) × (s.0 + 6 ≤ tree_at.from)) (standing e.seen)
      (All-imply (λ s. (base ≤ s.0) × (s.0 + 6 ≤ tree_at.from)) (λ s. (s.0 ≢ 0 → base ≤ s.0) × (s.0 + 6 ≤ tree_at.from)) (λ s h. ((λ n. h.0), h.1)) (standing e.seen) seen_places)))

  pub found_places : {like : Option ℕ} → Noted like (last_like e.grouping e.seen e.tree) → (y : ℕ) → like ≡ Some y
      → (base ≤ y) × (y ≤ base + trees_max)
  found_places h y z =
      let k = h.there y z in
      let p = like_places k.0 in
      let l = places e in
      (p.0 k.1, omega (arith, p.1))

-- ---- all stores of one tree: it is entered at x, `last` is the last with its slot, y the last with its key
module _ {w q : List ℕ} {keys_at tree_at : Span} (e : Entering w q keys_at tree_at) {w1 w2 w3 w4 w5 : List ℕ} {last y m h : ℕ}
    (hs : h ≡ head_at (slot e.grouping e.tree)) (ls : last ≡ two_at w h) (ys : y ≡ last_like e.grouping e.seen e.tree)
    (ms : m ≡ mark (sum (key e.grouping e.tree)) (eqb y 0))
    (p1 : Put w w1 (back_at tree_at.from) last) (p2 : Put w1 w2 (next_at tree_at.from) 0) (p3 : Put w2 w3 (mark_at tree_at.from) m)
    (p4 : Put w3 w4 h tree_at.from) (p5 : LinkedAt w4 w5 y tree_at.from) where
  abbrev gs : List Pair
  gs = e.grouping

  abbrev x : ℕ
  x = tree_at.from

  yl : (y ≢ 0 → base ≤ y) × (y + 6 ≤ x)
  yl = like_places e ys

  head_places : (heads_at ≤ h) × (h + 2 ≤ counts_at)
  head_places = let l = slot_below gs e.tree in (omega arith, omega arith)

  mark_is : m ≡ mark (sum (key gs e.tree)) (unlike gs e.seen e.tree)
  mark_is = ms ∙ ap (λ n. mark (sum (key gs e.tree)) (eqb n 0)) ys ∙ ap (mark (sum (key gs e.tree))) (unlike_found gs e.seen e.tree)

  -- the counts are as they were
  counts_stay : (i : ℕ) → i < subsets_max → two_at w5 (count_at i) ≡ length (scan gs i [] e.seen)
  counts_stay i l =
      let k = places e in
      let j = head_places in
      let a = yl.1 in
      p5.others (count_at i) (λ n. inr (omega arith)) ∙ p4.above (count_at i) (omega arith) ∙ p3.above (count_at i) (omega arith) ∙ p2.above (count_at i) (omega arith)
      ∙ p1.above (count_at i) (omega arith) ∙ e.index.counts i l

  pub count_small : m < subsets_max → two_at w5 (count_at m) < trees_max
  count_small l =
      let k = places e in
      omega (arith, counts_stay m l, count_most gs m [] e.seen, six_each e.seen, e.seen_is.ends)

  -- one class more, if the tree begins one
  module _ {v : List ℕ} (p6 : Counted w5 v m) where
    below_counts : (b : ℕ) → b + 2 ≤ counts_at → two_at v b ≡ two_at w5 b
    below_counts b l = p6.others b (λ n. inl (omega arith))

    counted : (i : ℕ) → i < subsets_max → (k : ℕ) (first : Bool) → m ≡ mark k first → two_at v (count_at i) ≡ length (scan gs i [] e.seen) + one (eqb k i && first)
    unfolding mark
    counted i l k false z =
        p6.others (count_at i) (λ n. absurd (omega arith)) ∙ counts_stay i l ∙ omega (arith, ap one (and-false (eqb k i)))
    counted i l k true z =
        split (eqb k i)
        (λ y. let d = eqb-true k i y in
        ap (λ n. two_at v (count_at n)) (sym (z ∙ d)) ∙ p6.set (omega arith) ∙ ap (λ n. n + 1) (ap (λ n. two_at w5 (count_at n)) (z ∙ d) ∙ counts_stay i l)
        ∙ sym (rw y refl))
        (λ y. let d = eqb-false k i y in
        p6.others (count_at i) (λ n. away d) ∙ counts_stay i l ∙ sym (rw y (omega arith)))
      where
        away : (k ≡ i → ⊥) → (count_at i + 2 ≤ count_at m) ⊎ (count_at m + 2 ≤ count_at i)
        away d = split (ltb i k)
            (λ x. let j = ltb-true i k x in inl (omega arith))
            (λ x. let j = ltb-false i k x in inr (omega (arith, d)))

    counts_grown : (i : ℕ) → i < subsets_max → two_at v (count_at i) ≡ length (scan gs i [] (e.seen ++ (e.tree ∷ [])))
    unfolding begins unlike
    counts_grown i l = counted i l (sum (key gs e.tree)) (unlike gs e.seen e.tree) mark_is ∙ sym (count_behind gs i [] e.seen e.tree)

    -- the numbers below those of this tree, except the link that changes
    stays : (b : ℕ) → b + 2 ≤ back_at x → (y ≢ 0 → (b + 2 ≤ next_at y) ⊎ (next_at y + 2 ≤ b)) → two_at v b ≡ two_at w b
    stays b l k =
        let i = places e in
        let j = head_places in
        below_counts b (omega arith) ∙ p5.others b k ∙ p4.below b (omega arith) ∙ p3.below b (omega arith) ∙ p2.below b (omega arith) ∙ p1.below b (omega arith)

    -- its own three
    own : (b : ℕ) → next_at y + 2 ≤ b → b + 2 ≤ heads_at → two_at v b ≡ two_at w3 b
    own b l u = let j = head_places in below_counts b (omega arith) ∙ p5.others b (λ n. inr l) ∙ p4.below b (omega arith)

    tops : (i : ℕ) → i < slots → two_at v (head_at i) ≡ cond (eqb (slot gs e.tree) i) x (two_at w (head_at i))
    tops i l =
        let k = places e in
        let a = yl.1 in
        let behind = below_counts (head_at i) (omega arith) ∙ p5.others (head_at i) (λ n. inr (omega arith)) in
        behind
        ∙ split (eqb (slot gs e.tree) i)
        (λ z. let d = eqb-true (slot gs e.tree) i z in ap (λ n. two_at w4 (head_at n)) (sym d) ∙ ap (two_at w4) (sym hs) ∙ p4.here ∙ sym (rw z refl))
        (λ z. let d = eqb-false (slot gs e.tree) i z in away d ∙ p3.above (head_at i) (omega arith) ∙ p2.above (head_at i) (omega arith) ∙ p1.above (head_at i) (omega arith) ∙ sym (rw z refl))
      where
        away : (slot gs e.tree ≡ i → ⊥) → two_at w4 (head_at i) ≡ two_at w3 (head_at i)
        away d = split (ltb i (slot gs e.tree))
            (λ z. let j = ltb-true i (slot gs e.tree) z in p4.below (head_at i) (omega arith))
            (λ z. let j = ltb-false i (slot gs e.tree) z in p4.above (head_at i) (omega (arith, d)))

    -- each tree before it is the one whose link changes, or apart from it
    abbrev Before : Spot Tree → Type 0
    Before s = Apart 6 s.0 y × ((base ≤ s.0) × (s.0 + 6 ≤ x))

    before_it : All Before (standing e.seen)
    before_it =
        all_both (λ s. Apart 6 s.0 y) (λ s. (base ≤ s.0) × (s.0 + 6 ≤ x)) (standing e.seen)
        (subst (λ n. All (λ s. Apart 6 s.0 n) (standing e.seen)) (sym ys)
        (apart_found 6 (λ u. alike gs u e.tree) (standing e.seen) (rising_left 6 0 (standing e.seen) ((x, e.tree) ∷ []) (rising e))))
        (seen_places e)

    backs_stay : All (λ s. two_at v (back_at s.0) ≡ two_at w (back_at s.0)) (standing e.seen)
    backs_stay =
        All-imply Before (λ s. two_at v (back_at s.0) ≡ two_at w (back_at s.0))
        (λ s h. let a = h.1.0 in let b = h.1.1 in stays (back_at s.0) (omega arith) (λ n. away s.0 a (yl.0 n) h.0))
        (standing e.seen) before_it
      where
        away : (o : ℕ) → base ≤ o → base ≤ y → Apart 6 o y → (back_at o + 2 ≤ next_at y) ⊎ (next_at y + 2 ≤ back_at o)
        away o l k (inl z) = inl (omega arith)
        away o l k (inr (inl z)) = inl (omega arith)
        away o l k (inr (inr z)) = inr (omega arith)

    marks_stay : All (λ s. two_at v (mark_at s.0) ≡ two_at w (mark_at s.0)) (standing e.seen)
    marks_stay =
        All-imply Before (λ s. two_at v (mark_at s.0) ≡ two_at w (mark_at s.0))
        (λ s h. let a = h.1.0 in let b = h.1.1 in stays (mark_at s.0) (omega arith) (λ n. away s.0 a (yl.0 n) h.0))
        (standing e.seen) before_it
      where
        away : (o : ℕ) → base ≤ o → base ≤ y → Apart 6 o y → (mark_at o + 2 ≤ next_at y) ⊎ (next_at y + 2 ≤ mark_at o)
        away o l k (inl z) = inr (omega arith)
        away o l k (inr (inl z)) = inl (omega arith)
        away o l k (inr (inr z)) = inr (omega arith)

    stored : Stored (alike gs) (slot gs) slots 6 (standing e.seen) x e.tree (λ a. two_at w (next_at a)) (λ a. two_at w (back_at a)) (λ i. two_at w (head_at i))
        (λ a. two_at v (next_at a)) (λ a. two_at v (back_at a)) (λ i. two_at v (head_at i))
    stored =
        let i = places e in
        let a = yl.1 in
        record {
          nexts = subst (λ n. Entered 6 (λ a. two_at w (next_at a)) (λ a. two_at v (next_at a)) n x) ys record {
            linked = λ n. below_counts (next_at y) (omega arith) ∙ p5.set n;
            ended = own (next_at x) (omega arith) (omega arith) ∙ p3.below (next_at x) (omega arith) ∙ p2.here;
            before = λ o l. let b = yl.0 (λ z. omega arith) in stays (next_at o) (omega arith) (λ n. inl (omega arith));
            between = λ o l u. stays (next_at o) (omega arith) (λ n. let b = yl.0 n in inr (omega arith));
          };
          back_set =
              own (back_at x) (omega arith) (omega arith) ∙ p3.below (back_at x) (omega arith) ∙ p2.below (back_at x) (omega arith) ∙ p1.here ∙ ls ∙ ap (two_at w) hs;
          backs_stay = backs_stay;
          tops = tops;
        }

    mark_set : two_at v (mark_at x) ≡ mark (sum (key gs e.tree)) (unlike gs e.seen e.tree)
    mark_set =
        let i = places e in
        let a = yl.1 in
        own (mark_at x) (omega arith) (omega arith) ∙ p3.here ∙ mark_is

    standing_behind : standing (e.seen ++ (e.tree ∷ [])) ≡ standing e.seen ++ ((x, e.tree) ∷ [])
    unfolding spots
    standing_behind = spots_append size_of base e.seen (e.tree ∷ []) ∙ ap (λ b. standing e.seen ++ ((b, e.tree) ∷ [])) (end_seen e)

    pub index_grown : Index v gs (e.seen ++ (e.tree ∷ []))
    index_grown = record {
      links =
          spots_entered (alike gs) (alike_equivalence gs) size_of 6 (omega arith) six base (omega arith) (slot gs) slots _ _ _ _ _ _ e.seen e.tree
          (slot_below gs e.tree) e.index.links
          (subst (λ b. Stored (alike gs) (slot gs) slots 6 (standing e.seen) b e.tree (λ a. two_at w (next_at a)) (λ a. two_at w (back_at a)) (λ i. two_at w (head_at i))
          (λ a. two_at v (next_at a)) (λ a. two_at v (back_at a)) (λ i. two_at v (head_at i))) (sym (end_seen e)) stored);
      marks =
          subst (Marks gs (λ a. two_at v (mark_at a)) []) (sym standing_behind)
          (marks_entered gs (λ a. two_at w (mark_at a)) (λ a. two_at v (mark_at a)) x e.tree [] (standing e.seen) marks_stay
          (mark_set ∙ ap (λ l. mark (sum (key gs e.tree)) (unlike gs l e.tree)) (sym (spots_elements size_of base e.seen))) e.index.marks);
      counts = counts_grown;
    }

-- ---- the whole of it
pub enters : {w v q : List ℕ} {keys_at tree_at : Span} → drop base v ≡ drop base w
    → ((e : Entering w q keys_at tree_at) → Index v e.grouping (e.seen ++ (e.tree ∷ []))) → Enters w v q keys_at tree_at
enters b h = record { beyond = b; index = h }
