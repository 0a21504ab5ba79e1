-- What was placed at single, distinct labels is read there: of the tree of a class, its key and what its aggregates
-- took.
use Rattle.std.specs.Prelude.{◌≡◌, refl, List, [], ◌∷◌, ◌++◌, map, Bool, true, false, cond, not, ◌&&◌, ℕ, length, eqb}
use Rattle.std.proofs.Common.{sym, ap, ap₂, ◌∙◌, arith, eqb-true, eq-eqb, ne_eqb}
use Rattle.std.proofs.Math.Option.{none, some}
use Rattle.spec_trees.specs.Options.{maybe}
use Rattle.spec_trees.specs.OptionLaws.{eqb_same, split, apart, both_true, some_equal}
use Rattle.spec_trees.specs.Lists.{All, all}
use Rattle.spec_trees.specs.Tree.{Tree, node, Labels, bare, label, list, trees, labels, bare_void, find}
use Rattle.spec_trees.specs.Size.{fits}
use Rattle.spec_trees.specs.SizeLaws.{list_trees}
use Rattle.spec_trees.specs.FindLaws.{find_put}
use Rattle.spec_queries.specs.Query.{Path, Pair}
use Rattle.spec_queries.specs.Again.{targets, leads, distinct_labels, distinct_targets}
use Rattle.spec_stages.specs.Paths.{Given, apply}
use Rattle.spec_stages.specs.Merge.{merge, merge_a, merge_l, build}
use Rattle.spec_stages.specs.Project.{place_at, placed}
use Rattle.spec_stages.specs.Group.{aggregate}
use Rattle.spec_stages.specs.Keys.{shown, made}
use Rattle.spec_stages.proofs.PathLaws.{apply_label}

-- ---- labels
-- of two trees merged, one without the label
find_left : (i : ℕ) (ls ms : Labels) → find i ms ≡ none → find i (merge_l ls ms) ≡ find i ls
unfolding find merge maybe
find_left i bare ms h = h
find_left i (label k a ls) ms h = find_put i k (maybe a (λ b. merge_a a (trees b)) (find k ms)) (merge_l ls ms) ∙ split (eqb i k)
    (λ z. rw (z, ap (λ n. find n ms) (sym (eqb-true i k z)) ∙ h) refl)
    (λ z. rw z (find_left i ls ms h))

find_right : (i : ℕ) (ls ms : Labels) → find i ls ≡ none → find i (merge_l ls ms) ≡ find i ms
unfolding find merge
find_right i bare ms h = refl
find_right i (label k a ls) ms h = find_put i k (maybe a (λ b. merge_a a (trees b)) (find k ms)) (merge_l ls ms) ∙ split (eqb i k)
    (λ z. let y : some (list a) ≡ none = rw z at h in let z : ◌≡◌ {A = ℕ} 0 1 = cc in absurd (omega arith))
    (λ z. rw z (find_right i ls ms (rw z at h)))

-- ---- paths of one label
merged_labels : (s t : Tree) → labels (merge s t) ≡ merge_l (labels s) (labels t)
unfolding merge
merged_labels (node r ls) t = refl

-- what is placed at d is read there, and stays when a tree without it is merged
record Simple (d : Path) : Type 0 where
  unplaced : apply d bare_void ≡ none
  own : (x : Given) → apply d (placed d x) ≡ x
  left : (s t : Tree) → apply d t ≡ none → apply d (merge s t) ≡ apply d s
  right : (s t : Tree) → apply d s ≡ none → apply d (merge s t) ≡ apply d t

simple : (k : ℕ) → Simple (k ∷ [])
unfolding placed place_at find
simple k = record {
  unplaced = apply_label k bare_void;
  own = own;
  left = λ s t h.
      apply_label k (merge s t) ∙ ap (find k) (merged_labels s t) ∙ find_left k (labels s) (labels t) (sym (apply_label k t) ∙ h) ∙ sym (apply_label k s);
  right = λ s t h.
      apply_label k (merge s t) ∙ ap (find k) (merged_labels s t) ∙ find_right k (labels s) (labels t) (sym (apply_label k s) ∙ h) ∙ sym (apply_label k t);
}
  where
    own : (x : Given) → apply (k ∷ []) (placed (k ∷ []) x) ≡ x
    own none = apply_label k bare_void
    own (some a) = apply_label k (place_at (k ∷ []) a) ∙ rw (eqb_same k, list_trees a) refl

-- what is placed at c is not read at d, and the other way round
abbrev Apart : Path → Path → Type 0
Apart d c = (x : Given) → (apply d (placed c x) ≡ none) × (apply c (placed d x) ≡ none)

label_other : (k j : ℕ) → (k ≡ j → ⊥) → (x : Given) → apply (k ∷ []) (placed (j ∷ []) x) ≡ none
unfolding placed place_at find
label_other k j n none = apply_label k bare_void
label_other k j n (some a) = apply_label k (place_at (j ∷ []) a) ∙ rw (ne_eqb k j n) refl

labels_apart : (k : ℕ) (ds : List Path) → all (λ d. not (leads k d)) ds ≡ true → distinct_labels ds ≡ true → All (Apart (k ∷ [])) ds
unfolding all leads distinct_labels
labels_apart k [] h g = tt
labels_apart k ([] ∷ ds) h g = apart g refl
labels_apart k ((j ∷ []) ∷ ds) h g =
    let a = both_true (not (eqb k j)) (all (λ d. not (leads k d)) ds) h in
    let n : k ≡ j → ⊥ = λ z. apart a.0 (ap not (eq-eqb k j z)) in (
      λ x. (label_other k j n x, label_other j k (λ z. n (sym z)) x),
      labels_apart k ds a.1 (both_true (all (λ d. not (leads j d)) ds) (distinct_labels ds) g).1,
    )
labels_apart k ((j ∷ i ∷ d) ∷ ds) h g = apart g refl

abbrev Distinct : List Path → Type 0
Distinct [] = Unit {0}
Distinct (d ∷ ds) = Simple d × All (Apart d) ds × Distinct ds

labels_distinct : (ds : List Path) → distinct_labels ds ≡ true → Distinct ds
unfolding distinct_labels
labels_distinct [] g = tt
labels_distinct ([] ∷ ds) g = apart g refl
labels_distinct ((k ∷ []) ∷ ds) g =
    let a = both_true (all (λ d. not (leads k d)) ds) (distinct_labels ds) g in (simple k, labels_apart k ds a.0 a.1, labels_distinct ds a.1)
labels_distinct ((k ∷ j ∷ d) ∷ ds) g = apart g refl

-- ---- a tree that was built
-- a tree in which nothing is read at d
abbrev Lacks : Path → Tree → Type 0
Lacks d t = apply d t ≡ none

build_step : (s t : Tree) (ts : List Tree) {r : Tree} → build s (t ∷ ts) ≡ some r → build (merge s t) ts ≡ some r
unfolding build
build_step s t ts {r} h = go (fits t && fits (merge s t)) h
  where
    go : (b : Bool) → cond b (build (merge s t) ts) none ≡ some r → build (merge s t) ts ≡ some r
    go true h = h
    go false h = let z : ◌≡◌ {A = ℕ} 0 1 = cc in absurd (omega arith)

build_lacks : {d : Path} → Simple d → (s : Tree) (ts : List Tree) {r : Tree} → All (Lacks d) ts → build s ts ≡ some r → apply d r ≡ apply d s
unfolding build
build_lacks {d} p s [] {r} l h = ap (apply d) (sym (some_equal s r h))
build_lacks p s (t ∷ ts) l h = build_lacks p (merge s t) ts l.1 (build_step s t ts h) ∙ p.left s t l.0

-- after merging what is placed at d, nothing is read at the others yet
still_lacks : (d : Path) (x : Given) (s : Tree) (cs : List Path) → All (Apart d) cs → Distinct cs
    → All (λ c. Lacks c s) cs → All (λ c. Lacks c (merge s (placed d x))) cs
still_lacks d x s [] a p l = tt
still_lacks d x s (c ∷ cs) a p l = (p.0.left s (placed d x) (a.0 x).1 ∙ l.0, still_lacks d x s cs a.1 p.2 l.1)

-- one part after another: what it placed is read at the end
module _ (d : Path) (p : Simple d) (x : Given) (s : Tree) (ts : List Tree) {r : Tree} where
  build_reads : Lacks d s → All (Lacks d) ts → build (merge s (placed d x)) ts ≡ some r → apply d r ≡ x
  build_reads n l h = build_lacks p (merge s (placed d x)) ts l h ∙ p.right s (placed d x) n ∙ p.own x

lacks_shown : (d : Path) (gs : List Pair) (x : List Given) → All (Apart d) (targets gs) → All (Lacks d) (shown gs x)
unfolding shown placed
lacks_shown d [] x a = tt
lacks_shown d (p ∷ gs) [] a = tt
lacks_shown d (p ∷ gs) (none ∷ x) a = lacks_shown d gs x a.1
lacks_shown d (p ∷ gs) (some y ∷ x) a = ((a.0 (some y)).0, lacks_shown d gs x a.1)

-- the key
reads_shown : (gs : List Pair) (x : List Given) (s : Tree) {r : Tree} → length x ≡ length gs → Distinct (targets gs)
    → All (λ d. Lacks d s) (targets gs) → build s (shown gs x) ≡ some r → map (λ p. apply p.target r) gs ≡ x
unfolding shown placed
reads_shown [] [] s n o l h = refl
reads_shown [] (y ∷ x) s n o l h = absurd (omega arith)
reads_shown (p ∷ gs) [] s n o l h = absurd (omega arith)
reads_shown (p ∷ gs) (none ∷ x) s n o l h =
    ap₂ ◌∷◌ (build_lacks o.0 s (shown gs x) (lacks_shown p.target gs x o.1) h ∙ l.0) (reads_shown gs x s (omega arith) o.2 l.1 h)
reads_shown (p ∷ gs) (some y ∷ x) s n o l h =
    let z = build_step s (placed p.target (some y)) (shown gs x) h in
    ap₂ ◌∷◌
    (build_reads p.target o.0 (some y) s (shown gs x) l.0 (lacks_shown p.target gs x o.1) z)
    (reads_shown gs x (merge s (placed p.target (some y))) (omega arith) o.2 (still_lacks p.target (some y) s (targets gs) o.1 o.2 l.1) z)

-- the aggregates, and the key behind them
module _ (f : Pair → Given) (gs : List Pair) (x : List Given) (n : length x ≡ length gs) where
  abbrev placed_by : List Pair → List Tree
  placed_by ag = map (λ p. placed p.target (f p)) ag ++ shown gs x

  lacks_parts : (d : Path) (ag : List Pair) → All (Apart d) (targets (ag ++ gs)) → All (Lacks d) (placed_by ag)
  lacks_parts d [] a = lacks_shown d gs x a
  lacks_parts d (p ∷ ag) a = ((a.0 (f p)).0, lacks_parts d ag a.1)

  reads_parts : (ag : List Pair) (s : Tree) {r : Tree} → Distinct (targets (ag ++ gs)) → All (λ d. Lacks d s) (targets (ag ++ gs))
      → build s (placed_by ag) ≡ some r → All (λ p. apply p.target r ≡ f p) ag × (map (λ p. apply p.target r) gs ≡ x)
  reads_parts [] s o l h = (tt, reads_shown gs x s n o l h)
  reads_parts (p ∷ ag) s o l h =
      let z = build_step s (placed p.target (f p)) (placed_by ag) h in
      let i = reads_parts ag (merge s (placed p.target (f p))) o.2 (still_lacks p.target (f p) s (targets (ag ++ gs)) o.1 o.2 l.1) z in
      ((build_reads p.target o.0 (f p) s (placed_by ag) l.0 (lacks_parts p.target ag o.1) z, i.0), i.1)

bare_lacks : (ds : List Path) → Distinct ds → All (λ d. Lacks d bare_void) ds
bare_lacks [] o = tt
bare_lacks (d ∷ ds) o = (o.0.unplaced, bare_lacks ds o.2)

-- of the tree of a class
pub made_reads : (ag gs : List Pair) (x : List Given) (ms : List Tree) {r : Tree} → distinct_targets ag gs ≡ true → length x ≡ length gs
    → made ag gs x ms ≡ some r → All (λ p. apply p.target r ≡ aggregate p ms) ag × (map (λ p. apply p.target r) gs ≡ x)
unfolding distinct_targets made
made_reads ag gs x ms g n h =
    let o = labels_distinct (targets (ag ++ gs)) g in reads_parts (λ p. aggregate p ms) gs x n ag bare_void o (bare_lacks (targets (ag ++ gs)) o) h
