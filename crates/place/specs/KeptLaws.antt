-- A keep written: by the empty path, without the label, and with it; and the keeps of an array's trees, one after
-- another.
use Rattle.std.specs.Prelude.{◌≡◌, refl, List, ◌∷◌, ◌++◌, map, ℕ, ◌+◌, ◌-◌, ◌≤◌, ◌<◌, length, take, drop, Some, None, Ok, Err}
use Rattle.std.proofs.Common.{sym, ◌∙◌, arith}
use Rattle.std.proofs.Math.Path.{ap, subst}
use Rattle.std.proofs.Math.Option.{none, some}
use Rattle.spec_trees.specs.Options.{maybe}
use Rattle.spec_trees.specs.Tree.{Tree, node, void, Trees, ◌▹◌, bare, label, labels, list, trees, bare_void, find}
use Rattle.spec_trees.specs.Bytes.{bytes, tree_f, tree_bytes, label_heads}
use Rattle.areas.specs.Area.{Is, IsAt, span, Wrote, field_end, Out, too_large}
use Rattle.areas.specs.declared.span.Span.{Span}
use Rattle.format.specs.Stand.{trees_bytes, EntryFound, Finds, Behind, Headed}
use Rattle.areas.specs.AreaLaws.{is_copied, is_keep, no_room, wrote_keep, wrote_none, wrote_fail, wrote_seq}
use Rattle.format.specs.StandLaws.{tree_parts, trees_parts, trees_none}
use Rattle.spec_queries.specs.Query.{Path}
use Rattle.queries.specs.Places.{path_bytes}
use Rattle.queries.specs.Steps.{step_count, step_at}
use Rattle.spec_stages.specs.Project.{kept}
use Rattle.place.specs.Writers.{WriterReady}
use Rattle.place.specs.Place.{under}
use Rattle.place.specs.Kept.{kept_trees, Keeps, KeepsEach}
use Rattle.place.specs.WriterLaws.{rest_of, rest_none, ready_first, ready_rest}
use Rattle.place.specs.PlaceLaws.{labels_one, length_under}
use Rattle.format.specs.Labels.{Found}

-- ---- a keep, by what stands under the label
kept_missing : (k : ℕ) (p : Path) (t : Tree) → find k (labels t) ≡ none → kept (k ∷ p) t ≡ bare_void
unfolding kept maybe
kept_missing k p t z = ap (λ x. maybe bare_void (λ a. node void (label k (trees (map (kept p) a)) bare)) x) z

kept_part : (k : ℕ) (p : Path) (t : Tree) (a : Trees) → find k (labels t) ≡ some (list a) → tree_bytes (kept (k ∷ p) t) ≡ under k (trees_bytes (kept_trees p a))
unfolding kept maybe kept_trees
kept_part k p t a z =
    ap (λ x. tree_bytes (maybe bare_void (λ a. node void (label k (trees (map (kept p) a)) bare)) x)) z ∙ labels_one k (kept_trees p a)

-- what was found under the label of the tree that stands there
found_under : {w : List ℕ} {a b l : ℕ} (k : ℕ) {o : Found} → l ≡ field_end w (a + 3) → Finds w (span l b) k o → (t : Tree) → Is w a b (tree_bytes t)
    → EntryFound w (span l b) k (labels t) o
found_under k m f t j = f (labels t) (tree_parts t m j).labels_is

-- ---- the empty path
pub keep_end : {w x q : List ℕ} {p : Span} {i a b d stop : ℕ} {r : Out} → i ≡ step_count q p → Wrote w x d stop (take (b - a) (drop a w)) r → Keeps w x q p i (span a b) (span d stop) r
unfolding kept
keep_end {w} {x} {d = d} {stop = stop} {r = r} z h path t g j =
    subst (λ l. Wrote w x d stop (tree_bytes (kept l t)) r) (sym (rest_none path _ g z)) (is_copied j h)

-- ---- a label
module _ {w : List ℕ} (q : List ℕ) (p : Span) (i : ℕ) {a b k l : ℕ} {o : Found} (n : i < step_count q p) (s : k ≡ step_at q p i)
    (m : l ≡ field_end w (a + 3)) (f : Finds w (span l b) k o) where
  pub keep_missing : {x : List ℕ} {d stop : ℕ} {r : Out} → o ≡ None → Wrote w x d stop (tree_bytes bare_void) r → Keeps w x q p i (span a b) (span d stop) r
  keep_missing {x} {d} {stop} {r} z h path t g j =
      let c : kept (drop i path) t ≡ bare_void = ap (λ l. kept l t) (rest_of path i g n s) ∙ kept_missing k (drop (i + 1) path) t ((found_under k m f t j).missing z) in
      subst (λ y. Wrote w x d stop (tree_bytes y) r) (sym c) h

  module _ {c u : ℕ} (z : o ≡ Some (span c u)) where
    array_of : (t : Tree) → Is w a b (tree_bytes t) → Trees
    array_of t j = ((found_under k m f t j).part (span c u) z).array

    part_bytes : (path : Path) (t : Tree) (g : IsAt q p (path_bytes path)) (j : Is w a b (tree_bytes t))
        → tree_bytes (kept (drop i path) t) ≡ under k (trees_bytes (kept_trees (drop (i + 1) path) (array_of t j)))
    unfolding array_of
    part_bytes path t g j =
        let y = (found_under k m f t j).part (span c u) z in
        ap (λ l. tree_bytes (kept l t)) (rest_of path i g n s) ∙ kept_part k (drop (i + 1) path) t y.array y.same

    pub keep_no_room : (d stop : ℕ) → stop < d + (6 + label_heads k) → Keeps w w q p i (span a b) (span d stop) (Err too_large)
    keep_no_room d stop h path t g j =
        let ts = trees_bytes (kept_trees (drop (i + 1) path) (array_of t j)) in
        subst (λ l. Wrote w w d stop l (Err too_large)) (sym (part_bytes path t g j)) (no_room w d stop (under k ts) (omega (arith, length_under k ts)))

    pub keep_part : {x x2 : List ℕ} {d to : ℕ} (stop : ℕ) {r r2 : Out} → to ≡ d + (6 + label_heads k) → to ≤ length w → KeepsEach w x q p (i + 1) (span c u) (span to stop) r
        → Headed (under k) (6 + label_heads k) x x2 d r r2 → Keeps w x2 q p i (span a b) (span d stop) r2
    unfolding array_of
    keep_part {x} {x2} {d} {to} stop {r} {r2} v y h j path t g jj =
        let fd = (found_under k m f t jj).part (span c u) z in
        let ts = trees_bytes (kept_trees (drop (i + 1) path) fd.array) in
        subst (λ l. Wrote w x2 d stop l r2) (sym (part_bytes path t g jj))
        (j.wrote w stop ts (omega arith) (subst (λ n. Wrote w x n stop ts r) v (h path fd.array g fd.array_is)))

-- ---- the keeps of trees
kept_first : (p : Path) (t : Tree) (ts : Trees) → trees_bytes (kept_trees p (t ▹ ts)) ≡ tree_bytes (kept p t) ++ trees_bytes (kept_trees p ts)
unfolding kept_trees bytes tree_f tree_bytes
kept_first p t ts = refl

module _ {w q : List ℕ} {p : Span} (i : ℕ) {a b d stop : ℕ} where
  pub each_end : a ≡ b → d ≤ stop → KeepsEach w w q p i (span a b) (span d stop) (Ok d)
  unfolding kept_trees bytes tree_f
  each_end z l path ts g j =
      subst (λ x. Wrote w w d stop (trees_bytes (kept_trees (drop i path) x)) (Ok d)) (sym (trees_none ts z j)) (wrote_none w d stop l)

  module _ {x : List ℕ} {m : ℕ} {o : Out} (n : a ≡ b → ⊥) (f : m ≡ field_end w a) (h : Keeps w x q p i (span a m) (span d stop) o) where
    pub each_fail : o ≡ Err too_large → KeepsEach w x q p i (span a b) (span d stop) (Err too_large)
    each_fail z path ts g j =
        let y = trees_parts ts f n j in
        let c = ap (λ l. trees_bytes (kept_trees (drop i path) l)) y.same ∙ kept_first (drop i path) y.first y.rest in
        subst (λ l. Wrote w x d stop l (Err too_large)) (sym c)
        (wrote_fail (h path y.first g y.first_is) (trees_bytes (kept_trees (drop i path) y.rest)) z)

    -- what was written of the first, and then of the rest
    pub each_next : {u : List ℕ} {s : ℕ} {r : Out} → b ≤ d → d ≤ length w → o ≡ Ok s → KeepsEach x u q p i (span m b) (span s stop) r → KeepsEach w u q p i (span a b) (span d stop) r
    each_next {u} {s} {r} l k z j path ts g jj =
        let y = trees_parts ts f n jj in
        let one = h path y.first g y.first_is in
        let c = ap (λ l. trees_bytes (kept_trees (drop i path) l)) y.same ∙ kept_first (drop i path) y.first y.rest in
        subst (λ l. Wrote w u d stop l r) (sym c)
        (wrote_seq one k z (j path y.rest g (is_keep y.rest_is (wrote_keep one k) l)))

-- what was written of the first tree stands before the rest
module _ {w q x : List ℕ} {p : Span} {i a m b d stop : ℕ} {o : Out} (k : WriterReady trees_bytes w q p i (span a b) (span d stop)) (n : a ≡ b → ⊥) (f : m ≡ field_end w a)
    (h : Keeps w x q p i (span a m) (span d stop) o) where
  pub kept_rest : {s : ℕ} → length x ≡ length w → o ≡ Ok s → WriterReady trees_bytes x q p i (span m b) (span s stop)
  kept_rest l z =
      let y = ready_first k n f in
      let g = h y.along.path y.source.value y.along.path_is y.source.value_is in
      let c = g.fits _ z in
      ready_rest k n f (wrote_keep g (omega (arith, k.room, k.inside))) l (omega (arith, c.ends)) c.room

-- what was written of all of them ends in the area
pub kept_behind : {w q x : List ℕ} {p : Span} {i a b d stop : ℕ} {o : Out} → WriterReady trees_bytes w q p i (span a b) (span d stop) → KeepsEach w x q p i (span a b) (span d stop) o
    → length x ≡ length w → Behind x d o
kept_behind k h l s z =
    let g = h k.along.path k.source.value k.along.path_is k.source.value_is in
    let c = g.fits s z in
    omega (arith, c.ends, c.room, k.inside)
