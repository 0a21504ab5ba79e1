-- Laws of places, of the room that their heads take, and of those heads stored before a content.
use Rattle.std.specs.Prelude.{◌≡◌, List, [], ◌∷◌, ◌++◌, ℕ, zero, suc, ◌+◌, ◌-◌, ◌*◌, ◌≤◌, length, take, drop, get_or, Ok, Err}
use Rattle.std.proofs.Math.Path.{refl}
use Rattle.std.proofs.Common.{sym, ap, subst, ◌∙◌, append-nil, add-one, take-take, take-suc}
use native.Mathlib.Omega.{arith}
use Rattle.std.proofs.Math.Seq.{take-length}
use Rattle.spec_trees.specs.Tree.{Tree, node, Trees, ε, ◌▹◌, void, bare, label, bare_void, trees}
use Rattle.spec_trees.specs.Bytes.{field_bytes, bytes, root_f, tree_f, tree_fs, tree_bytes, label_heads}
use Rattle.areas.specs.Area.{IsAt, Wrote, head_bytes, Out, too_large}
use Rattle.areas.specs.declared.span.Span.{Span}
use Rattle.areas.specs.AreaLaws.{failed, length_field}
use Rattle.spec_trees.proofs.FieldLaws.{bytes_one}
use Rattle.format.specs.Stand.{entry_of, entry_bytes, Behind, Headed}
use Rattle.format.specs.StandLaws.{heads_most, length_entry, labels_first}
use Rattle.format.specs.HeadedLaws.{headed_none, headed_seq, headed_bytes, headed_field}
use Rattle.spec_queries.specs.Query.{Path}
use Rattle.queries.specs.Places.{path_bytes}
use Rattle.queries.specs.Steps.{step_count, step_at}
use Rattle.queries.specs.StepLaws.{steps_are, step_is}
use Rattle.spec_stages.specs.Project.{place_at}
use Rattle.place.specs.Writers.{Along}
use Rattle.place.specs.WriterLaws.{along_short, rest_of, rest_none}
use Rattle.place.specs.Place.{under, place_bytes, place_room, room_at, Placed}

-- ---- room
pub room_none : (q : List ℕ) (p : Span) {i : ℕ} → i ≡ 0 → room_at q p i ≡ 0
unfolding room_at
room_none q p z = ap (room_at q p) z

room_step : (q : List ℕ) (p : Span) (i : ℕ) → room_at q p (i + 1) ≡ room_at q p i + (6 + label_heads (step_at q p i))
unfolding room_at
room_step q p i = ap (room_at q p) (add-one i)

pub room_before : (q : List ℕ) (p : Span) (i j : ℕ) {k : ℕ} → i ≡ j + 1 → k ≡ step_at q p j → room_at q p i ≡ room_at q p j + (6 + label_heads k)
room_before q p i j y z = ap (room_at q p) y ∙ room_step q p j ∙ ap (λ n. room_at q p j + (6 + label_heads n)) (sym z)

-- no step takes more than 14 bytes
room_most : (q : List ℕ) (p : Span) (i : ℕ) → room_at q p i ≤ 14 * i
unfolding room_at
room_most q p zero = omega arith
room_most q p (suc i) = omega (arith, room_most q p i, heads_most (step_at q p i))

room_last : (p : Path) (k : ℕ) → place_room (p ++ (k ∷ [])) ≡ place_room p + (6 + label_heads k)
unfolding place_room
room_last [] k = omega arith
room_last (j ∷ p) k = omega (arith, room_last p k)

-- the room by the bytes is that of the path that stands there
pub room_is : {q : List ℕ} {p : Span} (path : Path) → IsAt q p (path_bytes path) → (i : ℕ) → i ≤ length path → room_at q p i ≡ place_room (take i path)
unfolding room_at place_room
room_is path h zero l = refl
room_is {q} {p} path h (suc i) l =
    let k = get_or path i 0 in
    ap (λ n. n + (6 + label_heads (step_at q p i))) (room_is path h i (omega arith)) ∙ ap (λ j. place_room (take i path) + (6 + label_heads j)) (step_is path h i (omega arith))
    ∙ sym (ap place_room (take-suc path i 0 (omega arith)) ∙ room_last (take i path) k)

pub room_all : {q : List ℕ} {p : Span} (path : Path) → IsAt q p (path_bytes path) → room_at q p (step_count q p) ≡ place_room path
room_all {q} {p} path h =
    ap (room_at q p) (steps_are path h) ∙ room_is path h (length path) (omega arith) ∙ ap place_room (take-length path)

-- an allowed path has eight steps or fewer
pub room_small : {q : List ℕ} {p : Span} → Along q p → (i : ℕ) → i ≤ step_count q p → room_at q p i ≤ 112
room_small {q} {p} h i l = omega (arith, along_short h, room_most q p i)

-- ---- a void tree with one label
pub length_under : (k : ℕ) (c : List ℕ) → length (under k c) ≡ 6 + label_heads k + length c
unfolding under
length_under k c = omega (arith, length_field (2, 3 ∷ 0 ∷ 0 ∷ entry_of k c), length_entry k c)

module _ {w w1 w2 w3 : List ℕ} {d : ℕ} (k : ℕ) {e : ℕ} {r q : Out} (b : d + (6 + label_heads k) ≤ e) (l2 : e ≤ length w2) (z : q ≡ Ok e)
    (h1 : Headed (entry_of k) (label_heads k) w w1 (d + 6) r q)
    (h2 : Wrote w1 w2 (d + 3) (d + 3 + 3) (head_bytes 3 (d + 6 - (d + 3 + 3))) (Ok (d + 3 + 3)))
    (h3 : Wrote w2 w3 d (d + 3) (head_bytes 2 (e - (d + 3))) (Ok (d + 3))) where
  pub headed_under : Headed (under k) (6 + label_heads k) w w3 d r (Ok e)
  unfolding under
  headed_under =
      let n : d + 6 - (d + 3 + 3) ≡ 0 = omega arith in
      let a2 : Headed (λ c. 3 ∷ 0 ∷ 0 ∷ c) 3 w1 w2 (d + 3) q (Ok e) = headed_bytes (head_bytes 3 0) 3 refl z
      (subst (λ m. Wrote w1 w2 (d + 3) (d + 3 + 3) (head_bytes 3 m) (Ok (d + 3 + 3))) n h2) in
      let a3 : Headed (λ c. field_bytes (2, c)) 3 w2 w3 d (Ok e) (Ok e) = headed_field 2 (omega arith) l2 refl h3 in
      headed_seq {n = 3 + label_heads k} refl (omega arith) (headed_seq {n = label_heads k} (omega arith) refl h1 a2) a3

-- the entry inside it
pub behind_entry : (w : List ℕ) (d k : ℕ) {r : Out} → Behind w (d + (6 + label_heads k)) r → Behind w (d + 6 + label_heads k) r
behind_entry w d k b e q = omega (arith, b e q)

pub large_entry : {w x : List ℕ} {d : ℕ} (k : ℕ) {r q : Out} → Headed (entry_of k) (label_heads k) w x (d + 6) r q → q ≡ Err too_large
    → Headed (under k) (6 + label_heads k) w x d r (Err too_large)
large_entry {w} {x} {d} k {r} {q} h z = record {
  same = sym z ∙ h.same;
  wrote = λ u stop c b f.
      let e : d + (6 + label_heads k) ≡ d + 6 + label_heads k = omega arith in
      let g = (h.wrote u stop c (omega arith) (subst (λ n. Wrote u w n stop c r) e f)).large z in
      failed record {
        over = omega (arith, length_entry k c, length_under k c);
        below = sym (take-take d (d + 6) x (omega arith)) ∙ ap (take d) g.below ∙ take-take d (d + 6) u (omega arith);
        beyond = g.beyond;
      };
}

-- ---- the bare void tree
pub void_bytes : tree_bytes bare_void ≡ 2 ∷ 0 ∷ 3 ∷ 3 ∷ 0 ∷ 0 ∷ []
unfolding tree_bytes tree_f field_bytes bytes root_f
void_bytes = refl

pub void_wrote : {w x : List ℕ} {d stop : ℕ} {r : Out} → Wrote w x d stop (2 ∷ 0 ∷ 3 ∷ 3 ∷ 0 ∷ 0 ∷ []) r → Wrote w x d stop (tree_bytes bare_void) r
void_wrote {w} {x} {d} {stop} {r} h = subst (λ l. Wrote w x d stop l r) (sym void_bytes) h

-- ---- a place
pub length_place : (p : Path) (c : List ℕ) → length (place_bytes p c) ≡ place_room p + length c
unfolding place_bytes place_room
length_place [] c = omega arith
length_place (k ∷ p) c = omega (arith, length_under k (place_bytes p c), length_place p c)

-- one more step, from the inside out: from step i to step j before it, and from `at` down to `to`
pub place_next : {w v x q : List ℕ} {p : Span} (path : Path) (i j : ℕ) {at to k : ℕ} {r o s : Out} → i ≡ j + 1 → at ≡ to + (6 + label_heads k) → IsAt q p (path_bytes path)
    → i ≤ step_count q p → k ≡ step_at q p j
    → Headed (place_bytes (drop i path)) (place_room (drop i path)) w v at r o
    → Headed (under k) (6 + label_heads k) v x to o s
    → Headed (place_bytes (drop j path)) (place_room (drop j path)) w x to r s
unfolding place_bytes place_room
place_next {w} {v} {x} {q} {p} path i j {at} {to} {k} {r} {o} {s} y u h l z a b =
    let g = headed_seq {k = 6 + label_heads k + place_room (drop i path)} u refl a b in
    let f : drop j path ≡ k ∷ drop i path = rest_of path j h (omega arith) z ∙ ap (λ n. k ∷ drop n path) (sym y) in
    subst (λ l. Headed (place_bytes l) (place_room l) w x to r s) (sym f) g

-- at the end of the path, and at its start
pub place_last : {w q : List ℕ} {p : Span} (path : Path) (at i : ℕ) {r : Out} → IsAt q p (path_bytes path) → i ≡ step_count q p
    → Headed (place_bytes (drop i path)) (place_room (drop i path)) w w at r r
unfolding place_bytes place_room
place_last {w} {q} {p} path at i {r} h z =
    subst (λ l. Headed (place_bytes l) (place_room l) w w at r r) (sym (rest_none path i h z)) headed_none

pub place_first : {w v : List ℕ} (path : Path) {at d i : ℕ} {r o : Out} → i ≡ 0 → at ≡ d
    → Headed (place_bytes (drop i path)) (place_room (drop i path)) w v at r o → Headed (place_bytes path) (place_room path) w v d r o
place_first {w} {v} path {at} {d} {i} {r} {o} z y h =
    subst (λ m. Headed (place_bytes path) (place_room path) w v m r o) y
    (subst (λ j. Headed (place_bytes (drop j path)) (place_room (drop j path)) w v at r o) z h)

-- the bytes of a place are those of the tree, for a path that is not empty
pub labels_one : (k : ℕ) (a : Trees) → tree_bytes (node void (label k a bare)) ≡ under k (bytes (tree_fs a))
unfolding tree_bytes tree_f under bytes root_f field_bytes
labels_one k a = ap (λ l. field_bytes (2, 3 ∷ 0 ∷ 0 ∷ l)) (labels_first k a bare ∙ append-nil (entry_bytes k a))

labels_nested : (k : ℕ) (t : Tree) → tree_bytes (node void (label k (t ▹ ε) bare)) ≡ under k (tree_bytes t)
unfolding tree_bytes tree_f
labels_nested k t = labels_one k (t ▹ ε) ∙ ap (under k) (bytes_one (tree_f t))

pub place_bytes_lem : (path : Path) (a : List Tree) → 1 ≤ length path → tree_bytes (place_at path a) ≡ place_bytes path (bytes (tree_fs (trees a)))
unfolding place_at place_bytes
place_bytes_lem [] a l = absurd (omega arith)
place_bytes_lem (k ∷ []) a l = labels_one k (trees a)
place_bytes_lem (k ∷ j ∷ p) a l = labels_nested k (place_at (j ∷ p) a) ∙ ap (under k) (place_bytes_lem (j ∷ p) a (omega arith))

-- the tree, for the trees of an array
module _ {u w x q : List ℕ} {p : Span} {d stop : ℕ} {r o : Out} (path : Path) (a : List Tree) (n : 1 ≤ length path) where
  pub placed_tree : Placed w x q p d r o → IsAt q p (path_bytes path) → d + place_room path ≤ length u
      → Wrote u w (d + place_room path) stop (bytes (tree_fs (trees a))) r → Wrote u x d stop (tree_bytes (place_at path a)) o
  placed_tree g h b f = subst (λ l. Wrote u x d stop l o) (sym (place_bytes_lem path a n)) ((g path h).wrote u stop (bytes (tree_fs (trees a))) b f)

-- what was written behind a step stands behind the steps before it
pub behind_at_lem : (w : List ℕ) {d i : ℕ} {r : Out} → i ≡ d → Behind w d r → Behind w i r
behind_at_lem w y b e q = omega (arith, b e q)

pub behind_wrapped : {w x : List ℕ} {f : List ℕ → List ℕ} {n d at : ℕ} {r o : Out} → d ≤ at → length x ≡ length w → Headed f n w x d r o → Behind w at r → Behind x d o
behind_wrapped y l h b e q = omega (arith, b e (sym h.same ∙ q))
