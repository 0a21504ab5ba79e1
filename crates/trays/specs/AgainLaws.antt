-- Laws of the writers of a regrouping's pairs: a field twice, one pair, one pair behind another, and those of a group.
use Rattle.std.specs.Prelude.{◌≡◌, refl, List, [], ◌∷◌, ◌++◌, map, ℕ, suc, ◌+◌, ◌-◌, ◌≤◌, ◌<◌, length, take, drop, get_or, set, Ok}
use Rattle.std.proofs.Common.{sym, ap, ap₂, ◌∙◌, append-nil, append_assoc, add-zero, add-one, arith, length-append, length-drop, length-set, length-take-le, take_all, take-add, take-suc, take-suc-set, drop-set-lt}
use Rattle.std.proofs.Math.Path.{subst}
use Rattle.std.proofs.lemmas.List.{take-set-le, drop-set-add}
use Rattle.spec_trees.specs.Bytes.{field_bytes, bytes}
use Rattle.spec_queries.specs.Query.{Pair}
use Rattle.spec_queries.specs.Bytes.{path_f, pair_f}
use Rattle.spec_queries.specs.Again.{again}
use Rattle.areas.specs.Area.{Is, Wrote, head_bytes, field_end, span}
use Rattle.areas.specs.AreaLaws.{is_part_lem, is_keep, fitted, written, wrote_keep, wrote_none, wrote_seq, finish_at, length_field}
use Rattle.areas.specs.declared.span.Span.{Span}
use Rattle.format.specs.Stand.{Holds}
use Rattle.queries.specs.Places.{path_bytes, pair_bytes, pairs_bytes, ReadsPair}
use Rattle.queries.specs.PartLaws.{list_parts, list_none}
use Rattle.queries.specs.StepLaws.{path_room}
use Rattle.queries.specs.declared.item.PairAt.{PairAt}
use Rattle.queries.specs.declared.stage.GroupAt.{GroupAt}
use Rattle.trays.specs.Again.{WroteTwice, PairRoom, PairWritten, PairsRoom, PairsWritten, GroupRoom, GroupWritten}
use Rattle.trays.specs.TrayGroupLaws.{pair_target}

-- ---- a field twice: the first i bytes of both copies are written
pub record TwiceGoing (w : List ℕ) (d : ℕ) (f v : List ℕ) (i : ℕ) : Type 0 where
  pub same : length v ≡ length w
  pub first : take (d + i) v ≡ take d w ++ take i f
  pub second : take i (drop (d + length f) v) ≡ take i f
  pub beyond : drop (d + length f + length f) v ≡ drop (d + length f + length f) w

module _ (w : List ℕ) (d : ℕ) (f : List ℕ) (b : d + length f + length f ≤ length w) where
  pub twice_begin : TwiceGoing w d f w 0
  twice_begin = record { same = refl; first = ap (λ n. take n w) (add-zero d) ∙ sym (append-nil (take d w)); second = refl; beyond = refl }

  module _ {v : List ℕ} {i : ℕ} (g : TwiceGoing w d f v i) where
    module _ (l : i < length f) where
      abbrev byte : ℕ
      byte = get_or f i 0

      abbrev stored : List ℕ
      stored = set v (d + i) byte

      pub twice_next : TwiceGoing w d f (set stored (d + length f + i) byte) (i + 1)
      twice_next =
          let n = d + length f in
          let s : d + (i + 1) ≡ suc (d + i) = omega arith in
          let more : take (i + 1) f ≡ take i f ++ (byte ∷ []) = ap (λ k. take k f) (add-one i) ∙ take-suc f i 0 l in
          let last : n + i < length v = omega (arith, g.same) in
          record {
            same = length-set stored (n + i) byte ∙ length-set v (d + i) byte ∙ g.same;
            first = ap (λ k. take k (set stored (n + i) byte)) s ∙ take-set-le (suc (d + i)) stored (n + i) byte (omega arith) ∙ take-suc-set v (d + i) byte (omega arith)
                ∙ ap (λ k. k ++ (byte ∷ [])) g.first ∙ append_assoc (take d w) (take i f) (byte ∷ []) ∙ ap (λ k. take d w ++ k) (sym more);
            second = ap (take (i + 1)) (drop-set-add n stored i byte ∙ ap (λ k. set k i byte) (drop-set-lt n v (d + i) byte (omega arith)))
                ∙ ap (λ k. take k (set (drop n v) i byte)) (add-one i) ∙ take-suc-set (drop n v) i byte (omega (arith, length-drop n v))
                ∙ ap (λ k. k ++ (byte ∷ [])) g.second ∙ sym more;
            beyond = drop-set-lt (n + length f) stored (n + i) byte (omega arith) ∙ drop-set-lt (n + length f) v (d + i) byte (omega arith) ∙ g.beyond;
          }

    pub twice_end : length f ≤ i → i ≤ length f → WroteTwice w v d f
    twice_end n m =
        let z : i ≡ length f = omega arith in
        let all : take i f ≡ f = take_all i f (omega arith) in
        let front : take (d + length f) v ≡ take d w ++ f = ap (λ k. take (d + k) v) (sym z) ∙ g.first ∙ ap (λ k. take d w ++ k) all in
        let back : take (length f) (drop (d + length f) v) ≡ f = ap (λ k. take k (drop (d + length f) v)) (sym z) ∙ g.second ∙ all in
        fitted record {
          ends = omega (arith, length-append f f);
          room = b;
          below = take-add (d + length f) (length f) v ∙ ap₂ ◌++◌ front back ∙ append_assoc (take d w) f f;
          beyond = g.beyond;
        }

-- ---- one pair
-- the field that is lent
abbrev field : List ℕ → Span → List ℕ
field q t = take (t.to - t.from) (drop t.from q)

-- y is what the copies of the field left, v what the head did
pub pair_written : (q : List ℕ) (t : Span) (d : ℕ) {w y v : List ℕ} → d + 3 + length (field q t) + length (field q t) ≤ length w → length y ≡ length w
    → WroteTwice w y (d + 3) (field q t) → Wrote y v d (d + 3) (head_bytes 49 (d + 3 + length (field q t) + length (field q t) - (d + 3))) (Ok (d + 3))
    → PairWritten w v d q t (d + 3 + length (field q t) + length (field q t))
unfolding pair_f bytes
pair_written q t d {w} {y} b l twice head p i =
    let c = bytes (path_f p ∷ path_f p ∷ []) in
    let z : field q t ++ field q t ≡ c = ap₂ ◌++◌ (is_part_lem i) (is_part_lem i ∙ sym (append-nil (path_bytes p))) in
    let e = d + 3 + length (field q t) + length (field q t) in
    finish_at y d 49 (omega arith) (omega arith) refl head w (length w) c (omega arith) (subst (λ n. Wrote w y (d + 3) (length w) n (Ok e)) z twice)

-- the field is as long as its place
pub field_size : (q : List ℕ) (t : Span) → t.from ≤ t.to → t.to ≤ length q → length (field q t) ≡ t.to - t.from
field_size q t a b = length-take-le (t.to - t.from) (drop t.from q) (omega (arith, length-drop t.from q))

-- ---- pairs, one behind another
pair_size : (x : Pair) → length (pair_bytes (again x)) ≡ 3 + length (path_bytes x.target) + length (path_bytes x.target)
unfolding again pair_f bytes
pair_size x =
    let f = path_f x.target in
    omega (arith, length_field (49, bytes (f ∷ f ∷ [])), length-append (field_bytes f) (field_bytes f ++ []), length-append (field_bytes f) [])

pairs_first : (x : Pair) (ps : List Pair) → pairs_bytes (map again (x ∷ ps)) ≡ pair_bytes (again x) ++ pairs_bytes (map again ps)
unfolding bytes
pairs_first x ps = refl

pairs_size : (x : Pair) (ps : List Pair) → length (pairs_bytes (map again (x ∷ ps))) ≡ length (pair_bytes (again x)) + length (pairs_bytes (map again ps))
pairs_size x ps = ap length (pairs_first x ps) ∙ length-append (pair_bytes (again x)) (pairs_bytes (map again ps))

-- some are written: those from p on, written behind d, make all of them written
pub record PairsGoing (w₀ : List ℕ) (d₀ : ℕ) (q : List ℕ) (at : Span) (w : List ℕ) (d p : ℕ) : Type 0 where
  pub same : length w ≡ length w₀
  pub ready : PairsRoom w d q (span p at.to)
  pub whole : (v : List ℕ) (r : ℕ) → PairsWritten w v d q (span p at.to) r → PairsWritten w₀ v d₀ q at r

pub pairs_begin : {w : List ℕ} {d : ℕ} {q : List ℕ} {at : Span} → PairsRoom w d q at → PairsGoing w d q at w d at.from
pairs_begin h = record { same = refl; ready = h; whole = λ v r k. k }

module _ {w₀ : List ℕ} {d₀ : ℕ} {q : List ℕ} {at : Span} {w : List ℕ} {d p : ℕ} (g : PairsGoing w₀ d₀ q at w d p) where
  pub pairs_held : Holds pairs_bytes q p at.to
  pairs_held = record { value = g.ready.pairs; value_is = g.ready.pairs_is }

  pub pairs_end : p ≡ at.to → PairsWritten w₀ w d₀ q at d
  unfolding bytes
  pairs_end z = g.whole w d (λ ps h. subst (λ l. Wrote w w d (length w) (pairs_bytes (map again l)) (Ok d)) (sym (list_none pair_f ps z h))
      (wrote_none w d (length w) (omega (arith, g.ready.room))))

  module _ (n : p ≡ at.to → ⊥) {m : ℕ} (z : m ≡ field_end q p) {x : PairAt} (reads : ReadsPair q (span p m) x) where
    -- the first of those that are left
    left_size : let c = list_parts pair_f g.ready.pairs z n g.ready.pairs_is in
        d + (length (pair_bytes (again c.first)) + length (pairs_bytes (map again c.rest))) ≤ length w
    left_size =
        let c = list_parts pair_f g.ready.pairs z n g.ready.pairs_is in
        omega (arith, g.ready.room, ap (λ l. length (pairs_bytes (map again l))) c.same, pairs_size c.first c.rest)

    pub pairs_room : PairRoom w d q x.target
    pairs_room =
        let c = list_parts pair_f g.ready.pairs z n g.ready.pairs_is in
        let i = pair_target (reads c.first c.first_is) in
        let b = path_room c.first.target i in
        record {
          rising = omega (arith, b);
          inside = b.1;
          room = omega (arith, i.ends, left_size, pair_size c.first);
          small = g.ready.small;
        }

    module _ {y : List ℕ} {e : ℕ} (l : length y ≡ length w) (k : PairWritten w y d q x.target e) where
      one : (a : Pair) → Is q p m (pair_bytes a) → Wrote w y d (length w) (pair_bytes (again a)) (Ok e)
      unfolding again
      one a h = k a.target (pair_target (reads a h))

      pub pairs_next : PairsGoing w₀ d₀ q at y e m
      pairs_next =
          let c = list_parts pair_f g.ready.pairs z n g.ready.pairs_is in
          record {
            same = l ∙ g.same;
            ready = record {
              pairs = c.rest;
              pairs_is = c.rest_is;
              room = omega (arith, left_size, ((one c.first c.first_is).fits e refl).ends);
              small = omega (arith, g.ready.small);
            };
            whole = λ v r i. g.whole v r (λ ps h.
                let f = list_parts pair_f ps z n h in
                let j : Wrote y v e (length w) (pairs_bytes (map again f.rest)) (Ok r) =
                subst (λ s. Wrote y v e s (pairs_bytes (map again f.rest)) (Ok r)) l (i f.rest f.rest_is) in
                subst (λ b. Wrote w v d (length w) b (Ok r)) (sym (ap (λ a. pairs_bytes (map again a)) f.same ∙ pairs_first f.first f.rest))
                (wrote_seq (one f.first f.first_is) (omega (arith, g.ready.room)) refl j));
          }

-- ---- those of a group
module _ {w q : List ℕ} {at : GroupAt} (h : GroupRoom w q at) where
  pub aggregates_room : PairsRoom w 0 q at.aggregates
  aggregates_room = record { pairs = h.aggregates; pairs_is = h.aggregates_is; room = omega (arith, h.room); small = h.small }

  module _ {x : List ℕ} {m : ℕ} (l : length x ≡ length w) (a : PairsWritten w x 0 q at.aggregates m) where
    pub keys_room : PairsRoom x m q at.keys
    keys_room = record {
      pairs = h.grouping;
      pairs_is = h.grouping_is;
      room = omega (arith, h.room, ((a h.aggregates h.aggregates_is).fits m refl).ends);
      small = omega (arith, h.small);
    }

    pub group_written : {v : List ℕ} {e : ℕ} → PairsWritten x v m q at.keys e
        → GroupWritten v q at record { aggregates = span 0 m; keys = span m e }
    group_written b ag gs ia ig =
        let one = written (a ag ia) (omega arith) refl in
        let two = b gs ig in
        record {
          aggregates_is = is_keep one {d = m} (wrote_keep two one.inside) (omega arith);
          grouping_is = written two one.inside refl;
        }
