-- Laws of counting outcomes, of trees written around a content, and of the outcome that comes j-th.
use Rattle.std.specs.Prelude.{◌≡◌, refl, ℕ, ◌+◌, ◌-◌, ◌≤◌, ◌<◌, take, drop, get_or, Some, None, Err, Ok as At}
use Rattle.std.proofs.Math.Path.{sym, ap, subst}
use Rattle.std.proofs.Common.{◌∙◌, arith, take-take, get_or-append-add}
use mathlib.Core.List.{List, [], ◌∷◌, ◌++◌, map, append_assoc}
use Rattle.std.proofs.Math.Option.{some}
use Rattle.std.proofs.Math.ListN.{length, length-append, get_or-append}
use Rattle.spec_trees.specs.Lists.{gather}
use Rattle.spec_trees.specs.Limits.{label_max, tree_max, depth_max}
use Rattle.spec_trees.specs.Tree.{Tree, Trees, ε, ◌▹◌, list, root, labels, find, put}
use Rattle.spec_trees.specs.Size.{size}
use Rattle.spec_trees.specs.Bytes.{field_bytes, bytes, tree_f, tree_bytes, label_heads}
use Rattle.spec_trees.specs.Within.{Ok, OkA, Allowed}
use Rattle.areas.specs.Area.{Is, span, Fitted, Wrote, field_end, Finished, Out, too_large}
use Rattle.areas.specs.declared.span.Span.{Span}
use Rattle.format.specs.Stand.{root_bytes, trees_bytes, labels_bytes, entry_of, entry_bytes, Holds, Finds, Behind, Headed}
use Rattle.areas.specs.AreaLaws.{is_join, is_copied, is_keep, failed, told, wrote_keep, wrote_before, wrote_seq, length_field}
use Rattle.spec_trees.proofs.FieldLaws.{bytes_one}
use Rattle.spec_trees.specs.SizeLaws.{length_tree, trees_list}
use Rattle.format.specs.StandLaws.{tree_parts, trees_parts, trees_none}
use Rattle.spec_queries.specs.Query.{Path}
use Rattle.queries.specs.Steps.{step_count, step_at}
use Rattle.unwind.specs.declared.unwind.Nth.{Nth}
use Rattle.unwind.specs.declared.unwind.Nth.TheVariants.{Written, Past}
use Rattle.spec_stages.specs.Unwind.{holding, unwound}
use Rattle.place.specs.Writers.{Along, WriterReady}
use Rattle.unwind.specs.Outcomes.{sound_bytes, sounds_bytes, TreeEntry, EntryAt, Counts, CountsEach, RoomFor, NthIs, PutsNth, PutsNthEach, Has, PutsOutcome, Around, Surrounds, ElementReady, PutsElement}
use Rattle.place.specs.WriterLaws.{rest_of, rest_none}
use Rattle.spec_trees.specs.FindLaws.{found_ok}
use Rattle.spec_stages.proofs.UnwoundLaws.{labels_ok_lem, length_map, unwound_none, unwound_some, unwound_count, get_d_map, outcome_under}
use Rattle.format.specs.Labels.{Found}

-- ---- counting
module _ {q : List ℕ} {p : Span} (i : ℕ) {w : List ℕ} {a b : ℕ} where
  pub count_end : i ≡ step_count q p → Counts q p i w (span a b) 1
  unfolding unwound
  count_end z path t g h = sym (ap (λ l. length (unwound l t)) (rest_none path i g z))

  module _ {k l : ℕ} {o : Found} (n : i < step_count q p) (s : k ≡ step_at q p i) (m : l ≡ field_end w (a + 3)) (f : Finds w (span l b) k o) where
    pub count_missing : o ≡ None → Counts q p i w (span a b) 0
    count_missing z path t g h =
        let y = (f (labels t) (tree_parts t m h).labels_is).missing z in
        sym (ap (λ l. length (unwound l t)) (rest_of path i g n s) ∙ ap length (unwound_none k (drop (i + 1) path) t y))

    pub count_part : {c u x : ℕ} → o ≡ Some (span c u) → CountsEach q p (i + 1) w (span c u) x → Counts q p i w (span a b) x
    count_part {c} {u} {x} z j path t g h =
        let y = (f (labels t) (tree_parts t m h).labels_is).part (span c u) z in
        let us = gather (unwound (drop (i + 1) path)) (list y.array) in
        j path y.array g y.array_is
        ∙ sym (ap (λ l. length (unwound l t)) (rest_of path i g n s) ∙ ap length (unwound_some k (drop (i + 1) path) t (list y.array) y.same) ∙ length_map (holding k t) us)

  pub count_none : a ≡ b → CountsEach q p i w (span a b) 0
  unfolding gather
  count_none z path ts g h = sym (ap (λ l. length (gather (unwound (drop i path)) (list l))) (trees_none ts z h))

  pub count_next : {m c x : ℕ} → (a ≡ b → ⊥) → m ≡ field_end w a → Counts q p i w (span a m) c → CountsEach q p i w (span m b) x → CountsEach q p i w (span a b) (c + x)
  unfolding gather
  count_next {m} {c} {x} n f h j path ts g k =
      let y = trees_parts ts f n k in
      let us = unwound (drop i path) y.first in
      let vs = gather (unwound (drop i path)) (list y.rest) in
      let z : length (gather (unwound (drop i path)) (list ts)) ≡ length (us ++ vs) = ap (λ l. length (gather (unwound (drop i path)) (list l))) y.same in
      omega (arith, z, length-append us vs, h path y.first g y.first_is, j path y.rest g y.rest_is)

  -- no more than there are bytes
  pub count_bound : {n : ℕ} → Along q p → Holds tree_bytes w a b → Counts q p i w (span a b) n → n + a ≤ b
  count_bound al h j =
      let z = j al.path h.value al.path_is h.value_is in
      omega (arith, z, unwound_count (drop i al.path) h.value, length_tree h.value, h.value_is.ends)

pub count_sum : {q : List ℕ} {p : Span} (i : ℕ) {w : List ℕ} {a b n m : ℕ} → n ≡ m → CountsEach q p i w (span a b) n → CountsEach q p i w (span a b) m
count_sum i z h path ts g k = sym z ∙ h path ts g k

-- ---- a tree around a content
-- what was written up to an end that it just meets
exact : {w v : List ℕ} {d n : ℕ} {xs : List ℕ} {r : Out} → d + length xs ≡ n → Wrote w v d n xs r → Fitted w v d n n xs n
exact {w} {v} {d} {n} {xs} {r} z h = told r
    (λ e q. let f = h.fits e q in let y : e ≡ n = omega (arith, f.ends) in subst (λ m. Fitted w v d n m xs m) y f)
    (λ q. absurd (omega (arith, (h.large q).over)))

-- n bytes stand before the trees of the label k
module _ {w : List ℕ} {k a b f t d stop n : ℕ} {r : Out} (g : Around w k (span a b) (span f t) (span d stop) r) (en : n ≡ label_heads k) where
  -- where the entry's heads go
  abbrev start : ℕ
  start = d + (f - a) - n

  pub around_places : (d + 6 ≤ start) × (start + label_heads k ≡ d + (f - a)) × (start ≡ d + 3 + (f - n - (a + 3))) × (start + label_heads k ≤ stop)
  around_places = (omega (arith, g.heads), omega (arith, g.heads), omega (arith, g.heads), omega (arith, g.heads, g.room))

  pub around_behind : Behind w (start + label_heads k) r
  around_behind e z = let c = g.ends e z in omega (arith, c, g.inside, around_places)

  module _ {w1 : List ℕ} {o : Out} (h1 : Headed (entry_of k) (label_heads k) w w1 start r o) where
    pub around_end : {e : ℕ} → o ≡ At e → (d + (f - a) ≤ e) × (e ≤ stop)
    around_end {e} z = g.ends e (sym h1.same ∙ z)

    content : (u c : List ℕ) → stop ≤ length u → Wrote u w (d + (f - a)) stop c r → Wrote u w1 start stop (entry_of k c) o
    content u c l h =
        let e : d + (f - a) ≡ start + label_heads k = omega (arith, around_places) in
        h1.wrote u stop c (omega (arith, around_places)) (subst (λ n. Wrote u w n stop c r) e h)

    pub surround_large : o ≡ Err too_large → Surrounds w w1 k (span a b) (span f t) (span d stop) r (Err too_large)
    surround_large z u front back c l fr ba h =
        let y = (content u c l h).large z in
        failed record {
          over = omega (arith, y.over, around_places, fr.ends, length_field (2, front ++ (entry_of k c ++ back)), length-append front (entry_of k c ++ back), length-append (entry_of k c) back);
          below = sym (take-take d start w1 (omega (arith, around_places))) ∙ ap (take d) y.below ∙ take-take d start u (omega (arith, around_places));
          beyond = y.beyond;
        }

    module _ {w2 w3 w4 : List ℕ} {e : ℕ} {o2 all q : Out} (z : o ≡ At e)
        (h2 : Wrote w1 w2 (d + 3) start (take (f - n - (a + 3)) (drop (a + 3) w1)) o2)
        (h3 : Wrote w2 w3 e stop (take (b - t) (drop t w2)) all)
        (h4 : Finished w3 w4 d 2 all q) where
      pub surround_at : Surrounds w w4 k (span a b) (span f t) (span d stop) r q
      surround_at u front back c l fr ba h =
          let p = around_places in
          let s1 : start ≤ length u = omega (arith, p) in
          let x1 = content u c l h in
          let fn : Is u (a + 3) (f - n) front = subst (λ i. Is u (a + 3) (f - i) front) (sym en) fr in
          let f1 : Is w1 (a + 3) (f - n) front = is_keep fn {d = start} (wrote_keep x1 s1) (omega (arith, p, g.below, g.within, g.order)) in
          let m : d + 3 + length front ≡ start = omega (arith, p, fn.ends) in
          let x2 = wrote_before x1 s1 (omega (arith, p)) (exact m (is_copied f1 h2)) in
          let s2 : d + 3 ≤ length u = omega (arith, p) in
          let b2 : Is w2 t b back = is_keep ba {d = d + 3} (wrote_keep x2 s2) (omega (arith, g.below)) in
          let x3 = wrote_seq x2 s2 z (is_copied b2 h3) in
          h4 u stop (front ++ (entry_of k c ++ back)) s2 (subst (λ l. Wrote u w3 (d + 3) stop l all) (append_assoc front (entry_of k c) back) x3)

-- ---- an outcome: the tree around one tree
pub found_sound : (k : ℕ) (t : Tree) (a : Trees) → Ok t → find k (labels t) ≡ some (list a) → OkA a
found_sound k t a o e = subst (λ l. OkA l) (trees_list a) (found_ok k (list a) (labels t) 0 (labels_ok_lem t o) e)

entry_one : (k : ℕ) (x : Tree) → entry_bytes k (x ▹ ε) ≡ entry_of k (tree_bytes x)
unfolding tree_f tree_bytes
entry_one k x = ap (entry_of k) (bytes_one (tree_f x))

holding_bytes : (k : ℕ) (t x : Tree) (front back : List ℕ) → ((a : Trees) → labels_bytes (put k a (labels t)) ≡ front ++ (entry_bytes k a ++ back))
    → tree_bytes (holding k t x) ≡ field_bytes (2, (root_bytes (root t) ++ front) ++ (entry_of k (tree_bytes x) ++ back))
unfolding holding tree_bytes tree_f bytes
holding_bytes k t x front back h =
    ap (λ l. field_bytes (2, root_bytes (root t) ++ l)) (h (x ▹ ε) ∙ ap (λ l. front ++ (l ++ back)) (entry_one k x))
    ∙ ap (λ l. field_bytes (2, l)) (sym (append_assoc (root_bytes (root t)) front (entry_of k (tree_bytes x) ++ back)))

module _ {w : List ℕ} {a b l k : ℕ} {o : Found} {f u : ℕ} (m : l ≡ field_end w (a + 3)) (h : Finds w (span l b) k o) (z : o ≡ Some (span f u)) where
  pub entry_of_lem : EntryAt w k (span a b) (span f u)
  entry_of_lem t ok j =
      let p = tree_parts t m j in
      let y = (h (labels t) p.labels_is).part (span f u) z in
      record {
        array = y.array;
        front = root_bytes (root t) ++ y.front;
        back = y.back;
        same = y.same;
        front_is = is_join p.root_is y.front_is;
        array_is = y.array_is;
        back_is = y.back_is;
        heads = omega (arith, y.heads, p.after);
        holding_is = λ x. holding_bytes k t x y.front y.back (y.put_is 0 (labels_ok_lem t ok));
      }

module _ {w : List ℕ} {k a b f u : ℕ} {t : Tree} (y : TreeEntry w k (span a b) (span f u) t) where
  pub entry_places : (a + (6 + label_heads k) ≤ f) × (f ≤ u) × (u ≤ b)
  entry_places = (y.heads, omega (arith, y.array_is.ends), omega (arith, y.back_is.ends))

  -- it stays where the bytes up to the tree's end do
  pub entry_kept : {v : List ℕ} {d : ℕ} → take d v ≡ take d w → b ≤ d → TreeEntry v k (span a b) (span f u) t
  entry_kept {d = d} q l =
      let p = entry_places in
      record {
        array = y.array;
        front = y.front;
        back = y.back;
        same = y.same;
        front_is = is_keep y.front_is {d = d} q (omega (arith, p));
        array_is = is_keep y.array_is {d = d} q (omega (arith, p));
        back_is = is_keep y.back_is q l;
        heads = y.heads;
        holding_is = y.holding_is;
      }

  -- what was put under the label, surrounded
  pub outcome_around : {w1 w2 : List ℕ} {d stop : ℕ} {r q : Out} → stop ≤ length w → Surrounds w1 w2 k (span a b) (span f u) (span d stop) r q
      → (x : Tree) → Wrote w w1 (d + (f - a)) stop (tree_bytes x) r → Wrote w w2 d stop (tree_bytes (holding k t x)) q
  outcome_around {w2 = w2} {d} {stop} {q = q} s g x c =
      subst (λ n. Wrote w w2 d stop n q) (sym (y.holding_is x)) (g w y.front y.back (tree_bytes x) s y.front_is y.back_is c)

-- ---- the j-th of a list
nth_past : {w : List ℕ} {d stop : ℕ} (us : List Tree) {j c : ℕ} → length us + c ≡ j → NthIs w w (span d stop) us j (Past c)
nth_past us {j} {c} h = record {
  written = λ o q. let z : ◌≡◌ {A = ℕ} 0 1 = cc in absurd (omega arith);
  past = λ b q. let z : c ≡ b = cc in (omega arith, refl);
}

module _ {w v : List ℕ} {d stop : ℕ} where
  nth_written : (us : List Tree) {j : ℕ} {o : Out} → j < length us → ((t : Tree) → Wrote w v d stop (tree_bytes (get_or us j t)) o) → NthIs w v (span d stop) us j (Written o)
  nth_written us {j} {o} l h = record {
    written = λ b q. let z : o ≡ b = cc in (l, λ t. subst (λ r. Wrote w v d stop (tree_bytes (get_or us j t)) r) z (h t));
    past = λ c q. let z : ◌≡◌ {A = ℕ} 0 1 = cc in absurd (omega arith);
  }

  -- in the first of two lists, or in the second
  nth_left : (us vs : List Tree) {j : ℕ} {r : Nth} {o : Out} → r ≡ Written o → NthIs w v (span d stop) us j r → NthIs w v (span d stop) (us ++ vs) j r
  nth_left us vs {j} {r} {o} z h = record {
    written = λ b q.
        let y = h.written b q in
        (omega (arith, y.0, length-append us vs), λ t. subst (λ x. Wrote w v d stop (tree_bytes x) b) (sym (get_or-append us vs t j y.0)) (y.1 t));
    past = λ c q. let z : ◌≡◌ {A = ℕ} 0 1 = cc in absurd (omega arith);
  }

  nth_right : (us vs : List Tree) {j c : ℕ} {r : Nth} → length us + c ≡ j → NthIs w v (span d stop) vs c r → NthIs w v (span d stop) (us ++ vs) j r
  nth_right us vs {j} {c} {r} l h = record {
    written = λ b q.
        let y = h.written b q in (
          omega (arith, y.0, length-append us vs),
          λ t. subst (λ x. Wrote w v d stop (tree_bytes x) b) (sym (get_or-append-add us vs c t) ∙ ap (λ n. get_or (us ++ vs) n t) l) (y.1 t),
        );
    past = λ b q. let y = h.past b q in (omega (arith, y.0, length-append us vs), y.1);
  }

-- what is as far past a list is as far past one as long
nth_beyond : {w v : List ℕ} {d i stop : ℕ} (us vs : List Tree) {j c : ℕ} {r : Nth} → length us ≡ length vs → r ≡ Past c → NthIs w v (span d stop) us j r → NthIs w v (span i stop) vs j r
nth_beyond us vs l z h = record {
  written = λ o q. let z : ◌≡◌ {A = ℕ} 0 1 = cc in absurd (omega arith);
  past = λ b q. let y = h.past b q in (omega (arith, y.0), y.1);
}

-- ---- by the empty path the tree is its only outcome
pub whole_past : (w : List ℕ) (d stop : ℕ) (t : Tree) (j : ℕ) → (j ≡ 0 → ⊥) → NthIs w w (span d stop) (t ∷ []) j (Past (j - 1))
whole_past w d stop t j n = nth_past (t ∷ []) (omega arith)

pub whole_written : {w v : List ℕ} {a b d stop : ℕ} {o : Out} (t : Tree) (j : ℕ) → j ≡ 0 → Wrote w v d stop (take (b - a) (drop a w)) o → Is w a b (tree_bytes t)
    → NthIs w v (span d stop) (t ∷ []) j (Written o)
whole_written {w} {v} {d = d} {stop = stop} {o = o} t j z h g =
    subst (λ n. NthIs w v (span d stop) (t ∷ []) n (Written o)) (sym z) (nth_written (t ∷ []) (omega arith) (λ x. is_copied g h))

-- ---- a label: the outcome is around one of the array's
-- what stands ready for the array, just as far behind d as it stands behind a
module _ {w q : List ℕ} {p : Span} {i a b d stop : ℕ} (g : WriterReady sound_bytes w q p i (span a b) (span d stop)) (s : RoomFor (span a b) (span d stop)) where
  pub sound_plain : WriterReady tree_bytes w q p i (span a b) (span d stop)
  sound_plain = record {
    along = g.along;
    step = g.step;
    source = record { value = g.source.value.tree; value_is = g.source.value_is };
    below = g.below;
    room = g.room;
    inside = g.inside;
    small = g.small;
  }

  module _ {l k : ℕ} {o : Found} {f u : ℕ} (m : l ≡ field_end w (a + 3)) (h : Finds w (span l b) k o) (z : o ≡ Some (span f u)) where
    pub sound_places : (a + (6 + label_heads k) ≤ f) × (f ≤ u) × (u ≤ b)
    sound_places = entry_places (entry_of_lem m h z g.source.value.tree g.source.value.ok g.source.value_is)

    pub sound_array : i < step_count q p → WriterReady sounds_bytes w q p (i + 1) (span f u) (span (d + (f - a)) stop)
    unfolding entry_of_lem
    sound_array n =
        let t = g.source.value in
        let y = entry_of_lem m h z t.tree t.ok g.source.value_is in
        let c = sound_places in
        record {
          along = g.along;
          step = omega arith;
          source = record { value = record { trees = y.array; ok = found_sound k t.tree y.array t.ok y.same }; value_is = y.array_is };
          below = omega (arith, c, g.below);
          room = omega (arith, c, s);
          inside = g.inside;
          small = g.small;
        }

    pub sound_room : RoomFor (span f u) (span (d + (f - a)) stop)
    sound_room = let c = sound_places in omega (arith, c, s)

    -- what surrounds it
    pub sound_around : {w1 : List ℕ} {j : ℕ} {inner : Nth} {r : Out} → i < step_count q p → k ≤ label_max → length w1 ≡ length w
        → PutsNthEach w w1 q p (i + 1) (span f u) j (span (d + (f - a)) stop) inner → inner ≡ Written r → Around w1 k (span a b) (span f u) (span d stop) r
    sound_around {w1} {j} {inner} {r} n kb lw h1 y =
        let c = sound_places in
        let x = sound_array n in
        let us = ((h1 x.along.path x.source.value.trees x.along.path_is x.source.value.ok x.source.value_is).written r y).1 g.source.value.tree in
        record {
          label = kb;
          heads = c.0;
          order = c.1;
          within = c.2;
          below = g.below;
          room = x.room;
          inside = omega (arith, g.inside);
          small = omega (arith, g.small);
          ends = λ e q. let z = us.fits e q in (omega (arith, z.ends), z.room);
        }

module _ {w : List ℕ} (q : List ℕ) (p : Span) (i : ℕ) {a b l k : ℕ} {o : Found} (n : i < step_count q p) (s : k ≡ step_at q p i)
    (m : l ≡ field_end w (a + 3)) (h : Finds w (span l b) k o) where
  pub nth_missing : (j d stop : ℕ) → o ≡ None → PutsNth w w q p i (span a b) j (span d stop) (Past j)
  nth_missing j d stop z path t g ok x =
      let y = (h (labels t) (tree_parts t m x).labels_is).missing z in
      let c = ap (λ r. unwound r t) (rest_of path i g n s) ∙ unwound_none k (drop (i + 1) path) t y in
      subst (λ us. NthIs w w (span d stop) us j (Past j)) (sym c) (nth_past [] (omega arith))

  -- none of the array's trees has it
  pub nth_inner_past : {f u : ℕ} {w1 : List ℕ} {j : ℕ} (d : ℕ) {stop : ℕ} {inner : Nth} {c : ℕ} → o ≡ Some (span f u)
      → PutsNthEach w w1 q p (i + 1) (span f u) j (span (d + (f - a)) stop) inner → inner ≡ Past c → PutsNth w w1 q p i (span a b) j (span d stop) inner
  nth_inner_past {w1 = w1} {j} d {stop} {inner} z h1 r path t g ok x =
      let y = entry_of_lem m h z t ok x in
      let us = gather (unwound (drop (i + 1) path)) (list y.array) in
      let c = ap (λ r. unwound r t) (rest_of path i g n s) ∙ unwound_some k (drop (i + 1) path) t (list y.array) y.same in
      subst (λ vs. NthIs w w1 (span d stop) vs j inner) (sym c)
      (nth_beyond us (map (holding k t) us) (sym (length_map (holding k t) us)) r (h1 path y.array g (found_sound k t y.array ok y.same) y.array_is))

  -- one of them has it, and the tree was written around it
  pub nth_inner_written : {f u : ℕ} {w1 w2 : List ℕ} {j d stop : ℕ} {inner : Nth} {r r2 : Out} → stop ≤ length w → o ≡ Some (span f u)
      → PutsNthEach w w1 q p (i + 1) (span f u) j (span (d + (f - a)) stop) inner → inner ≡ Written r → Surrounds w1 w2 k (span a b) (span f u) (span d stop) r r2
      → PutsNth w w2 q p i (span a b) j (span d stop) (Written r2)
  nth_inner_written {w1 = w1} {w2} {j} {d} {stop} {inner} {r} {r2} sl z h1 iw sr path t g ok x =
      let y = entry_of_lem m h z t ok x in
      let us = gather (unwound (drop (i + 1) path)) (list y.array) in
      let c = ap (λ r. unwound r t) (rest_of path i g n s) ∙ unwound_some k (drop (i + 1) path) t (list y.array) y.same in
      let v = (h1 path y.array g (found_sound k t y.array ok y.same) y.array_is).written r iw in
      subst (λ vs. NthIs w w2 (span d stop) vs j (Written r2)) (sym c)
      (nth_written (map (holding k t) us) (omega (arith, v.0, length_map (holding k t) us))
      (λ b. subst (λ y. Wrote w w2 d stop (tree_bytes y) r2) (sym (get_d_map (holding k t) us j t b v.0)) (outcome_around y sl sr (get_or us j t) (v.1 t))))

pub nth_end : {w x q : List ℕ} {p : Span} (i : ℕ) {a b j d stop : ℕ} {r : Nth} → i ≡ step_count q p → ((t : Tree) → Is w a b (tree_bytes t) → NthIs w x (span d stop) (t ∷ []) j r)
    → PutsNth w x q p i (span a b) j (span d stop) r
unfolding unwound
nth_end {w} {x} i {j = j} {d = d} {stop = stop} {r = r} z h path t g ok y =
    subst (λ l. NthIs w x (span d stop) (unwound l t) j r) (sym (rest_none path i g z)) (h t y)

-- ---- the trees of an array
module _ {w q : List ℕ} {p : Span} (i : ℕ) {a b j d stop : ℕ} where
  pub nth_none : a ≡ b → PutsNthEach w w q p i (span a b) j (span d stop) (Past j)
  unfolding gather
  nth_none z path ts g ok h = subst (λ l. NthIs w w (span d stop) (gather (unwound (drop i path)) (list l)) j (Past j)) (sym (trees_none ts z h)) (nth_past [] (omega arith))

  module _ {x : List ℕ} {m : ℕ} {one : Nth} (n : a ≡ b → ⊥) (f : m ≡ field_end w a) (h : PutsNth w x q p i (span a m) j (span d stop) one) where
    pub nth_here : {o : Out} → one ≡ Written o → PutsNthEach w x q p i (span a b) j (span d stop) one
    unfolding gather
    nth_here z path ts g ok k =
        let y = trees_parts ts f n k in
        let c : OkA (y.first ▹ y.rest) = subst (λ l. OkA l) y.same ok in
        subst (λ l. NthIs w x (span d stop) (gather (unwound (drop i path)) (list l)) j one) (sym y.same)
        (nth_left (unwound (drop i path) y.first) (gather (unwound (drop i path)) (list y.rest)) z (h path y.first g c.0 y.first_is))

    pub nth_next : {u : List ℕ} {c : ℕ} {r : Nth} → one ≡ Past c → PutsNthEach x u q p i (span m b) c (span d stop) r → PutsNthEach w u q p i (span a b) j (span d stop) r
    unfolding gather
    nth_next {u} {c} {r} z k path ts g ok l =
        let y = trees_parts ts f n l in
        let o : OkA (y.first ▹ y.rest) = subst (λ l. OkA l) y.same ok in
        let v = (h path y.first g o.0 y.first_is).past c z in
        let vs = gather (unwound (drop i path)) (list y.rest) in
        let s : NthIs x u (span d stop) vs c r = k path y.rest g o.1 (subst (λ w. Is w m b (trees_bytes y.rest)) (sym v.1) y.rest_is) in
        subst (λ l. NthIs w u (span d stop) (gather (unwound (drop i path)) (list l)) j r) (sym y.same)
        (nth_right (unwound (drop i path) y.first) vs v.0 (subst (λ w. NthIs w u (span d stop) vs c r) v.1 s))

-- what stands ready for the first, and for the rest where it was not the first's
module _ {w q : List ℕ} {p : Span} {i a b d stop : ℕ} (g : WriterReady sounds_bytes w q p i (span a b) (span d stop)) (s : RoomFor (span a b) (span d stop)) (n : a ≡ b → ⊥) {m : ℕ} (f : m ≡ field_end w a) where
  pub sounds_end : (a + 6 ≤ m) × (m ≤ b) × (b ≤ length w)
  sounds_end = let y = trees_parts g.source.value.trees f n g.source.value_is in (y.after, y.within, g.source.value_is.inside)

  pub sounds_first : WriterReady sound_bytes w q p i (span a m) (span d stop) × RoomFor (span a m) (span d stop)
  sounds_first =
      let t = g.source.value in
      let y = trees_parts t.trees f n g.source.value_is in
      let o : OkA (y.first ▹ y.rest) = subst (λ l. OkA l) y.same t.ok in (
        record {
          along = g.along;
          step = g.step;
          source = record { value = record { tree = y.first; ok = o.0 }; value_is = y.first_is };
          below = omega (arith, g.below, y.within);
          room = g.room;
          inside = g.inside;
          small = g.small;
        },
        omega (arith, s, y.within),
      )

  module _ {x : List ℕ} {j c : ℕ} {one : Nth} (h : PutsNth w x q p i (span a m) j (span d stop) one) (z : one ≡ Past c) where
    pub past_same : x ≡ w
    past_same =
        let y = sounds_first.0 in
        ((h y.along.path y.source.value.tree y.along.path_is y.source.value.ok y.source.value_is).past c z).1

    pub sounds_rest : WriterReady sounds_bytes x q p i (span m b) (span d stop) × RoomFor (span m b) (span d stop)
    sounds_rest =
        let t = g.source.value in
        let y = trees_parts t.trees f n g.source.value_is in
        let o : OkA (y.first ▹ y.rest) = subst (λ l. OkA l) y.same t.ok in (
          subst (λ w. WriterReady sounds_bytes w q p i (span m b) (span d stop)) (sym past_same) record {
            along = g.along;
            step = g.step;
            source = record { value = record { trees = y.rest; ok = o.1 }; value_is = y.rest_is };
            below = g.below;
            room = g.room;
            inside = g.inside;
            small = g.small;
          },
          omega (arith, s, y.after),
        )

-- ---- there is a j-th outcome
module _ {w x q : List ℕ} {p : Span} {a b j d stop : ℕ} {one : Nth} (h : PutsNth w x q p 0 (span a b) j (span d stop) one) where
  pub outcome_written : {r : Out} → one ≡ Written r → PutsOutcome w x q p (span a b) j (span d stop) r
  outcome_written z path t g ok k = ((h path t g ok k).written _ z).1 t

  pub outcome_past : {c : ℕ} {r : Out} → Has w q p (span a b) j → one ≡ Past c → PutsOutcome w x q p (span a b) j (span d stop) r
  outcome_past y z path t g ok k = absurd (omega (arith, y path t g ok k, ((h path t g ok k).past _ z).0))

-- ---- one element
module _ {w : List ℕ} {k a b f u x xe d stop : ℕ} (g : ElementReady w k (span a b) (span f u) (span x xe) (span d stop)) where
  pub element_places : (a + (6 + label_heads k) ≤ f) × (f ≤ u) × (u ≤ b)
  element_places = entry_places (g.entry g.tree g.ok g.tree_is)

  module _ {w1 : List ℕ} {r : Out} (c : Wrote w w1 (d + (f - a)) stop (take (xe - x) (drop x w)) r) where
    pub element_around : length w1 ≡ length w → Around w1 k (span a b) (span f u) (span d stop) r
    element_around lw =
        let p = element_places in
        record {
          label = g.label;
          heads = p.0;
          order = p.1;
          within = p.2;
          below = g.below.0;
          room = omega (arith, p, g.room);
          inside = omega (arith, g.inside);
          small = omega (arith, g.small);
          ends = λ e q. let y = c.fits e q in (omega (arith, y.ends), y.room);
        }

    pub element_put : {w2 : List ℕ} {r2 : Out} → Surrounds w1 w2 k (span a b) (span f u) (span d stop) r r2 → PutsElement w w2 k (span a b) (span x xe) (span d stop) r2
    element_put s t e ok j y = outcome_around (g.entry t ok j) g.inside s e (is_copied y c)

-- ---- where there is room for any tree
-- so none is too large
pub outcome_fits : {w v : List ℕ} {d stop : ℕ} {r : Out} (p : Path) (t : Tree) (j : ℕ) → Allowed depth_max t → j < length (unwound p t) → d + tree_max ≤ stop
    → Wrote w v d stop (tree_bytes (get_or (unwound p t) j t)) r → r ≡ At (d + size (get_or (unwound p t) j t))
outcome_fits {d = d} {r = r} p t j o l s h =
    let u = get_or (unwound p t) j t in
    let c = outcome_under p t j o.ok l in
    told r
    (λ e q. q ∙ ap At ((h.fits e q).ends ∙ ap (λ n. d + n) (length_tree u)))
    (λ q. absurd (omega (arith, (h.large q).over, length_tree u, c, o.small)))
