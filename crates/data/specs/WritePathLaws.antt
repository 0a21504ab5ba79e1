-- Laws of writing what a path gives: one tree, with its root divided or not; an array; tree by tree.
use Rattle.std.specs.Prelude.{◌≡◌, List, [], ◌∷◌, ◌++◌, map, Bool, cond, ℕ, suc, ◌+◌, ◌-◌, ◌/◌, ◌%◌, ◌≤◌, ◌<◌, ℤ, take, drop, get_or, eqb, Some, None, Err, Ok}
use Rattle.std.proofs.Math.Path.{refl, sym, ap, subst}
use Rattle.std.proofs.Common.{ap₂, ◌∙◌, append_assoc, arith, length-append, drop_of_length-le, take-add, eq-eqb, ne_eqb}
use Rattle.std.proofs.Math.Bool.{true, false}
use Rattle.std.proofs.Math.Option
use Rattle.std.proofs.Math.Option.{none, some}
use Rattle.std.proofs.Math.ListN.{length}
use Rattle.spec_trees.specs.Tree.{void, boolean, integer, text, Tree, node, Trees, Labels, list, root}
use Rattle.spec_trees.specs.Bytes.{field_bytes, bytes, big, pattern, root_f, tree_f, tree_bytes}
use Rattle.spec_trees.specs.NumberLaws.{length_big}
use Rattle.areas.specs.Area.{Is, Fitted, Wrote, field_end, span, too_large, Out}
use Rattle.areas.specs.declared.span.Span.{Span}
use Rattle.areas.specs.AreaLaws.{fitted, failed, fitted_is, fitted_keep, wrote_keep, is_part_lem, is_right, is_keep, is_tag, is_copied, take_less, drop_more, is_left}
use Rattle.spec_trees.specs.Lists.{All}
use Rattle.spec_trees.specs.SizeLaws.{trees_list}
use Rattle.spec_trees.specs.OptionLaws.{cond_cases}
use Rattle.spec_trees.specs.Within.{OkR}
use Rattle.spec_trees.specs.ListLaws.{All-left, All-right}
use Rattle.format.specs.Stand.{trees_bytes, labels_bytes, Holds, FoundIs}
use Rattle.format.specs.StandLaws.{tree_parts}
use Rattle.queries.specs.Steps.{step_count}
use Rattle.queries.specs.StepLaws.{steps_are}
use Rattle.data.specs.Value.{Value, WroteFound, value_of, is_large, end_of, found_of, answer_of, before}
use Rattle.spec_stages.specs.Paths.{Given, join, over, apply}
use Rattle.spec_stages.proofs.PathLaws.{over_itself}
use Rattle.spec_stages.specs.Data.{reduced_int, reduced_root, reduced_tree}
use Rattle.data.specs.Integer.{Reduces}
use Rattle.paths.specs.Walk.{given, Tells, TellsOver, TellsJoined, Under}
use Rattle.paths.specs.WalkLaws.{given_join, tells_end, tells_missing, tells_part, over_none, over_some, joined_end, joined_next, walk_first, walk_rest, walk_part, walk_places, part_places}
use Rattle.paths.specs.ComparedLaws.{one_bytes}
use Rattle.data.specs.ValueLaws.{value_absent, value_array, value_next, value_stop, value_done}
use Rattle.data.specs.Write.{part, parts, Rooted, LeafReady, WalkReady, WroteLeaf, Kept, WroteParts}
use Rattle.format.specs.Labels.{Found}

-- ---- one tree: the same number of bytes, whatever its root

-- bytes stored over as many of what was written
over_written : {w u v : List ℕ} {d stop e m k s : ℕ} (xs ys zs ls : List ℕ) → d ≤ length w → Fitted w u d stop e (xs ++ (ys ++ ls)) e
    → m ≡ d + length xs → k ≡ m + length ys → length zs ≡ length ys → Fitted u v m s k zs k → Fitted w v d stop e (xs ++ (zs ++ ls)) e
over_written {w} {u} {v} {d} {stop} {e} {m} {k} xs ys zs ls b h p q l g =
    let a : Is u d e (xs ++ (ys ++ ls)) = fitted_is b h in
    let t : Is u k e ls = is_right ys ls q (is_right xs (ys ++ ls) p a) in
    let y : d + (m - d) ≡ m = omega arith in
    let z : k + (e - k) ≡ e = omega (arith, t.ends) in
    let front : take m u ≡ take d w ++ xs =
    ap (λ i. take i u) (sym y) ∙ take-add d (m - d) u ∙ ap₂ ◌++◌ (fitted_keep b h) (is_part_lem (is_left xs (ys ++ ls) p a)) in
    record {
      ends = omega (arith, h.ends, length-append xs (ys ++ ls), length-append ys ls, length-append xs (zs ++ ls), length-append zs ls);
      room = h.room;
      below = ap (λ i. take i v) (sym z) ∙ take-add k (e - k) v
          ∙ ap₂ ◌++◌ g.below (ap (take (e - k)) g.beyond ∙ is_part_lem t)
          ∙ ap (λ x. (x ++ zs) ++ ls) front ∙ append_assoc (take d w ++ xs) zs ls ∙ append_assoc (take d w) xs (zs ++ ls);
      beyond = drop_more u v k e (omega (arith, t.ends)) g.beyond ∙ h.beyond;
    }

-- the heads of a tree whose root is an integer of k bytes, and of m bytes with the labels
abbrev heads : ℕ → ℕ → List ℕ
heads k m = 2 ∷ suc (suc (suc m)) / 256 ∷ suc (suc (suc m)) % 256 ∷ 5 ∷ k / 256 ∷ k % 256 ∷ []

integer_form : (z : ℤ) (ls : Labels) → tree_bytes (node (integer z) ls)
    ≡ heads (length (big 8 (pattern z))) (length (big 8 (pattern z) ++ labels_bytes ls)) ++ (big 8 (pattern z) ++ labels_bytes ls)
unfolding tree_bytes tree_f root_f bytes field_bytes
integer_form z ls = refl

integer_lengths : (z : ℤ) (ls : Labels) → (length (big 8 (pattern z)) ≡ 8) × (length (big 8 (pattern z) ++ labels_bytes ls) ≡ 8 + length (labels_bytes ls))
integer_lengths z ls =
    (length_big 8 (pattern z), length-append (big 8 (pattern z)) (labels_bytes ls) ∙ ap (λ n. n + length (labels_bytes ls)) (length_big 8 (pattern z)))

-- with the heads of any integer
integer_bytes : (z : ℤ) (ls : Labels) → tree_bytes (node (integer z) ls) ≡ heads 8 (8 + length (labels_bytes ls)) ++ (big 8 (pattern z) ++ labels_bytes ls)
integer_bytes z ls =
    let n = integer_lengths z ls in
    integer_form z ls ∙ ap₂ (λ k m. heads k m ++ (big 8 (pattern z) ++ labels_bytes ls)) n.0 n.1

reduced_length : (n : ℕ) (t : Tree) → length (tree_bytes (reduced_tree n t)) ≡ length (tree_bytes t)
unfolding reduced_tree reduced_root
reduced_length n (node void ls) = refl
reduced_length n (node (boolean b) ls) = refl
reduced_length n (node (integer z) ls) =
    let y = reduced_int n z in
    let l = labels_bytes ls in
    omega (arith, ap length (integer_bytes y ls), ap length (integer_bytes z ls), (integer_lengths y ls).1, (integer_lengths z ls).1)
reduced_length n (node (text s) ls) = refl

reduced_other : (n : ℕ) (t : Tree) → ((root_f (root t)).0 ≡ 5 → ⊥) → reduced_tree n t ≡ t
unfolding reduced_tree reduced_root root_f
reduced_other n (node void ls) h = refl
reduced_other n (node (boolean b) ls) h = refl
reduced_other n (node (integer z) ls) h = absurd (h refl)
reduced_other n (node (text s) ls) h = refl

part_length : (n : ℕ) (t : Tree) → length (tree_bytes (part n t)) ≡ length (tree_bytes t)
unfolding part
part_length n t = cond_cases (λ u. length (tree_bytes u) ≡ length (tree_bytes t)) (eqb n 0) (λ _. refl) (λ _. reduced_length n t)

part_zero : (n : ℕ) (t : Tree) → n ≡ 0 → part n t ≡ t
unfolding part
part_zero n t z = ap (λ c. cond c t (reduced_tree n t)) (eq-eqb n 0 z)

part_reduced : (n : ℕ) (t : Tree) → (n ≡ 0 → ⊥) → part n t ≡ reduced_tree n t
unfolding part
part_reduced n t z = ap (λ c. cond c t (reduced_tree n t)) (ne_eqb n 0 z)

-- ---- the end of what was written

pub wrote_kept : {w v : List ℕ} {d stop : ℕ} {xs : List ℕ} (r : Out) → d ≤ length w → d ≤ stop → Wrote w v d stop xs r → Kept w v (span d stop) (value_of r)
wrote_kept (Ok e) b s h = let f = h.fits e refl in record { below = wrote_keep h b; after = omega (arith, f.ends); within = f.room }
wrote_kept (Err _) b s h = record { below = wrote_keep h b; after = omega arith; within = s }

pub kept_same : {w v : List ℕ} {d stop : ℕ} {r o : Out} → r ≡ o → Kept w v (span d stop) (value_of r) → Kept w v (span d stop) (value_of o)
kept_same {w} {v} {d} {stop} z h = subst (λ o. Kept w v (span d stop) (value_of o)) z h

-- the same after a change above d
pub kept_more : {w u v : List ℕ} {d stop : ℕ} {r : Value} (m : ℕ) → d ≤ m → take m v ≡ take m u → Kept w u (span d stop) r → Kept w v (span d stop) r
kept_more {w} {u} {v} {d} {stop} m b k h = record { below = take_less u v d m b k ∙ h.below; after = h.after; within = h.within }

pub kept_none : (w : List ℕ) (d stop : ℕ) → d ≤ stop → Kept w w (span d stop) (Ok None)
kept_none w d stop s = record { below = refl; after = omega arith; within = s }

pub kept_here : (w : List ℕ) (d stop : ℕ) → d ≤ stop → Kept w w (span d stop) (Ok (Some d))
kept_here w d stop s = record { below = refl; after = omega arith; within = s }

pub kept_large : {w v : List ℕ} {d stop : ℕ} → d ≤ stop → take d v ≡ take d w → Kept w v (span d stop) (Err too_large)
kept_large s k = record { below = k; after = omega arith; within = s }

kept_answer_is : {w v : List ℕ} {d stop : ℕ} (s : Bool) (e : ℕ) → d ≤ e → e ≤ stop → take d v ≡ take d w → Kept w v (span d stop) (answer_of s e)
kept_answer_is true e a b k = record { below = k; after = a; within = b }
kept_answer_is false e a b k = record { below = k; after = omega arith; within = omega arith }

pub kept_answer : {w v : List ℕ} {d stop : ℕ} (s : Bool) (e : ℕ) {o : Value} → o ≡ answer_of s e → d ≤ e → e ≤ stop → take d v ≡ take d w → Kept w v (span d stop) o
kept_answer {w} {v} {d} {stop} s e z a b k = subst (Kept w v (span d stop)) (sym z) (kept_answer_is s e a b k)

-- ---- a leaf
module _ (w v : List ℕ) (a b d stop n : ℕ) {r : Out} (k : Wrote w v d stop (take (b - a) (drop a w)) r) where
  pub leaf_large : r ≡ Err too_large → WroteLeaf w v (span a b) (span d stop) n (Err too_large)
  leaf_large z t h o = let f = (is_copied h k).large z in failed record { over = omega (arith, part_length n t); below = f.below; beyond = f.beyond }

  module _ {e : ℕ} (z : r ≡ Ok e) where
    copied : (t : Tree) → Is w a b (tree_bytes t) → Fitted w v d stop e (tree_bytes t) e
    copied t h = (is_copied h k).fits e z

    leaf_same : (t : Tree) → Is w a b (tree_bytes t) → part n t ≡ t → Wrote w v d stop (tree_bytes (part n t)) (Ok e)
    leaf_same t h q = subst (λ u. Wrote w v d stop (tree_bytes u) (Ok e)) (sym q) (fitted (copied t h))

    pub leaf_plain : n ≡ 0 → WroteLeaf w v (span a b) (span d stop) n (Ok e)
    leaf_plain q t h o = leaf_same t h (part_zero n t q)

    module _ (l : d ≤ length w) where
      copied_is : (t : Tree) → Is w a b (tree_bytes t) → Is v d e (tree_bytes t)
      copied_is t h = fitted_is l (copied t h)

      copied_tag : (t : Tree) → Is w a b (tree_bytes t) → get_or v (d + 3) 0 ≡ (root_f (root t)).0
      copied_tag t h = is_tag (root_f (root t)) (tree_parts t refl (copied_is t h)).root_is

      pub leaf_room : Holds tree_bytes w a b → (d + 6 ≤ e) × (e ≤ length v)
      leaf_room h =
          let i = copied_is h.value h.value_is in
          let p = tree_parts h.value refl i in
          (omega (arith, p.after, p.within), i.inside)

      pub leaf_other : (n ≡ 0 → ⊥) → (get_or v (d + 3) 0 ≡ 5 → ⊥) → WroteLeaf w v (span a b) (span d stop) n (Ok e)
      leaf_other q c t h o = leaf_same t h (part_reduced n t q ∙ reduced_other n t (λ y. c (copied_tag t h ∙ y)))

      -- where the integer stands
      integer_is : (z : ℤ) (ls : Labels) → Is v d e (tree_bytes (node (integer z) ls)) → Is v (d + 6) (d + 6 + 8) (big 8 (pattern z)) × (d + 6 + 8 ≤ e)
      integer_is y ls i =
          let x = integer_bytes y ls in
          let j : Is v d e (heads 8 (8 + length (labels_bytes ls)) ++ (big 8 (pattern y) ++ labels_bytes ls)) = subst (Is v d e) x i in
          let m : Is v (d + 6) e (big 8 (pattern y) ++ labels_bytes ls) = is_right (heads 8 (8 + length (labels_bytes ls))) (big 8 (pattern y) ++ labels_bytes ls) refl j in
          let c : d + 6 + 8 ≡ d + 6 + length (big 8 (pattern y)) = ap (λ i. d + 6 + i) (sym (length_big 8 (pattern y))) in
          (is_left (big 8 (pattern y)) (labels_bytes ls) c m, omega (arith, (is_right (big 8 (pattern y)) (labels_bytes ls) c m).ends))

      integer_room : (t : Tree) → get_or v (d + 3) 0 ≡ 5 → get_or v (d + 3) 0 ≡ (root_f (root t)).0 → Is v d e (tree_bytes t) → d + 6 + 8 ≤ e
      unfolding root_f
      integer_room (node void ls) c y i = absurd (omega arith)
      integer_room (node (boolean x) ls) c y i = absurd (omega arith)
      integer_room (node (integer x) ls) c y i = (integer_is x ls i).1
      integer_room (node (text x) ls) c y i = absurd (omega arith)

      pub leaf_integer : Holds tree_bytes w a b → get_or v (d + 3) 0 ≡ 5 → d + 6 + 8 ≤ length v
      leaf_integer h c =
          let i = copied_is h.value h.value_is in
          omega (arith, integer_room h.value c (copied_tag h.value h.value_is) i, i.inside)

      divided : {u : List ℕ} (t : Tree) → get_or v (d + 3) 0 ≡ 5 → get_or v (d + 3) 0 ≡ (root_f (root t)).0 → Is v d e (tree_bytes t) → Fitted w v d stop e (tree_bytes t) e
          → OkR (root t) → Reduces v u (d + 6) n → Wrote w u d stop (tree_bytes (reduced_tree n t)) (Ok e)
      unfolding root_f reduced_tree reduced_root
      divided (node void ls) c y i f o g = absurd (omega arith)
      divided (node (boolean x) ls) c y i f o g = absurd (omega arith)
      divided {u} (node (integer x) ls) c y i f o g =
          let x2 = reduced_int n x in
          let h = heads 8 (8 + length (labels_bytes ls)) in
          let j = (g x o (integer_is x ls i).0).fits (d + 6 + 8) refl in
          let s = subst (λ l. Fitted w v d stop e l e) (integer_bytes x ls) f in
          let q : d + 6 + 8 ≡ d + 6 + length (big 8 (pattern x)) = ap (λ i. d + 6 + i) (sym (length_big 8 (pattern x))) in
          let m = over_written h (big 8 (pattern x)) (big 8 (pattern x2)) (labels_bytes ls) l s refl q
          (length_big 8 (pattern x2) ∙ sym (length_big 8 (pattern x))) j in
          subst (λ l. Wrote w u d stop l (Ok e)) (sym (integer_bytes x2 ls)) (fitted m)
      divided (node (text x) ls) c y i f o g = absurd (omega arith)

      pub leaf_reduced : {u : List ℕ} → (n ≡ 0 → ⊥) → get_or v (d + 3) 0 ≡ 5 → Reduces v u (d + 6) n → WroteLeaf w u (span a b) (span d stop) n (Ok e)
      leaf_reduced {u} q c g t h o =
          subst (λ x. Wrote w u d stop (tree_bytes x) (Ok e)) (sym (part_reduced n t q))
          (divided t c (copied_tag t h) (copied_is t h) (copied t h) (o q) g)

-- ---- a path: its end, a step, an array
map_join : (f : Tree → Tree) (xs ys : List Tree) → map f (xs ++ ys) ≡ map f xs ++ map f ys
map_join f [] ys = refl
map_join f (x ∷ xs) ys = ap (λ l. f x ∷ l) (map_join f xs ys)

parts_join : (n : ℕ) (x y : Given) → parts n (join x y) ≡ join (parts n x) (parts n y)
unfolding join
parts_join n none y = refl
parts_join n (some a) none = refl
parts_join n (some a) (some b) = ap some (map_join (part n) a b)

map_zero : (n : ℕ) (xs : List Tree) → n ≡ 0 → map (part n) xs ≡ xs
map_zero n [] z = refl
map_zero n (x ∷ xs) z = ap₂ ◌∷◌ (part_zero n x z) (map_zero n xs z)

pub parts_zero : (n : ℕ) (x : Given) → n ≡ 0 → parts n x ≡ x
parts_zero n none z = refl
parts_zero n (some a) z = ap some (map_zero n a z)

map_reduced : (n : ℕ) (xs : List Tree) → (n ≡ 0 → ⊥) → map (part n) xs ≡ map (reduced_tree n) xs
map_reduced n [] z = refl
map_reduced n (x ∷ xs) z = ap₂ ◌∷◌ (part_reduced n x z) (map_reduced n xs z)

pub parts_reduced : (n : ℕ) (x : Given) → (n ≡ 0 → ⊥) → parts n x ≡ Option.map (map (reduced_tree n)) x
parts_reduced n none z = refl
parts_reduced n (some a) z = ap some (map_reduced n a z)

-- an array that was copied from where it stands
array_copied : {w v : List ℕ} {a b d stop n : ℕ} {r : Out} {x : Given} (ts : Trees) → n ≡ 0 → x ≡ some (list ts) → Is w a b (trees_bytes ts) → Wrote w v d stop (take (b - a) (drop a w)) r
    → WroteParts n false w v (span d stop) (value_of r) x
unfolding join
array_copied {w} {v} {a} {b} {d} {stop} {n} {r} {x} ts y z h k o =
    value_array (list ts) r (parts_zero n x y ∙ z) (subst (λ l. Wrote w v d stop l r) (ap trees_bytes (sym (trees_list ts))) (is_copied h k))

module _ (q : List ℕ) (p : Span) (i : ℕ) (w : List ℕ) (a b d stop n : ℕ) where
  pub walk_end : {v : List ℕ} {r : Out} → i ≡ step_count q p → WroteLeaf w v (span a b) (span d stop) n r → Tells q p i w (span a b) (WroteParts n false w v (span d stop) (value_of r))
  unfolding given join
  walk_end {v} {r} z k =
      tells_end q p i w a b (WroteParts n false w v (span d stop) (value_of r)) z
      (λ t h o. value_array (part n t ∷ []) r refl (subst (λ l. Wrote w v d stop l r) (one_bytes (part n t)) (k t h o.0)))

  pub walk_missing : {r : Found} → i < step_count q p → Under q p i w (span a b) r → r ≡ None → Tells q p i w (span a b) (WroteParts n false w w (span d stop) (Ok None))
  unfolding join
  walk_missing m u z = tells_missing q p i w a b (WroteParts n false w w (span d stop) (Ok None)) m u z (λ o. value_absent w d stop refl)

  -- the answer of a leaf is the answer
  pub walked_leaf : {v : List ℕ} {r : Out} {o : Value} → o ≡ value_of r → i ≡ step_count q p → Kept w v (span d stop) (value_of r) × WroteLeaf w v (span a b) (span d stop) n r
      → Kept w v (span d stop) o × Tells q p i w (span a b) (WroteParts n false w v (span d stop) o)
  walked_leaf {v} {r} {o} y z k =
      (subst (Kept w v (span d stop)) (sym y) k.0, subst (λ c. Tells q p i w (span a b) (WroteParts n false w v (span d stop) c)) (sym y) (walk_end z k.1))

  pub walk_under : {r : Found} {x y : ℕ} {v : List ℕ} {o : Value} → i < step_count q p → Under q p i w (span a b) r → r ≡ Some (span x y)
      → TellsOver q p (i + 1) w (span x y) (WroteParts n false w v (span d stop) o) → Tells q p i w (span a b) (WroteParts n false w v (span d stop) o)
  walk_under {v = v} {o = o} m u z k = tells_part q p i w a b (WroteParts n false w v (span d stop) o) m u z k

  pub over_walked : {v : List ℕ} {o : Value} → (a ≡ b → ⊥) → TellsJoined q p i w (span a b) (WroteParts n false w v (span d stop) o)
      → TellsOver q p i w (span a b) (WroteParts n false w v (span d stop) o)
  over_walked {v} {o} z k = over_some q p i w a b (WroteParts n false w v (span d stop) o) z k

  -- the array in one piece
  pub over_piece : {v : List ℕ} {r : Out} → n ≡ 0 → i ≡ step_count q p → Wrote w v d stop (take (b - a) (drop a w)) r
      → TellsOver q p i w (span a b) (WroteParts n false w v (span d stop) (value_of r))
  over_piece {v} {r} y z k path ts g h =
      let m : drop i path ≡ [] = drop_of_length-le path {i = i} (omega (arith, steps_are path g)) in
      let s : over (apply (drop i path)) (list ts) ≡ some (list ts) = ap (λ l. over (apply l) (list ts)) m ∙ over_itself (list ts) in
      array_copied ts y s h k

  pub walked_piece : {v : List ℕ} {r : Out} {o : Value} → o ≡ value_of r → n ≡ 0 → i ≡ step_count q p → d ≤ length w → d ≤ stop → Wrote w v d stop (take (b - a) (drop a w)) r
      → Kept w v (span d stop) o × TellsOver q p i w (span a b) (WroteParts n false w v (span d stop) o)
  walked_piece {v} {r} {o} x y z l s k =
      (subst (Kept w v (span d stop)) (sym x) (wrote_kept r l s k), subst (λ c. TellsOver q p i w (span a b) (WroteParts n false w v (span d stop) c)) (sym x) (over_piece y z k))

  -- what was found in one piece, or is missing
  module _ {f : Found} (u : Tells q p i w (span a b) (λ x. FoundIs w (span a b) x f)) where
    pub found_missing : f ≡ None → Tells q p i w (span a b) (WroteParts n false w w (span d stop) (Ok None))
    unfolding join
    found_missing z path t g h o = value_absent w d stop (ap (parts n) ((u path t g h).missing z))

    found_copied : {x y : ℕ} {v : List ℕ} {r : Out} → f ≡ Some (span x y) → n ≡ 0 → Wrote w v d stop (take (y - x) (drop x w)) r
        → Tells q p i w (span a b) (WroteParts n false w v (span d stop) (value_of r))
    found_copied {x} {y} z c k path t g h = let l = (u path t g h).part (span x y) z in array_copied l.array c l.same l.array_is k

    pub walked_found : {x y : ℕ} {v : List ℕ} {r : Out} {o : Value} → o ≡ value_of r → f ≡ Some (span x y) → n ≡ 0 → d ≤ length w → d ≤ stop → Wrote w v d stop (take (y - x) (drop x w)) r
        → Kept w v (span d stop) o × Tells q p i w (span a b) (WroteParts n false w v (span d stop) o)
    walked_found {v = v} {r = r} m z c l s k =
        (subst (Kept w v (span d stop)) (sym m) (wrote_kept r l s k), subst (λ o. Tells q p i w (span a b) (WroteParts n false w v (span d stop) o)) (sym m) (found_copied z c k))

  pub over_empty : a ≡ b → d ≤ stop → TellsOver q p i w (span a b) (WroteParts n false w w (span d stop) (Ok (Some d)))
  unfolding join
  over_empty z s = over_none q p i w a b (WroteParts n false w w (span d stop) (Ok (Some d))) z (λ o. value_done w d stop true s)

  module _ (s : Bool) where
    pub walk_done : {o : Value} → o ≡ answer_of s d → a ≡ b → d ≤ stop → TellsJoined q p i w (span a b) (WroteParts n s w w (span d stop) o)
    walk_done {o} y z l =
        joined_end q p i w a b (WroteParts n s w w (span d stop) o) z (λ _. subst (λ c. WroteFound w w d stop (join (before s) none) c) (sym y) (value_done w d stop s l))

    module _ {m : ℕ} (z : a ≡ b → ⊥) (g : m ≡ field_end w a) {v : List ℕ} {r : Value} (k : Tells q p i w (span a m) (WroteParts n false w v (span d stop) r)) where
      pub walk_stop : is_large r ≡ true → TellsJoined q p i w (span a b) (WroteParts n s w v (span d stop) (Err too_large))
      unfolding join
      walk_stop l =
          joined_next q p i w a b (WroteParts n false w v (span d stop) r) (λ x. Unit {0}) (WroteParts n s w v (span d stop) (Err too_large)) z g
          (λ x y f _ o. subst (λ c. WroteFound w v d stop (join (before s) c) (Err too_large)) (sym (parts_join n x y))
          (value_stop s r l (f (All-left (Rooted n) (given x) (given y) (subst (All (Rooted n)) (given_join x y) o))) (parts n y)))
          k (λ path ts h c. tt)

      pub walk_next : d ≤ length w → b ≤ d → is_large r ≡ false → take d v ≡ take d w → {f : ℕ} {t : Bool} → f ≡ end_of r d → t ≡ found_of r s
          → (u : List ℕ) (o : Value) → TellsJoined q p i v (span m b) (WroteParts n t v u (span f stop) o) → TellsJoined q p i w (span a b) (WroteParts n s w u (span d stop) o)
      unfolding join
      walk_next l c y j {f} {t} x1 x2 u o h =
          joined_next q p i w a b (WroteParts n false w v (span d stop) r) (WroteParts n t v u (span f stop) o) (WroteParts n s w u (span d stop) o) z g
          (λ x x3 f1 f2 ok.
          let ok2 = subst (All (Rooted n)) (given_join x x3) ok in
          subst (λ c. WroteFound w u d stop (join (before s) c) o) (sym (parts_join n x x3))
          (value_next s r l y (f1 (All-left (Rooted n) (given x) (given x3) ok2)) x1 x2 (parts n x3) o (f2 (All-right (Rooted n) (given x) (given x3) ok2))))
          k (λ path ts h1 h2. h path ts h1 (is_keep h2 j c))

-- ---- what a walk asks for, further on
module _ {q : List ℕ} {p : Span} {i : ℕ} {w : List ℕ} {a b d stop n : ℕ} where
  pub ready_leaf : WalkReady tree_bytes q p i w (span a b) (span d stop) n → LeafReady w (span a b) (span d stop) n
  ready_leaf h = record { tree = h.walk.stands; below = h.below; room = h.room; area = h.area; divisor = h.divisor }

  pub ready_under : {r : Found} {x y : ℕ} → WalkReady tree_bytes q p i w (span a b) (span d stop) n → i < step_count q p → Under q p i w (span a b) r → r ≡ Some (span x y)
      → WalkReady trees_bytes q p (i + 1) w (span x y) (span d stop) n
  ready_under h m u z = record {
    walk = walk_part h.walk m u z;
    below = omega (arith, part_places h.walk u z, h.below);
    room = h.room;
    area = h.area;
    divisor = h.divisor;
  }

  module _ (h : WalkReady trees_bytes q p i w (span a b) (span d stop) n) (z : a ≡ b → ⊥) {m : ℕ} (g : m ≡ field_end w a) where
    pub ready_first : WalkReady tree_bytes q p i w (span a m) (span d stop) n
    ready_first = record {
      walk = walk_first h.walk z g;
      below = omega (arith, walk_places h.walk z g, h.below);
      room = h.room;
      area = h.area;
      divisor = h.divisor;
    }

    pub ready_rest : {v : List ℕ} {f : ℕ} {r : Value} → Kept w v (span d stop) r → f ≡ end_of r d → length v ≡ length w → WalkReady trees_bytes q p i v (span m b) (span f stop) n
    ready_rest k y l =
        let x = walk_rest h.walk z g in
        record {
          walk = record { path = x.path; step = x.step; stands = record { value = x.stands.value; value_is = is_keep x.stands.value_is k.below h.below } };
          below = omega (arith, h.below, k.after);
          room = omega (arith, k.within);
          area = omega (arith, h.area);
          divisor = h.divisor;
        }
