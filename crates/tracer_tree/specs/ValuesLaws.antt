-- Laws of writing values.
use Rattle.std.proofs.Math.Path.{◌≡◌, refl, ap, subst}
use Rattle.std.proofs.Common.{sym, ◌∙◌, arith, eq-eqb, ne_eqb}
use mathlib.Core.List.{List, [], ◌∷◌, ◌++◌}
use Rattle.std.specs.Prelude.{true, ℕ, ◌+◌, ◌≤◌, length, drop, get_or, ℤ, Some, None, Ok, Err}
use Rattle.std.specs.Prelude as code
use Rattle.std.proofs.Math.Bool.{false}
use Rattle.std.proofs.Math.Option.{Option, none, some, map}
use Rattle.std.proofs.Math.Dec.{eqb}
use Rattle.spec_trees.specs.Options.{maybe}
use Rattle.spec_trees.specs.OptionLaws.{bind_some, map_some, some_equal}
use Rattle.spec_trees.specs.Tree.{Root, void, integer, text, node, bare}
use Rattle.spec_trees.specs.Bytes.{big, pattern, bytes, root_f, tree_f, tree_bytes}
use Rattle.spec_trees.proofs.FieldLaws.{bytes_one}
use Rattle.areas.specs.Area.{Wrote, span, Out, too_large}
use Rattle.areas.specs.AreaLaws.{wrote_seq, wrote_fail}
use Rattle.bare.specs.Bare.{bare_tree, integer_tree}
use Rattle.bare.specs.BareLaws.{bare_bytes}
use Rattle.spec_tracer.specs.Message.{semicolon, is_value_byte, is_value, begins}
use Rattle.spec_tracer.specs.Reading.{value, both, second, values}
use Rattle.spec_tracer.specs.FrontLaws.{piece_is}
use Rattle.spec_tracer.specs.Values.{job_label, hundredths, value_root, value_tree}
use Rattle.tracer_lines.specs.Piece.{part, piece_end, stands_at}
use Rattle.tracer_lines.specs.PieceLaws.{here, piece_front, piece_behind}
use Rattle.tracer_lines.specs.LineLaws.{stands_inside, stands_byte, second_none}
use Rattle.tracer_tree.specs.Number.{bits_of}
use Rattle.tracer_tree.specs.Values.{values_trees, WroteValues}

-- the same bytes, said otherwise
pub wrote_same : {x y w v : List ℕ} {d stop : ℕ} {r : Out} → x ≡ y → Wrote w v d stop x r → Wrote w v d stop y r
wrote_same {w = w} {v = v} {d = d} {stop = stop} {r = r} e h = subst (λ i. Wrote w v d stop i r) e h

-- ---- one value: the root's tag and content are those of the tree
module _ (k : ℕ) (s : List ℕ) where
  root_so : {r : Root} (tag : ℕ) (c : List ℕ) → value_root k s ≡ r → bare_tree tag c ≡ bare_tree (root_f r).0 (root_f r).1 → bare_tree tag c ≡ tree_bytes (value_tree k s)
  unfolding value_tree
  root_so {r} tag c e q = q ∙ bare_bytes r ∙ ap (λ x. tree_bytes (node x bare)) (sym e)

  void_root : (l : List ℕ) → length l ≡ 0 → (value_root k l ≡ void) × (l ≡ [])
  unfolding value_root
  void_root [] q = (refl, refl)
  void_root (b ∷ l) q = absurd (omega (arith, q))

  pub void_bytes : length s ≡ 0 → bare_tree 3 s ≡ tree_bytes (value_tree k s)
  unfolding root_f
  void_bytes q = let p = void_root s q in root_so 3 s p.0 (ap (bare_tree 3) p.1)

  job_root : (l : List ℕ) → (length l ≡ 0 → ⊥) → k ≡ job_label → value_root k l ≡ text l
  unfolding value_root
  job_root [] n e = absurd (n refl)
  job_root (b ∷ l) n e = rw (eq-eqb k job_label e) refl

  pub job_bytes : (length s ≡ 0 → ⊥) → k ≡ job_label → bare_tree 6 s ≡ tree_bytes (value_tree k s)
  unfolding root_f
  job_bytes n e = root_so 6 s (job_root s n e) refl

  other_root : (l : List ℕ) → (length l ≡ 0 → ⊥) → (k ≡ job_label → ⊥) → value_root k l ≡ maybe (text l) integer (hundredths l)
  unfolding value_root
  other_root [] n e = absurd (n refl)
  other_root (b ∷ l) n e = rw (ne_eqb k job_label e) refl

  module _ (n : length s ≡ 0 → ⊥) (e : k ≡ job_label → ⊥) {a : code.Option ℕ} (q : a ≡ bits_of (hundredths s)) where
    pub text_bytes : a ≡ None → bare_tree 6 s ≡ tree_bytes (value_tree k s)
    unfolding root_f maybe
    text_bytes w = root_so 6 s (other_root s n e ∙ ap (maybe (text s) integer) (go (hundredths s) (sym q ∙ w))) refl
      where
        go : (x : Option ℤ) → bits_of x ≡ None → x ≡ none
        go none y = refl
        go (some z) y = let u : ◌≡◌ {A = ℕ} 0 1 = cc in absurd (omega arith)

    pub number_bytes_lem : {b : ℕ} → a ≡ Some b → integer_tree b ≡ tree_bytes (value_tree k s)
    unfolding root_f maybe
    number_bytes_lem {b} w = go (hundredths s) refl (sym q ∙ w)
      where
        go : (x : Option ℤ) → hundredths s ≡ x → bits_of x ≡ Some b → integer_tree b ≡ tree_bytes (value_tree k s)
        go none y u = let v : ◌≡◌ {A = ℕ} 0 1 = cc in absurd (omega arith)
        go (some z) y u =
            let v : pattern z ≡ b = cc in
            root_so 5 (big 8 b) (other_root s n e ∙ ap (maybe (text s) integer) y) (ap integer_tree (sym v))

-- ---- one or two values
trees_one : (k : ℕ) (v : List ℕ) → tree_bytes (value_tree k v) ≡ values_trees k (v ∷ [])
unfolding tree_bytes tree_f
trees_one k v = sym (bytes_one (tree_f (value_tree k v)))

trees_two : (k : ℕ) (v u : List ℕ) → tree_bytes (value_tree k v) ++ tree_bytes (value_tree k u) ≡ values_trees k (v ∷ u ∷ [])
unfolding tree_bytes tree_f bytes
trees_two k v u = ap (λ x. tree_bytes (value_tree k v) ++ x) (trees_one k u)

-- behind the first: nothing, or a semicolon and another
second_some : (v : List ℕ) (b : ℕ) (l : List ℕ) → eqb b semicolon ≡ true → second v (b ∷ l) ≡ map (both v) (value l)
unfolding second
second_some v b l e = rw e refl

value_behind : (m : List ℕ) (from : ℕ) {to : ℕ} → from ≤ length m → to ≡ piece_end is_value_byte m from → (p : List ℕ × List ℕ)
    → value (drop from m) ≡ some p → (part from to m, drop to m) ≡ p
unfolding value
value_behind m from b z p e = rw (← piece_front is_value_byte m from b z, ← piece_behind is_value_byte m from b z) (piece_is is_value_byte is_value (drop from m) p e).1

-- the first value, and what follows it
module _ (m : List ℕ) (from : ℕ) {to : ℕ} (b : from ≤ length m) (z : to ≡ piece_end is_value_byte m from) where
  module _ {vs : List (List ℕ)} {rest : List ℕ} (e : values (drop from m) ≡ some (vs, rest)) where
    second_is : second (part from to m) (drop to m) ≡ some (vs, rest)
    unfolding values
    second_is =
        let (p, x, y) = bind_some _ (value (drop from m)) e in
        subst (λ q. second q.0 q.1 ≡ some (vs, rest)) (sym (value_behind m from b z p x)) y

    one_value : stands_at m to semicolon ≡ false → part from to m ∷ [] ≡ vs
    unfolding stands_at
    one_value s = go (drop to m) s second_is
      where
        go : (l : List ℕ) → begins (λ x. eqb x semicolon) l ≡ false → second (part from to m) l ≡ some (vs, rest) → part from to m ∷ [] ≡ vs
        go l q x = ap (λ p. p.0) (some_equal (part from to m ∷ [], l) (vs, rest) (sym (second_none (part from to m) l q) ∙ x))

    module _ {last : ℕ} (s : stands_at m to semicolon ≡ true) (y : last ≡ piece_end is_value_byte m (to + 1)) where
      two_values : part from to m ∷ part (to + 1) last m ∷ [] ≡ vs
      two_values =
          let l = stands_inside m to semicolon s in
          let x = sym (second_some (part from to m) (get_or m to 0) (drop (to + 1) m) (stands_byte m to semicolon s))
          ∙ sym (ap (second (part from to m)) (here m to l)) ∙ second_is in
          let (p, i, j) = map_some (both (part from to m)) (value (drop (to + 1) m)) x in
          let u = value_behind m (to + 1) (omega (arith, l)) y p i in
          ap (λ q. part from to m ∷ q.0 ∷ []) u ∙ ap (λ q. q.0) j

-- ---- written
module _ (m : List ℕ) (from : ℕ) {to : ℕ} (b : from ≤ length m) (z : to ≡ piece_end is_value_byte m from) (k : ℕ)
    {w v : List ℕ} {d stop : ℕ} {r : Out} (h : Wrote w v d stop (tree_bytes (value_tree k (part from to m))) r) where
  pub wrote_one : stands_at m to semicolon ≡ false → WroteValues m from k w v (span d stop) r
  wrote_one s vs rest e =
      subst (λ x. Wrote w v d stop x r) (trees_one k (part from to m) ∙ ap (values_trees k) (one_value m from b z e s)) h

  module _ (s : stands_at m to semicolon ≡ true) {last : ℕ} (y : last ≡ piece_end is_value_byte m (to + 1)) where
    both_trees : {vs : List (List ℕ)} {rest : List ℕ} → values (drop from m) ≡ some (vs, rest)
        → tree_bytes (value_tree k (part from to m)) ++ tree_bytes (value_tree k (part (to + 1) last m)) ≡ values_trees k vs
    both_trees e = trees_two k (part from to m) (part (to + 1) last m) ∙ ap (values_trees k) (two_values m from b z e s y)

    pub wrote_two : {u : List ℕ} {e : ℕ} {o : Out} → d ≤ length w → r ≡ Ok e → Wrote v u e stop (tree_bytes (value_tree k (part (to + 1) last m))) o
        → WroteValues m from k w u (span d stop) o
    wrote_two {u} {e} {o} l q g vs rest x = subst (λ i. Wrote w u d stop i o) (both_trees x) (wrote_seq h l q g)

  -- the first did not fit
  pub wrote_not : stands_at m to semicolon ≡ true → r ≡ Err too_large → WroteValues m from k w v (span d stop) (Err too_large)
  wrote_not s q vs rest e =
      subst (λ i. Wrote w v d stop i (Err too_large)) (both_trees s refl e) (wrote_fail h (tree_bytes (value_tree k (part (to + 1) (piece_end is_value_byte m (to + 1)) m))) q)
