-- Laws of bare trees, and of writing them.
use Rattle.std.specs.Prelude.{◌≡◌, refl, List, ℕ, ◌+◌, ◌-◌, ◌≤◌, ◌<◌, length, Ok, Err}
use Rattle.std.proofs.Common.{sym, ap, subst, arith}
use Rattle.spec_trees.specs.Tree.{Root, node, bare}
use Rattle.spec_trees.specs.Bytes.{field_bytes, big, root_f, tree_f, tree_bytes}
use Rattle.spec_trees.proofs.FieldLaws.{bytes_one}
use Rattle.spec_trees.specs.NumberLaws.{length_big}
use Rattle.areas.specs.Area.{Wrote, Finishable, Finished, head_bytes, Out, too_large}
use Rattle.areas.specs.AreaLaws.{no_room, wrote_wider, length_field, finish_at, finishable}
use Rattle.bare.specs.Bare.{bare_tree, integer_tree}

-- the root's tag and content make the tree
pub bare_bytes : (r : Root) → bare_tree (root_f r).0 (root_f r).1 ≡ tree_bytes (node r bare)
unfolding tree_bytes tree_f
bare_bytes r = ap (λ b. field_bytes (2, b)) (sym (bytes_one (root_f r)))

bare_length : (tag : ℕ) (c : List ℕ) → length (bare_tree tag c) ≡ 6 + length c
bare_length tag c = omega (arith, length_field (2, field_bytes (tag, c)), length_field (tag, c))

-- ---- any content: it, the root's head, the tree's head
pub root_large : (w : List ℕ) (d stop tag : ℕ) (c : List ℕ) → d ≤ stop → stop - d < 6 → Wrote w w d stop (bare_tree tag c) (Err too_large)
root_large w d stop tag c b h = no_room w d stop (bare_tree tag c) (omega (arith, b, h, bare_length tag c))

module _ {w v : List ℕ} (d stop tag : ℕ) (c : List ℕ) {r : Out} (l : stop ≤ length w) (m : length v ≡ length w) (h : Wrote w v (d + 6) stop c r) where
  pub root_finishable : Finishable v (d + 3) r
  root_finishable = finishable (d + 3) (omega arith) (omega (arith, l, m)) h

  -- with the root's head before it
  root_headed : {u : List ℕ} {o : Out} → d + 6 ≤ stop → Finished v u (d + 3) tag r o → Wrote w u (d + 3) stop (field_bytes (tag, c)) o
  root_headed b f =
      let p : d + 6 ≡ d + 3 + 3 = omega arith in
      f w stop c (omega (arith, b, l)) (subst (λ i. Wrote w v i stop c r) p h)

  pub tree_finishable : {u : List ℕ} {o : Out} → d + 6 ≤ stop → length u ≡ length w → Finished v u (d + 3) tag r o → Finishable u d o
  tree_finishable b n f = finishable d (omega arith) (omega (arith, l, n)) (root_headed b f)

  pub tree_headed : {u t : List ℕ} {o q : Out} → d + 6 ≤ stop → Finished v u (d + 3) tag r o → Finished u t d 2 o q → Wrote w t d stop (bare_tree tag c) q
  tree_headed b f g = g w stop (field_bytes (tag, c)) (omega (arith, b, l)) (root_headed b f)

-- ---- an integer
integer_length : (x : ℕ) → length (integer_tree x) ≡ 14
integer_length x = omega (arith, bare_length 5 (big 8 x), length_big 8 x)

pub integer_large : (w : List ℕ) (d stop x : ℕ) → stop < d + 14 → Wrote w w d stop (integer_tree x) (Err too_large)
integer_large w d stop x h = no_room w d stop (integer_tree x) (omega (arith, integer_length x))

-- the bits, the root's head, the tree's head
module _ {w v u t : List ℕ} (d stop x : ℕ) where
  pub integer_fits : d + 14 ≤ stop → stop ≤ length w → length v ≡ length w → length u ≡ length w → Wrote w v (d + 6) (d + 6 + 8) (big 8 x) (Ok (d + 6 + 8))
      → Wrote v u (d + 3) (d + 3 + 3) (head_bytes 5 (d + 14 - (d + 3 + 3))) (Ok (d + 3 + 3))
      → Wrote u t d (d + 3) (head_bytes 2 (d + 14 - (d + 3))) (Ok (d + 3)) → Wrote w t d stop (integer_tree x) (Ok (d + 14))
  integer_fits r l m n a b c =
      let p : d + 6 ≡ d + 3 + 3 = omega arith in
      let e : d + 6 + 8 ≡ d + 14 = omega arith in
      let a2 = subst (λ i. Wrote w v i stop (big 8 x) (Ok (d + 14))) p
      (wrote_wider stop r (subst (λ i. Wrote w v (d + 6) i (big 8 x) (Ok i)) e a)) in
      let b2 = finish_at v (d + 3) 5 {v = u} (omega arith) (omega arith) refl b w stop (big 8 x) (omega arith) a2 in
      finish_at u d 2 {v = t} (omega arith) (omega arith) refl c w stop (field_bytes (5, big 8 x)) (omega arith) b2
