-- How the number of a value is read where its bytes stand: byte by byte, tree by tree, and from piece to piece.
use Rattle.std.proofs.Math.Path.{◌≡◌, sym, ap, ap₂}
use Rattle.std.specs.Prelude.{refl, List, [], ◌∷◌, ◌++◌, true, false, ℕ, ◌+◌, ◌-◌, ◌≤◌, ◌<◌, length, get_or, drop, Some, None}
use Rattle.std.proofs.Common.{◌∙◌, add-one, drop-drop}
use Rattle.std.proofs.Math.Option.{none, some}
use native.Mathlib.Omega.{arith}
use Rattle.std.proofs.Math.Seq.{slice, slice_empty, slice-cons}
use Rattle.spec_trees.specs.Tree.{Tree, list}
use Rattle.spec_trees.specs.Bytes.{tree_bytes}
use Rattle.areas.specs.Area.{Is, field_end, span}
use Rattle.areas.specs.declared.span.Span.{Span}
use Rattle.format.specs.Stand.{trees_bytes, Says, FoundIs}
use Rattle.format.specs.StandLaws.{trees_parts, trees_none}
use Rattle.spec_stages.specs.Paths.{Given, present}
use Rattle.paths.specs.Walk.{given, Tells, TellsJoined}
use Rattle.paths.specs.WalkLaws.{given_join, joined_end, joined_next}
use Rattle.paths.specs.Hash.{hash_bytes, step_hash, bytes_hash, tree_hash, trees_hash, given_hash}
use Rattle.format.specs.Labels.{Found}

-- ---- bytes: the number of those from p on
module _ (s : List ℕ) (p e : ℕ) (h : ℕ) where
  pub bytes_end : e ≤ p → p ≤ e → h ≡ bytes_hash h (slice p e s)
  unfolding bytes_hash
  bytes_end l u = let z : e ≡ p = omega arith in sym (ap (bytes_hash h) (ap (λ n. slice p n s) z ∙ slice_empty p s))

  pub bytes_next : {n : ℕ} → p < e → e ≤ length s → n ≡ step_hash h (get_or s p 0) → bytes_hash n (slice (p + 1) e s) ≡ bytes_hash h (slice p e s)
  unfolding bytes_hash
  bytes_next l u z =
      ap₂ bytes_hash z (ap (λ n. slice n e s) (add-one p)) ∙ sym (ap (bytes_hash h) (slice-cons p e s 0 l u))

-- a tree, from its last bytes
pub tree_last : {s : List ℕ} {p e m r : ℕ} (h : ℕ) → m ≡ p + (e - p - hash_bytes) → r ≡ bytes_hash h (slice m e s) → Says tree_bytes (tree_hash h) s p e r
unfolding tree_hash
tree_last {s} {p} {e} h z k t g =
    let d : e - p - hash_bytes ≡ length (tree_bytes t) - hash_bytes = omega (arith, g.ends) in
    k ∙ ap (bytes_hash h) (ap (λ n. slice n e s) z ∙ sym (drop-drop (e - p - hash_bytes) p _) ∙ ap₂ drop d g.lies)

-- ---- trees: none, or the first and the rest
pub trees_append : (h : ℕ) (xs ys : List Tree) → trees_hash h (xs ++ ys) ≡ trees_hash (trees_hash h xs) ys
unfolding trees_hash
trees_append h [] ys = refl
trees_append h (x ∷ xs) ys = trees_append (tree_hash h x) xs ys

module _ (s : List ℕ) (p e h : ℕ) where
  pub trees_end : p ≡ e → Says trees_bytes (λ ts. trees_hash h (list ts)) s p e h
  unfolding trees_hash
  trees_end z ts g = sym (ap (λ x. trees_hash h (list x)) (trees_none ts z g))

  pub trees_next : {m n : ℕ} → (p ≡ e → ⊥) → m ≡ field_end s p → Says tree_bytes (tree_hash h) s p m n
      → (k : ℕ) → Says trees_bytes (λ ts. trees_hash n (list ts)) s m e k → Says trees_bytes (λ ts. trees_hash h (list ts)) s p e k
  unfolding trees_hash
  trees_next n z f k g ts i =
      let a = trees_parts ts z n i in
      g a.rest a.rest_is ∙ ap (λ x. trees_hash x (list a.rest)) (f a.first a.first_is) ∙ sym (ap (λ x. trees_hash h (list x)) a.same)

-- ---- what a path gives: of one tree, of none, and from piece to piece
pub hash_one : {s : List ℕ} {p e r : ℕ} (h : ℕ) → Says tree_bytes (tree_hash h) s p e r → (t : Tree) → Is s p e (tree_bytes t) → r ≡ trees_hash h (given (some (t ∷ [])))
unfolding given trees_hash
hash_one h k t g = k t g

pub hash_none : (h : ℕ) → h ≡ trees_hash h (given none)
unfolding given trees_hash
hash_none h = refl

module _ (q : List ℕ) (p : Span) (i : ℕ) (s : List ℕ) (a b h : ℕ) where
  pub hash_end : a ≡ b → TellsJoined q p i s (span a b) (λ x. h ≡ trees_hash h (given x))
  hash_end z = joined_end q p i s a b (λ x. h ≡ trees_hash h (given x)) z (hash_none h)

  pub hash_next : {m n : ℕ} → (a ≡ b → ⊥) → m ≡ field_end s a → Tells q p i s (span a m) (λ x. n ≡ trees_hash h (given x))
      → (k : ℕ) → TellsJoined q p i s (span m b) (λ x. k ≡ trees_hash n (given x)) → TellsJoined q p i s (span a b) (λ x. k ≡ trees_hash h (given x))
  hash_next {m} {n} z g f k =
      joined_next q p i s a b (λ x. n ≡ trees_hash h (given x)) (λ x. k ≡ trees_hash n (given x)) (λ x. k ≡ trees_hash h (given x)) z g
      (λ x y u w. w ∙ ap (λ j. trees_hash j (given y)) u ∙ sym (trees_append h (given x) (given y)) ∙ sym (ap (trees_hash h) (given_join x y))) f

-- ---- absent, or an array
module _ (h : ℕ) {r : ℕ} where
  pub given_absent : (x : Given) → present x ≡ false → r ≡ step_hash h 0 → r ≡ given_hash h x
  unfolding present given_hash
  given_absent none e k = k
  given_absent (some a) e k = let z : ◌≡◌ {A = ℕ} 0 1 = cc in absurd (omega arith)

  pub given_present : {n : ℕ} (x : Given) → present x ≡ true → n ≡ step_hash h 1 → r ≡ trees_hash n (given x) → r ≡ given_hash h x
  unfolding present given_hash given
  given_present none e z k = let y : ◌≡◌ {A = ℕ} 0 1 = cc in absurd (omega arith)
  given_present (some a) e z k = k ∙ ap (λ n. trees_hash n a) z

  -- found in one piece, or not
  module _ {s : List ℕ} {at : Span} (x : Given) {found : Found} (f : FoundIs s at x found) where
    pub found_absent : found ≡ None → r ≡ step_hash h 0 → r ≡ given_hash h x
    unfolding given_hash
    found_absent z k = k ∙ sym (ap (given_hash h) (f.missing z))

    pub found_piece : {n c d : ℕ} → found ≡ Some (span c d) → n ≡ step_hash h 1 → Says trees_bytes (λ ts. trees_hash n (list ts)) s c d r → r ≡ given_hash h x
    unfolding given_hash
    found_piece {n} {c} {d} z y k =
        let a = f.part (span c d) z in
        k a.array a.array_is ∙ ap (λ j. trees_hash j (list a.array)) y ∙ sym (ap (given_hash h) a.same)
