-- The longest piece of bytes that pass a test: what it is, and what is left.
use Rattle.std.specs.Prelude.{◌≡◌, Bool, true, false, ℕ, ◌+◌, length, T}
use Rattle.std.proofs.Math.Path.{refl}
use Rattle.std.proofs.Common.{sym, ap, ◌∙◌, length-append}
use mathlib.Core.List.{List, [], ◌∷◌, ◌++◌}
use Rattle.std.proofs.Math.Option.{none, some}
use Rattle.spec_trees.specs.Options.{only}
use Rattle.spec_trees.specs.Lists.{all}
use Rattle.spec_trees.specs.OptionLaws.{only_some, T_true, both_true, some_equal, split}
use Rattle.spec_tracer.specs.Message.{begins, front, behind}
use Rattle.spec_tracer.specs.Reading.{piece}

module _ (f : ℕ → Bool) where
  -- one byte more
  pub front_more : (b : ℕ) (m : List ℕ) → f b ≡ true → (front f (b ∷ m) ≡ b ∷ front f m) × (behind f (b ∷ m) ≡ behind f m)
  unfolding front behind
  front_more b m e = rw e (refl, refl)

  pub front_stop : (b : ℕ) (m : List ℕ) → f b ≡ false → (front f (b ∷ m) ≡ []) × (behind f (b ∷ m) ≡ b ∷ m)
  unfolding front behind
  front_stop b m e = rw e (refl, refl)

  -- the two together are all
  pub front_behind : (m : List ℕ) → front f m ++ behind f m ≡ m
  unfolding front behind
  front_behind [] = refl
  front_behind (b ∷ m) = split (f b) (λ e. rw e (ap (λ l. b ∷ l) (front_behind m))) (λ e. rw e refl)

  pub front_all : (m : List ℕ) → all f (front f m) ≡ true
  unfolding front all
  front_all [] = refl
  front_all (b ∷ m) = split (f b) (λ e. rw (e, front_all m, e) refl) (λ e. rw e refl)

  pub front_length : (m : List ℕ) → length (front f m) + length (behind f m) ≡ length m
  front_length m = sym (length-append (front f m) (behind f m)) ∙ ap length (front_behind m)

  -- bytes that pass, and then one that does not, or nothing
  pub front_append : (a r : List ℕ) → all f a ≡ true → begins f r ≡ false → (front f (a ++ r) ≡ a) × (behind f (a ++ r) ≡ r)
  unfolding front behind all begins
  front_append [] [] h e = (refl, refl)
  front_append [] (b ∷ r) h e = front_stop b r e
  front_append (x ∷ a) r h e =
      let p = both_true (f x) (all f a) h in
      let q = front_append a r p.1 e in
      rw (p.0, q.0, q.1) (refl, refl)

  -- ---- a piece that must be so
  module _ (whole : List ℕ → Bool) where
    pub piece_read : (m : List ℕ) → whole (front f m) ≡ true → piece f whole m ≡ some (front f m, behind f m)
    unfolding piece only
    piece_read m e = rw e refl

    pub piece_none : (m : List ℕ) → whole (front f m) ≡ false → piece f whole m ≡ none
    unfolding piece only
    piece_none m e = rw e refl

    pub piece_back : (a r : List ℕ) → all f a ≡ true → begins f r ≡ false → whole a ≡ true → piece f whole (a ++ r) ≡ some (a, r)
    unfolding piece only
    piece_back a r h e w = let q = front_append a r h e in rw (q.0, q.1, w) refl

    pub piece_is : (m : List ℕ) (p : List ℕ × List ℕ) → piece f whole m ≡ some p → (T (whole (front f m))) × ((front f m, behind f m) ≡ p)
    unfolding piece
    piece_is m p e =
        let (t, z) = only_some (whole (front f m)) (some (front f m, behind f m)) e in
        (t, some_equal (front f m, behind f m) p z)

    pub piece_form : (m a r : List ℕ) → piece f whole m ≡ some (a, r) → (m ≡ a ++ r) × (whole a ≡ true)
    piece_form m a r e =
        let (t, p) = piece_is m (a, r) e in
        let x : front f m ≡ a = ap (λ q. q.0) p in
        let y : behind f m ≡ r = ap (λ q. q.1) p in
        rw (← x, ← y) (sym (front_behind m), T_true (whole (front f m)) t)
