-- Laws of pieces and parts, byte by byte: what a piece is from one byte to the next, and a part with a byte more.
use Rattle.std.specs.Prelude.{◌≡◌, refl, List, [], ◌∷◌, ◌++◌, Bool, true, false, ℕ, suc, ◌+◌, ◌-◌, ◌≤◌, ◌<◌, length, take, drop, get_or, eqb, ltb}
use Rattle.std.proofs.Common.{sym, ap, ◌∙◌, add-zero, arith, length-drop, drop_of_length-le, take-suc, get_or-drop}
use Rattle.spec_trees.specs.OptionLaws.{ltb_no}
use Rattle.spec_tracer.specs.Message.{begins, front}
use Rattle.spec_tracer.specs.FrontLaws.{front_more, front_stop}
use Rattle.tracer_lines.specs.Piece.{part, piece_end, stands_at}
use Rattle.tracer_lines.specs.PieceLaws.{here}

module _ (f : ℕ → Bool) (s : List ℕ) (at : ℕ) where
  pub piece_over : (at < length s → ⊥) → piece_end f s at ≡ at
  unfolding piece_end front
  piece_over h = rw (drop_of_length-le s {i = at} (omega (arith, h))) (add-zero at)

  pub piece_stop : at < length s → f (get_or s at 0) ≡ false → piece_end f s at ≡ at
  unfolding piece_end
  piece_stop h e = rw (here s at h, (front_stop f (get_or s at 0) (drop (at + 1) s) e).0) (add-zero at)

  pub piece_more : at < length s → f (get_or s at 0) ≡ true → piece_end f s at ≡ piece_end f s (at + 1)
  unfolding piece_end
  piece_more h e = rw (here s at h, (front_more f (get_or s at 0) (drop (at + 1) s) e).0) (omega arith)

-- ---- parts that grow by a byte
pub part_none : (s : List ℕ) (at : ℕ) → part at at s ≡ []
part_none s at = let z : at - at ≡ 0 = omega arith in rw z refl

pub part_more : (s : List ℕ) (from at : ℕ) → from ≤ at → at < length s → part from (at + 1) s ≡ part from at s ++ (get_or s at 0 ∷ [])
part_more s from at a b =
    let y : at + 1 - from ≡ suc (at - from) = omega (arith, a) in
    let z : from + (at - from) ≡ at = omega (arith, a) in
    ap (λ n. take n (drop from s)) y ∙ take-suc (drop from s) (at - from) 0 (omega (arith, length-drop from s))
    ∙ ap (λ x. part from at s ++ (x ∷ [])) (get_or-drop from s (at - from) 0 ∙ ap (λ n. get_or s n 0) z)

-- ---- a byte that stands there
pub stands_here : (s : List ℕ) (at x : ℕ) → at < length s → eqb (get_or s at 0) x ≡ stands_at s at x
unfolding stands_at begins
stands_here s at x h = sym (ap (begins (λ b. eqb b x)) (here s at h))

pub stands_beyond : (s : List ℕ) (at x : ℕ) → length s ≤ at → ltb at (length s) ≡ stands_at s at x
unfolding stands_at begins
stands_beyond s at x h = ltb_no at (length s) h ∙ sym (ap (begins (λ b. eqb b x)) (drop_of_length-le s {i = at} h))
