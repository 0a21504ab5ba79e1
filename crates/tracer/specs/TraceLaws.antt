-- Laws of tracing a message in a lent area.
use Rattle.std.specs.Prelude.{◌≡◌, refl, List, [], ◌∷◌, ◌++◌, ◌⊎◌, Bool, true, false, ℕ, min, leb, ◌≤◌, ◌<◌, length, take, drop, Ok, Err}
use Rattle.std.proofs.Common.{sym, subst, ◌∙◌, append_assoc, inl, inr, arith, leb-true, leb-false, take-append-drop, length-take-le}
use Rattle.std.proofs.Math.Path.{ap}
use Rattle.std.proofs.Math.Option.{none, some}
use Rattle.std.proofs.Math.ListN.{replicate}
use Rattle.std.proofs.Math.Seq.{length_front}
use Rattle.std.proofs.lemmas.List.{drop-append-le}
use Rattle.spec_trees.specs.Limits.{tree_max}
use Rattle.spec_trees.specs.Tree.{Tree}
use Rattle.spec_trees.specs.Size.{array_size}
use Rattle.spec_trees.specs.SizeLaws.{length_array}
use Rattle.spec_trees.specs.Bytes.{array_bytes}
use Rattle.areas.specs.Area.{Wrote, Out, too_large}
use Rattle.areas.specs.AreaLaws.{told}
use Rattle.spec_tracer.specs.Limits.{message_max}
use Rattle.spec_tracer.specs.Traced.{message_tree, traced}
use Rattle.spec_tracer.proofs.TracedLaws.{traced_is, traced_not, traced_long, traced_size}
use Rattle.spec_run.specs.declared.answer.Refusal.TheVariants.{MessageMalformed, ResultLong}
use Rattle.spec_run.specs.Run.{zeros, length_in, outcome_of}
use Rattle.spec_run.specs.Tracer.{plain_tracer}
use Rattle.spec_run.proofs.TracerLaws.{tracer_thirteen, tracer_ten, tracer_gives, tracer_fits}
use Rattle.spec_run.specs.Answer.{numbered, lengthened, Traced, Answer}
use Rattle.tracer_lines.specs.Places.{Place, Noted, ReadsLines}
use Rattle.tracer_tree.specs.Array.{ArrayReady, WroteArray}
use Rattle.tracer.specs.Trace.{EndsAs}

-- the lesser of two is one of them
pub one_of : {n a b : ℕ} → n ≡ min a b → (n ≡ a) ⊎ (n ≡ b)
one_of {n} {a} {b} h = go (leb a b) refl
  where
    go : (x : Bool) → leb a b ≡ x → (n ≡ a) ⊎ (n ≡ b)
    go true e = let l = leb-true a b e in inl (omega (arith, h))
    go false e = let l = leb-false a b e in inr (omega (arith, h))

-- the call is answered so, with the area left so
abbrev TracedSo : (m area : List ℕ) → Answer → List ℕ → Type 0
TracedSo m area a left = Traced m area (numbered a) (lengthened a) left

-- ---- 13
none_traced : (m area : List ℕ) → traced m ≡ none → TracedSo m area (Err MessageMalformed) area
none_traced m area e =
    let l = tracer_thirteen m area e in
    record { number_is = sym l.number_is; length_is = sym l.length_is; result_is = sym l.result_is }

pub over_length : (m area : List ℕ) → message_max < length m → TracedSo m area (Err MessageMalformed) area
over_length m area h = none_traced m area (traced_long m h)

pub out_of_form : (m area : List ℕ) {ps : List Place} {r : Bool} → length m ≤ message_max → ReadsLines m ps r → r ≡ false → TracedSo m area (Err MessageMalformed) area
out_of_form m area h k e = none_traced m area (traced_not m h (k.refused e))

-- ---- the room that is lent: all of the area, or as much of it as a tree may have
module _ (area : List ℕ) {n : ℕ} (l : n ≤ length area) where
  module _ (y : List ℕ) where
    -- what was written at the start of the room stands at the start of the area, and all behind it is as it was
    whole_left : {xs : List ℕ} {e : ℕ} → Wrote (take n area) y 0 (length (take n area)) xs (Ok e) → y ++ drop n area ≡ xs ++ drop (length xs) area
    whole_left {xs} {e} w =
        let f = w.fits e refl in
        let d : take e y ≡ xs = f.below in
        let z : e ≡ length xs = omega (arith, f.ends) in
        let r = length-take-le n area l in
        let b : drop e (take n area) ++ drop n area ≡ drop e area =
        sym (drop-append-le e (take n area) (drop n area) (omega (arith, f.room))) ∙ ap (drop e) (take-append-drop n area) in
        ap (λ x. x ++ drop n area) (sym (take-append-drop e y) ∙ ap (λ x. x ++ drop e y) d ∙ ap (λ x. xs ++ x) f.beyond)
        ∙ append_assoc xs (drop e (take n area)) (drop n area) ∙ ap (λ x. xs ++ x) b ∙ ap (λ i. xs ++ drop i area) z

-- ---- 0 and 10
module _ (m area : List ℕ) {ps : List Place} (h : length m ≤ message_max) (o : Noted m ps) {n : ℕ} (l : n ≤ length area) where
  abbrev tree : Tree
  tree = message_tree o.lines

  is_traced : traced m ≡ some tree
  is_traced = traced_is m o.lines h o.read o.single

  pub room_ready : n ≤ tree_max → ArrayReady m ps (take n area)
  room_ready b = record { lines = o.lines; places = o.places; lent = omega (arith, length-take-le n area l, b) }

  module _ {y : List ℕ} {r : Out} (k : length y ≡ length (take n area)) (g : WroteArray m ps (take n area) y r) where
    wrote : Wrote (take n area) y 0 (length (take n area)) (array_bytes (tree ∷ [])) r
    wrote = g o.lines o.places

    given_length : array_size (tree ∷ []) ≤ length area → (plain_tracer m area).length ≡ length (array_bytes (tree ∷ []))
    unfolding plain_tracer outcome_of length_in
    given_length s = ap length_in (tracer_fits m tree is_traced (length area) s)

    accepted : {e : ℕ} → r ≡ Ok e → TracedSo m area (Ok e) (y ++ drop n area)
    accepted {e} q =
        let f = wrote.fits e q in
        let s : array_size (tree ∷ []) ≤ length area = omega (arith, f.ends, f.room, length-take-le n area l, length_array (tree ∷ []), l) in
        let t = tracer_gives m area tree is_traced s in
        let w = whole_left area l y (subst (λ x. Wrote (take n area) y 0 (length (take n area)) (array_bytes (tree ∷ [])) x) q wrote) in
        record {
          number_is = sym t.number_is;
          length_is = omega (arith, f.ends, given_length s);
          result_is = w ∙ sym t.left;
        }

    -- a room that a tree may fill is enough, so that it was all of the area
    too_long_lem : (n ≡ length area) ⊎ (n ≡ tree_max) → r ≡ Err too_large → length area < array_size (tree ∷ [])
    too_long_lem c q = go c
      where
        over : length (take n area) < array_size (tree ∷ [])
        over = omega (arith, (wrote.large q).over, length_array (tree ∷ []))

        go : (n ≡ length area) ⊎ (n ≡ tree_max) → length area < array_size (tree ∷ [])
        go (inl e) = omega (arith, e, over, length-take-le n area l)
        go (inr e) = absurd (omega (arith, e, over, length-take-le n area l, traced_size m tree is_traced))

    zeros_so : replicate (length (y ++ drop n area)) 0 ≡ zeros area
    unfolding zeros
    zeros_so = ap (λ i. replicate {A = ℕ} i 0) (length_front area y n k)

    pub traced_ends : {left : List ℕ} {a : Answer} → (n ≡ length area) ⊎ (n ≡ tree_max) → EndsAs r (y ++ drop n area) left a → TracedSo m area a left
    traced_ends {left} {a} c f = told r
        (λ e q. let p = f.fits e q in subst (λ x. TracedSo m area x left) (sym p.0) (subst (TracedSo m area (Ok e)) (sym p.1) (accepted q)))
        (λ q. let p = f.large q in
        let t = tracer_ten m area tree is_traced (too_long_lem c q) in
        subst (λ x. TracedSo m area x left) (sym p.0)
        record { number_is = sym t.number_is; length_is = sym t.length_is; result_is = p.1 ∙ zeros_so ∙ sym t.result_is })

-- ---- the end, by what the writer answered
pub ends_fits : {r : Out} {area : List ℕ} {e : ℕ} → r ≡ Ok e → EndsAs r area area (Ok e)
ends_fits {e = e} q = record {
  fits = λ f p. let z : e ≡ f = cc in (ap Ok z, refl);
  large = λ p. let z : ◌≡◌ {A = ℕ} 0 1 = cc in absurd (omega arith);
}

pub ends_large : {r : Out} {area left : List ℕ} → r ≡ Err too_large → left ≡ replicate (length area) 0 → EndsAs r area left (Err ResultLong)
ends_large q z = record {
  fits = λ f p. let y : ◌≡◌ {A = ℕ} 0 1 = cc in absurd (omega arith);
  large = λ p. (refl, z);
}
