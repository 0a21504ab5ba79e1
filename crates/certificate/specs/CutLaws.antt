-- The cut, from the promise of `run` and the cut of the plain run.
use Rattle.std.specs.Prelude.{◌≡◌, refl, List, ℕ, ◌≤◌, Bool, true, false, cond, length, take, replicate}
use Rattle.std.proofs.Common.{sym, ap, ap₂, subst, ◌∙◌, arith}
use Rattle.std.proofs.lemmas.List.{length-replicate}
use Rattle.spec_trees.specs.Limits.{work_min}
use Rattle.spec_trees.specs.Within.{AllBytes}
use Rattle.spec_run.specs.Run.{Call, call, Verdict, gives, refused, verdict, zeros, work_after, outcome_of, plain_run, result_bytes}
use Rattle.spec_run.specs.Refusal.{keeps_work}
use Rattle.spec_run.proofs.RunLaws.{run_short, result_length}
use Rattle.spec_run.proofs.CutLaws.{cut}
use Rattle.spec_run.specs.Answer.{numbered, lengthened, Answered, Answer}
use Rattle.certificate.specs.declared.cut.Runs.{Runs}
use Rattle.certificate.specs.Cut.{work, entries, MakesRuns, CutSame}

-- a run's result stands in its result area
pub answered_within : {c : Call} {n l : ℕ} {left w p : List ℕ} → Answered c n l left w p → l ≤ length left
answered_within {c} h = omega (arith, h.length_is, (run_short c).left, ap length h.result_is)

-- a run in the zero work area leaves it zero, whatever it answers
zero_after : (x : Verdict) → work_after work x ≡ work
unfolding work_after zeros
zero_after (gives b ps) = ap (λ k. replicate k 0) (length-replicate {A = ℕ} work_min 0)
zero_after (refused r) = go (keeps_work r)
  where
    go : (b : Bool) → cond b work (zeros work) ≡ work
    go true = refl
    go false = ap (λ k. replicate k 0) (length-replicate {A = ℕ} work_min 0)

pub work_again : {q i j r p : List ℕ} {n l : ℕ} {left w noted : List ℕ} → Answered (call q i j work r p) n l left w noted → w ≡ work
unfolding plain_run outcome_of
work_again {q} {i} {j} {r} {p} h = h.work_is ∙ zero_after (verdict (call q i j work r p))

-- the three runs, as the code has them
module _ {q q₁ q₂ i j first second middle left₁ left₂ w₁ w₂ w₃ p₁ p₂ p₃ : List ℕ} (a b c : Answer) {n : ℕ}
    (A : Answered (call q₁ i j work first entries) (numbered a) (lengthened a) middle w₁ p₁)
    (z : n ≡ lengthened a)
    (B : Answered (call q₂ (take n middle) j w₁ second entries) (numbered b) (lengthened b) left₂ w₂ p₂)
    (C : Answered (call q i j w₂ middle entries) (numbered c) (lengthened c) left₁ w₃ p₃) where
  second_run : Answered (call q₂ (take (lengthened a) middle) j work second entries) (numbered b) (lengthened b) left₂ w₂ p₂
  second_run = rw (work_again A, z) at B

  uncut_run : Answered (call q i j work middle entries) (numbered c) (lengthened c) left₁ w₃ p₃
  uncut_run = rw (work_again second_run) at C

  pub makes_runs : MakesRuns q q₁ q₂ i j first second record { first = a; second = b; uncut = c } left₁ left₂
  makes_runs = record {
    middle = middle;
    noted₁ = p₁;
    noted₂ = p₂;
    noted = p₃;
    first_is = rw (work_again A) at A;
    second_is = rw (work_again second_run) at second_run;
    uncut_is = rw (work_again uncut_run) at uncut_run;
  }

pub cut_same : {q q₁ q₂ i j first second : List ℕ} {r : Runs} {left₁ left₂ : List ℕ} → AllBytes q₁ → AllBytes i → AllBytes j
    → MakesRuns q q₁ q₂ i j first second r left₁ left₂ → CutSame q q₁ q₂ first second r left₁ left₂
cut_same {q} {q₁} {q₂} {i} {j} {first} {second} {r} {left₁} {left₂} b₁ bi bj h k e n₁ n₂ =
    let a = h.first_is in
    let l : length h.middle ≡ length first = ap length a.result_is ∙ result_length (call q₁ i j work first entries) in
    let same : take (lengthened r.first) h.middle ≡ result_bytes (plain_run (call q₁ i j work first entries)) = ap₂ take a.length_is a.result_is in
    let s : Answered (call q₂ (result_bytes (plain_run (call q₁ i j work first entries))) j work second entries) (numbered r.second) (lengthened r.second) left₂ work h.noted₂ =
    subst (λ x. Answered (call q₂ x j work second entries) (numbered r.second) (lengthened r.second) left₂ work h.noted₂) same h.second_is in
    let u = h.uncut_is in
    let m : length second ≤ length h.middle = omega (arith, l, e) in
    let t = cut q q₁ q₂ i j work work work h.middle first second entries entries entries b₁ bi bj k (omega arith) m (omega arith) (sym a.number_is ∙ n₁) (sym s.number_is ∙ n₂) in (
      u.number_is ∙ t.number ∙ sym s.number_is,
      u.length_is ∙ t.length ∙ sym s.length_is,
      ap₂ take u.length_is u.result_is ∙ t.result ∙ sym (ap₂ take s.length_is s.result_is),
    )
