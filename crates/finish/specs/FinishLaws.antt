-- Laws of the end of a call: the array that is written, and the outcome of each end.
use Rattle.std.specs.Prelude.{◌≡◌, refl, List, ◌++◌, true, false, ◌&&◌, ℕ, ◌+◌, ◌-◌, ◌≤◌, ◌<◌, length, take, drop, replicate, leb, Ok, Err}
use Rattle.std.proofs.Common.{sym, ap, ap₂, subst, ◌∙◌, arith, length-append, take_all}
use Rattle.spec_trees.specs.Limits.{array_max}
use Rattle.spec_trees.specs.OptionLaws.{leb_yes, leb_no}
use Rattle.spec_trees.specs.Tree.{Tree}
use Rattle.spec_trees.specs.Size.{array_size}
use Rattle.spec_trees.specs.Bytes.{field_bytes, array_f, array_bytes}
use Rattle.areas.specs.Area.{Is, Wrote, head_bytes, Out}
use Rattle.areas.specs.AreaLaws.{is_part_lem, told}
use Rattle.queries.specs.Places.{array_trees}
use Rattle.spec_stages.specs.Stages.{Halt, too_long, overflow, State, going, large, halted}
use Rattle.spec_stages.specs.Positions.{unmarked}
use Rattle.map.specs.Map.{collected_at}
use Rattle.stretches.specs.declared.ended.Failure.{Failure}
use Rattle.stretches.specs.declared.ended.Failure.TheVariants as failure
use Rattle.stretches.specs.Failure.{refusal_of}
use Rattle.stretches.specs.Ended.{Ended, FullIs}
use Rattle.stretches.specs.LaterLaws.{size_is}
use Rattle.spec_run.specs.declared.answer.Refusal.{Refusal}
use Rattle.spec_run.specs.declared.answer.Refusal.TheVariants.{TreeLarge, ResultLong}
use Rattle.spec_run.specs.Refusal.{keeps_result}
use Rattle.spec_run.specs.Answer.{AnswersAs, Answer}
use Rattle.spec_run.specs.Run.{refusal_at, final, zeros, number_in, length_in, result_after}
use Rattle.finish.specs.Finish.{AcceptReady, Accepts, FinishReady, Finishes}

-- ---- the array is written: its head, and its trees behind it
pub array_written : {out x v src : List ℕ} {r : Out} → length out ≡ length src + 3 → length x ≡ length out
    → Wrote out x 0 (0 + 3) (head_bytes 1 (length out - (0 + 3))) (Ok (0 + 3)) → Wrote x v 3 (length x) src r → length v ≡ length x
    → v ≡ head_bytes 1 (length src) ++ src
array_written {out} {x} {v} {src} {r} l m h k n =
    let z : length out - (0 + 3) ≡ length src = omega arith in
    told r
    (λ e y.
    let g = k.fits e y in
    sym (take_all e v (omega (arith, g.ends))) ∙ g.below ∙ ap (λ b. b ++ src) ((h.fits (0 + 3) refl).below ∙ ap (head_bytes 1) z))
    (λ y. absurd (omega (arith, (k.large y).over)))

-- ---- the outcomes
array_is : (ts : List Tree) → head_bytes 1 (length (array_trees ts)) ++ array_trees ts ≡ array_bytes ts
unfolding array_bytes array_f field_bytes
array_is ts = refl

-- three bytes of head
pub bytes_size : (ts : List Tree) → length (array_bytes ts) ≡ length (array_trees ts) + 3
bytes_size ts = sym (ap length (array_is ts)) ∙ omega (arith, length-append (head_bytes 1 (length (array_trees ts))) (array_trees ts))

-- a refusal in or after the stages
module _ {a : Answer} {left : List ℕ} (area : List ℕ) {r : Refusal} (h : (a ≡ Err r) × (left ≡ replicate (length area) 0)) (ps : List ℕ) where
  pub failed_large : r ≡ TreeLarge → {st : State} → st ≡ large → AnswersAs area (final (length area) ps st) a left
  unfolding final number_in length_in result_after zeros keeps_result
  failed_large z y = rw (y, h.0, z) record { number_is = refl; length_is = refl; result_is = h.1 }

  pub failed_halted : (k : Halt) → r ≡ refusal_at k → {st : State} → st ≡ halted k → AnswersAs area (final (length area) ps st) a left
  unfolding final refusal_at number_in length_in result_after zeros keeps_result
  failed_halted too_long z y = rw (y, h.0, z) record { number_is = refl; length_is = refl; result_is = h.1 }
  failed_halted overflow z y = rw (y, h.0, z) record { number_is = refl; length_is = refl; result_is = h.1 }

  failed_by : r ≡ ResultLong → (ts : List Tree) → (leb (array_size ts) array_max && leb (array_size ts) (length area)) ≡ false
      → AnswersAs area (final (length area) ps (going ts)) a left
  unfolding final number_in length_in result_after zeros keeps_result
  failed_by z ts y = rw (y, h.0, z) record { number_is = refl; length_is = refl; result_is = h.1 }

  pub failed_full : r ≡ ResultLong → {st : State} → FullIs st → AnswersAs area (final (length area) ps st) a left
  failed_full z {st} f = subst (λ s. AnswersAs area (final (length area) ps s) a left) (sym f.same)
      (failed_by z f.trees (ap (λ b. b && leb (array_size f.trees) (length area)) (leb_no (array_size f.trees) array_max f.over)))

  pub failed_room : {n : ℕ} → r ≡ ResultLong → n + 3 ≤ array_max → length area < n + 3 → (ts : List Tree) → n ≡ length (array_trees ts)
      → AnswersAs area (final (length area) ps (going ts)) a left
  failed_room z m l ts e =
      let s = size_is ts in
      failed_by z ts (ap₂ ◌&&◌ (leb_yes (array_size ts) array_max (omega arith)) (leb_no (array_size ts) (length area) (omega arith)))

-- the trees in the collector take its bytes
pub held_length : {w : List ℕ} {n : ℕ} {xs : List ℕ} → Is w collected_at (collected_at + n) xs → n ≡ length xs
held_length t = omega (arith, t.ends)

-- the array that the collector holds was written
pub accepted_room : (w : List ℕ) (n : ℕ) (area : List ℕ) {x : List ℕ} → n + 3 ≤ array_max → n + 3 ≤ length area
    → x ≡ head_bytes 1 (length (take (collected_at + n - collected_at) (drop collected_at w))) ++ take (collected_at + n - collected_at) (drop collected_at w)
    → Accepts w n area (x ++ drop (n + 3) area) (Ok (n + 3))
unfolding final number_in length_in result_after
accepted_room w n area {x} m l z ts t ps =
    let p : take (collected_at + n - collected_at) (drop collected_at w) ≡ array_trees ts = is_part_lem t in
    let q : x ≡ array_bytes ts = z ∙ ap (λ b. head_bytes 1 (length b) ++ b) p ∙ array_is ts in
    let k : n + 3 ≡ length (array_bytes ts) = omega (arith, bytes_size ts, held_length t) in
    let s = size_is ts in
    let c : (leb (array_size ts) array_max && leb (array_size ts) (length area)) ≡ true =
    ap₂ ◌&&◌ (leb_yes (array_size ts) array_max (omega (arith, held_length t))) (leb_yes (array_size ts) (length area) (omega (arith, held_length t))) in
    rw c record { number_is = refl; length_is = k; result_is = ap₂ (λ b i. b ++ drop i area) q k }

-- ---- what each end asks and says
module _ {w : List ℕ} {r : Ended} where
  pub held_accept : {n : ℕ} → FinishReady w r → r ≡ Ok n → AcceptReady w n
  held_accept {n} h z =
      let x = h.ended.held n z in
      record { trees = unmarked h.borne; trees_are = x.trees_are; short = x.short }

  pub held_finish : {n : ℕ} (area : List ℕ) {left : List ℕ} {a : Answer} → r ≡ Ok n → Accepts w n area left a → Finishes w r area left a
  held_finish {n} area {left} {a} z h st bs k ps =
      let x = k.held n z in
      subst (λ s. AnswersAs area (final (length area) ps s) a left) (sym x.same) (h (unmarked bs) x.trees_are ps)

-- the room and the trees that are lent have their lengths
pub accept_lengths : {w : List ℕ} {n : ℕ} (out : List ℕ) → AcceptReady w n → length out ≡ n + 3
    → (length out ≡ length (take (collected_at + n - collected_at) (drop collected_at w)) + 3) × (length out ≤ array_max)
accept_lengths out h l = (l ∙ omega (arith, ap length (is_part_lem h.trees_are), held_length h.trees_are), omega (arith, h.short))

-- a failure of the stages: the result area is zero
pub failed_finish : {w : List ℕ} {ended : Ended} {e : Failure} {r : Refusal} {a : Answer} {left : List ℕ} (area : List ℕ) → ended ≡ Err e → r ≡ refusal_of e
    → (a ≡ Err r) × (left ≡ replicate (length area) 0) → Finishes w ended area left a
unfolding refusal_at
failed_finish {e = failure.Large} area z y h st bs k ps = failed_large area h ps y (k.large_is z)
failed_finish {e = failure.Long} area z y h st bs k ps = failed_halted area h ps too_long y (k.long_is z)
failed_finish {e = failure.Overflow} area z y h st bs k ps = failed_halted area h ps overflow y (k.overflow_is z)
failed_finish {e = failure.Full} area z y h st bs k ps = failed_full area h ps y (k.full z)
