-- Laws of the program's answer: its text, the room for it, and the pieces of the input.
use Rattle.std.specs.Prelude.{◌≡◌, List, ℕ, ◌+◌, ◌*◌, ◌-◌, ◌≤◌, ◌<◌, length, take, drop, replicate, Ok, Err}
use Rattle.std.proofs.Math.Path.{refl, sym, ap}
use Rattle.std.proofs.Common.{subst, ◌∙◌, arith, length-take, length-take-le, take_all}
use Rattle.std.proofs.lemmas.List.{length-replicate}
use borrow.Author.Tests.{ne_eqb}
use Rattle.spec_trees.specs.Limits.{array_max, work_min, positions_min}
use Rattle.spec_run.specs.declared.answer.Refusal.{Refusal}
use Rattle.spec_run.specs.Refusal.{number_of}
use Rattle.spec_run.specs.Answer.{numbered, lengthened, Answered, Answer}
use Rattle.spec_run.specs.Run.{Call, call, plain_run}
use Rattle.spec_run.proofs.RunLaws.{refusal_most, run_short}
use Rattle.spec_run.specs.Program.{hex, refused_text, shown, answered, program, program_max}
use Rattle.tquery_cli.specs.Text.{Begins}
use Rattle.tquery_cli.specs.Respond.{ShowReady, ShowsAnswer, RespondReady}
use Rattle.tquery_cli.specs.Split.{piece_end}
use Rattle.tquery_cli.specs.SplitLaws.{first, second, third}

-- ---- the numbers of refusals
pub refusal_small : (f : Refusal) {n : ℕ} → n ≡ number_of f → n < 100
refusal_small f {n} e = omega (arith, (refusal_most f).1)

-- ---- an answer's text
module _ {a : Answer} {result text : List ℕ} where
  pub show_length : {n : ℕ} → ShowReady a result text → a ≡ Ok n → length (take n result) ≡ n
  show_length {n} h e = length-take-le n result (omega (arith, ap lengthened e, h.within))

  pub show_room : {n : ℕ} → ShowReady a result text → a ≡ Ok n → 2 * length (take n result) + 1 ≤ length text
  show_room {n} h e = omega (arith, show_length h e, ap lengthened e, h.room)

  pub show_result : {n r : ℕ} → a ≡ Ok n → Begins text (hex (take n result)) r → ShowsAnswer a result text r
  unfolding shown
  show_result {n} {r} e b = record {
    shows = λ o hn hl hr.
        let z : o.number ≡ 0 = sym (sym (ap numbered e) ∙ hn) in
        let l : o.length ≡ n = sym (sym (ap lengthened e) ∙ hl) in
        rw (z, l, sym hr) b;
  }

  pub show_refusal : {f : Refusal} {n r : ℕ} → a ≡ Err f → n ≡ number_of f → Begins text (refused_text n) r → ShowsAnswer a result text r
  unfolding shown
  show_refusal {f} {n} {r} e g b = record {
    shows = λ o hn hl hr.
        let z : o.number ≡ n = sym (sym (ap numbered e) ∙ hn) ∙ sym g in
        rw (z, ne_eqb n 0 (λ q. omega (arith, q, g, (refusal_most f).0))) b;
  }

-- ---- the areas, and the room for an answer: a result has no more bytes than the result area
-- areas of zeros, as the program has them
pub areas_ready : (s : List ℕ) {r text : List ℕ} → r ≡ take program_max s → 32800 ≤ length text → RespondReady r (replicate work_min 0) (replicate array_max 0) (replicate positions_min 0) text
areas_ready s e l = record { short = omega (arith, ap length e, length-take program_max s); work_zero = refl; zero = refl; entries_zero = refl; room = l }

module _ {s work result positions text : List ℕ} (h : RespondReady s work result positions text) where
  pub answer_ready : {a : Answer} {q i j left w p : List ℕ} → Answered (call q i j work result positions) (numbered a) (lengthened a) left w p → ShowReady a left text
  answer_ready {a} {q} {i} {j} g =
      let m = run_short (call q i j work result positions) in
      let l : length result ≡ array_max = ap length h.zero ∙ length-replicate {A = ℕ} array_max 0 in
      record {
        within = omega (arith, g.length_is, m.left, ap length g.result_is);
        room = omega (arith, g.length_is, m.area, l, h.room);
        refusal = omega (arith, h.room);
      }

  -- ---- the answer to the three pieces is the program's
  module _ {m n : ℕ} (d : m ≡ piece_end s 0) (e : n ≡ piece_end s m) where
    abbrev pieces : Call
    pieces = call (take m s) (take (n - m) (drop m s)) (take (length s - n) (drop n s)) work result positions

    program_is : plain_run pieces ≡ answered (take program_max s)
    unfolding answered
    program_is = rw (take_all program_max s h.short, h.zero, h.work_zero, h.entries_zero, first s d, second s d e, third s d e) refl

    pub responds : {a : Answer} {left w p end : List ℕ} {r : ℕ} → Answered pieces (numbered a) (lengthened a) left w p → ShowsAnswer a left end r → Begins end (program s) r
    unfolding program
    responds g k =
        let o = program_is in
        k.shows (answered (take program_max s)) (g.number_is ∙ ap (λ x. x.number) o) (g.length_is ∙ ap (λ x. x.length) o) (g.result_is ∙ ap (λ x. x.result) o)

-- ---- of a longer input only the first bytes are read
pub read_first : (s : List ℕ) {r : List ℕ} {end : List ℕ} {n : ℕ} → r ≡ take program_max s → Begins end (program r) n → Begins end (program s) n
unfolding program
read_first s {r} {end} {n} e h =
    let z : take program_max r ≡ take program_max s = ap (take program_max) e ∙ take_all program_max (take program_max s) (omega (arith, length-take program_max s)) in
    subst (λ x. Begins end (shown (answered x)) n) z h
