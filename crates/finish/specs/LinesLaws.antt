-- Laws of the position area at the end of a run: an accepted run's trees stand in the collector with their positions,
-- and a refusal in or after the stages clears the area.
use Rattle.std.specs.Prelude.{◌≡◌, refl, List, ◌++◌, Bool, true, false, cond, ◌&&◌, ℕ, ◌+◌, ◌-◌, ◌≤◌, ◌<◌, length, replicate, leb, Ok, Err}
use Rattle.std.proofs.Math.Path.{sym, ap}
use Rattle.std.proofs.Common.{subst, ◌∙◌, arith}
use Rattle.std.proofs.Math.ListN.{drop, length-map}
use Rattle.spec_trees.specs.Limits.{array_max, positions_min}
use Rattle.spec_trees.specs.OptionLaws.{leb_yes}
use Rattle.spec_trees.specs.Tree.{Tree}
use Rattle.spec_trees.specs.Size.{array_size}
use Rattle.spec_trees.specs.Bytes.{array_bytes}
use Rattle.areas.specs.Area.{Is}
use Rattle.queries.specs.Places.{array_trees}
use Rattle.spec_stages.specs.Stages.{too_long, overflow, State, going, large, halted}
use Rattle.spec_stages.specs.Positions.{Borne, unmarked, positions}
use Rattle.map.specs.Map.{collected_at}
use Rattle.positions.specs.Bearing.{Bears, StandFrom, Standing}
use Rattle.positions.specs.Entries.{Enters}
use Rattle.stretches.specs.Ended.{Ended, HeldIs, EndedIs}
use Rattle.stretches.specs.declared.ended.Failure.TheVariants as failure
use Rattle.spec_run.specs.declared.answer.Refusal.{Refusal}
use Rattle.spec_run.specs.declared.answer.Refusal.TheVariants.{ResultLong}
use Rattle.spec_run.specs.Refusal.{keeps_result}
use Rattle.spec_run.specs.Run.{Verdict, gives, refused, refusal_at, final, number_in, length_in, zeros, positions_after}
use Rattle.spec_run.proofs.RunLaws.{refusal_most, accepts_gives, final_out}
use Rattle.spec_run.specs.Answer.{numbered, lengthened, Answer}
use Rattle.finish.specs.Lines.{ComesTo, LinesReady, Lines}
use Rattle.finish.specs.FinishLaws.{bytes_size, held_length}

-- ---- accepted
-- the stages ended with an array, whose trees the collector holds
ended_held : {w : List ℕ} {st : State} {bs : List Borne} (r : Ended) → EndedIs w r st bs → (fs : List Tree) → st ≡ going fs → array_size fs ≤ array_max
    → (n : ℕ) × HeldIs w n st bs
ended_held (Ok n) h fs e s = (n, h.held n refl)
ended_held (Err failure.Large) h fs e s = let y = h.large_is refl in let z : ◌≡◌ {A = ℕ} 0 1 = cc in absurd (omega arith)
ended_held (Err failure.Long) h fs e s = let y = h.long_is refl in let z : ◌≡◌ {A = ℕ} 0 1 = cc in absurd (omega arith)
ended_held (Err failure.Overflow) h fs e s = let y = h.overflow_is refl in let z : ◌≡◌ {A = ℕ} 0 1 = cc in absurd (omega arith)
ended_held (Err failure.Full) h fs e s =
    let f = h.full refl in
    let y : going fs ≡ going f.trees = sym e ∙ f.same in
    let z : fs ≡ f.trees = cc in
    absurd (omega (arith, ap array_size z, f.over))

-- n is the length of the result, its head included
pub record Printed (w : List ℕ) (n : ℕ) (x : Verdict) : Type 0 where
  pub borne : List Borne
  pub trees_are : StandFrom w 0 (n - 3) (unmarked borne)
  pub bears : Bears w 0 borne
  pub gives_is : x ≡ gives (array_bytes (unmarked borne)) (positions borne)
  pub head : 3 ≤ n
  pub short : n ≤ array_max

final_gives : (room : ℕ) (ps : List ℕ) (ts : List Tree) → array_size ts ≤ array_max → array_size ts ≤ room → final room ps (going ts) ≡ gives (array_bytes ts) ps
unfolding final
final_gives room ps ts s m = rw (leb_yes (array_size ts) array_max s, leb_yes (array_size ts) room m) refl

pub accepted_printed : {w : List ℕ} {a : Answer} {x : Verdict} {n : ℕ} → ComesTo w a x → a ≡ Ok n → Printed w n x
unfolding length_in
accepted_printed {w} {a} {x} {n} h z =
    let (b, qs, e) = accepts_gives x (sym h.number_is ∙ ap numbered z) in
    let (fs, f, s, m) = final_out h.room (positions h.borne) h.state b qs (sym h.verdict_is ∙ e) in
    let (k, i) = ended_held h.ended h.ended_is fs f s in
    let y : going fs ≡ going (unmarked h.borne) = sym f ∙ i.same in
    let t : fs ≡ unmarked h.borne = cc in
    let g : x ≡ gives (array_bytes (unmarked h.borne)) (positions h.borne) =
    h.verdict_is ∙ ap (final h.room (positions h.borne)) f ∙ final_gives h.room (positions h.borne) fs s m
    ∙ ap (λ ts. gives (array_bytes ts) (positions h.borne)) t in
    let l : n ≡ length (array_bytes (unmarked h.borne)) = sym (ap lengthened z) ∙ h.length_is ∙ ap length_in g in
    let c : n ≡ k + 3 = omega (arith, bytes_size (unmarked h.borne), held_length i.trees_are) in
    let d : n - 3 ≡ k = omega arith in
    record {
      borne = h.borne;
      trees_are = subst (λ j. Is w collected_at (collected_at + j) (array_trees (unmarked h.borne))) (sym d) i.trees_are;
      bears = i.bears;
      gives_is = g;
      head = omega arith;
      short = omega (arith, i.short);
    }

-- an entry for each of them is asked for, and is written
module _ {w : List ℕ} {a : Answer} {n : ℕ} (z : a ≡ Ok n) where
  pub entries_ready : {entries : List ℕ} → LinesReady w a entries → (3 ≤ n) × Standing w 0 (n - 3) × (positions_min ≤ length entries)
  entries_ready h =
      let p = accepted_printed h.comes z in
      (p.head, record { size = h.size; trees = unmarked p.borne; trees_are = p.trees_are; short = omega (arith, p.short) }, h.enough)

  pub entries_lines : {entries left : List ℕ} → Enters w (n - 3) entries left → Lines w a entries left
  unfolding positions_after
  entries_lines {entries} {left} h x k =
      let p = accepted_printed k z in
      let l = length-map p.borne (λ b. b.position) in
      h p.borne p.trees_are p.bears ∙ ap (λ i. positions p.borne ++ drop i entries) (sym l) ∙ sym (ap (positions_after entries) p.gives_is)

-- ---- refused: in or after the stages
final_zero : (room : ℕ) (ps : List ℕ) (st : State) (area : List ℕ) → 0 < number_in (final room ps st) → positions_after area (final room ps st) ≡ zeros area
unfolding final refusal_at number_in positions_after keeps_result
final_zero room ps large area l = refl
final_zero room ps (halted too_long) area l = refl
final_zero room ps (halted overflow) area l = refl
final_zero room ps (going ts) area l = go (leb (array_size ts) array_max && leb (array_size ts) room) l
  where
    go : (b : Bool) → 0 < number_in (cond b (gives (array_bytes ts) ps) (refused ResultLong)) → positions_after area (cond b (gives (array_bytes ts) ps) (refused ResultLong)) ≡ zeros area
    go true l = absurd (omega arith)
    go false l = refl

pub refused_lines : {w : List ℕ} {a : Answer} {t : Refusal} (entries : List ℕ) {left : List ℕ} → a ≡ Err t → left ≡ replicate (length entries) 0 → Lines w a entries left
unfolding zeros
refused_lines {t = t} entries z e x h =
    let y = h.verdict_is in
    let l : 0 < number_in (final h.room (positions h.borne) h.state) =
    omega (arith, (refusal_most t).0, sym (ap numbered z) ∙ h.number_is ∙ ap number_in y) in
    e ∙ sym (ap (positions_after entries) y ∙ final_zero h.room (positions h.borne) h.state entries l)
