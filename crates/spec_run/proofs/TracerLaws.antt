-- What the call that traces a message answers: 13, then 10, or an array that is accepted.
use Rattle.std.specs.Prelude.{◌≡◌, List, [], ◌∷◌, ◌++◌, Bool, true, false, cond, ℕ, ◌≤◌, ◌<◌, length, drop, leb}
use Rattle.std.proofs.Math.Path.{refl}
use Rattle.std.proofs.Common.{sym, ap, ◌∙◌, arith, leb-true, leb-false}
use Rattle.std.proofs.Math.Option.{Option, none, some}
use Rattle.spec_trees.specs.Limits.{array_max}
use Rattle.spec_trees.specs.Tree.{Tree}
use Rattle.spec_trees.specs.Size.{array_size}
use Rattle.spec_trees.specs.SizeLaws.{length_array}
use Rattle.spec_trees.specs.Bytes.{array_bytes}
use Rattle.spec_trees.specs.Within.{Within}
use Rattle.spec_trees.specs.OptionLaws.{leb_yes, leb_no, split}
use Rattle.spec_tracer.specs.Traced.{traced}
use Rattle.spec_tracer.proofs.TracedLaws.{traced_max, traced_size, traced_within, traced_accepted}
use Rattle.spec_run.specs.declared.answer.Refusal.{Refusal}
use Rattle.spec_run.specs.declared.answer.Refusal.TheVariants.{MessageMalformed, ResultLong}
use Rattle.spec_run.specs.Refusal.{keeps_result, keeps_work}
use Rattle.spec_run.specs.Run.{Verdict, gives, refused, asking, final, zeros, number_in, length_in, result_after, work_after, outcome_of, result_bytes, check_number, checked_array}
use Rattle.spec_run.specs.Tracer.{tracer_verdict, plain_tracer}
use Rattle.spec_run.specs.Answer.{Traced}
use Rattle.spec_run.specs.AnswerLaws.{AnsweredBy}
use Rattle.spec_run.proofs.RunLaws.{verdict_most, Fitting, outcome_fitting, bytes_short, result_is}

-- ---- the verdict, by what becomes of the message
pub tracer_none : (m : List ℕ) (room : ℕ) → traced m ≡ none → tracer_verdict m room ≡ refused MessageMalformed
unfolding tracer_verdict asking
tracer_none m room e = rw e refl

module _ (m : List ℕ) (t : Tree) (e : traced m ≡ some t) where
  pub tracer_fits : (room : ℕ) → array_size (t ∷ []) ≤ room → tracer_verdict m room ≡ gives (array_bytes (t ∷ [])) []
  unfolding tracer_verdict asking final
  tracer_fits room h =
      rw (e, leb_yes (array_size (t ∷ [])) array_max (omega (arith, traced_size m t e)), leb_yes (array_size (t ∷ [])) room h) refl

  pub tracer_large : (room : ℕ) → room < array_size (t ∷ []) → tracer_verdict m room ≡ refused ResultLong
  unfolding tracer_verdict asking final
  tracer_large room h =
      rw (e, leb_yes (array_size (t ∷ [])) array_max (omega (arith, traced_size m t e)), leb_no (array_size (t ∷ [])) room h) refl

-- ---- 13 goes before 10: a message that becomes no tree leaves the area as it was, however short that is
pub record RefusedBy (m area : List ℕ) (number : ℕ) (left : List ℕ) : Type 0 where
  pub number_is : (plain_tracer m area).number ≡ number
  pub length_is : (plain_tracer m area).length ≡ 0
  pub result_is : (plain_tracer m area).result ≡ left

left_so : (m area : List ℕ) (r : Refusal) (n : ℕ) (left : List ℕ) → tracer_verdict m (length area) ≡ refused r → number_in (refused r) ≡ n → result_after area (refused r) ≡ left → RefusedBy m area n left
unfolding plain_tracer outcome_of length_in
left_so m area r n left e a b = record { number_is = ap number_in e ∙ a; length_is = ap length_in e; result_is = ap (result_after area) e ∙ b }

pub tracer_thirteen : (m area : List ℕ) → traced m ≡ none → RefusedBy m area 13 area
unfolding number_in result_after keeps_result
tracer_thirteen m area e = left_so m area MessageMalformed 13 area (tracer_none m (length area) e) refl refl

-- 10: the array is over the result area, and that is all zero
pub tracer_ten : (m area : List ℕ) (t : Tree) → traced m ≡ some t → length area < array_size (t ∷ []) → RefusedBy m area 10 (zeros area)
unfolding number_in result_after keeps_result
tracer_ten m area t e h = left_so m area ResultLong 10 (zeros area) (tracer_large m t e (length area) h) refl refl

-- ---- 0: the array is that of the message's tree alone, and is accepted where an array is checked
pub record GivesTraced (m area : List ℕ) (t : Tree) : Type 0 where
  pub traced_is : traced m ≡ some t
  pub fits : array_size (t ∷ []) ≤ length area
  pub number_is : (plain_tracer m area).number ≡ 0
  pub bytes_are : result_bytes (plain_tracer m area) ≡ array_bytes (t ∷ [])
  pub left : (plain_tracer m area).result ≡ array_bytes (t ∷ []) ++ drop (length (array_bytes (t ∷ []))) area
  pub within : Within (t ∷ [])
  pub checked : checked_array (result_bytes (plain_tracer m area)) ≡ 0
  pub short : (plain_tracer m area).length ≤ traced_max

pub tracer_gives : (m area : List ℕ) (t : Tree) → traced m ≡ some t → array_size (t ∷ []) ≤ length area → GivesTraced m area t
unfolding plain_tracer outcome_of number_in length_in result_after checked_array check_number
tracer_gives m area t e h =
    let v = tracer_fits m t e (length area) h in
    let b : result_bytes (plain_tracer m area) ≡ array_bytes (t ∷ []) = ap (λ x. result_bytes (outcome_of area [] x)) v ∙ result_is area [] (array_bytes (t ∷ [])) [] in
    record {
      traced_is = e;
      fits = h;
      number_is = ap number_in v;
      bytes_are = b;
      left = ap (result_after area) v;
      within = traced_within m t e;
      checked = ap checked_array b ∙ rw (traced_accepted m t e) refl;
      short = omega (arith, ap length_in v, length_array (t ∷ []), traced_size m t e);
    }

-- ---- every answer is one of these: no other number comes, 8 and 9 not among them
pub data TracerAnswers (m area : List ℕ) : Type 0 where
  malformed : traced m ≡ none → RefusedBy m area 13 area → TracerAnswers m area
  long : (t : Tree) → traced m ≡ some t → length area < array_size (t ∷ []) → RefusedBy m area 10 (zeros area) → TracerAnswers m area
  given : (t : Tree) → GivesTraced m area t → TracerAnswers m area

pub tracer_answers : (m area : List ℕ) → TracerAnswers m area
tracer_answers m area = go (traced m) refl
  where
    go : (x : Option Tree) → traced m ≡ x → TracerAnswers m area
    go none e = malformed e (tracer_thirteen m area e)
    go (some t) e = split (leb (array_size (t ∷ [])) (length area))
        (λ h. given t (tracer_gives m area t e (leb-true (array_size (t ∷ [])) (length area) h)))
        (λ h. let l = leb-false (array_size (t ∷ [])) (length area) h in long t e l (tracer_ten m area t e l))

-- an area of 1,262 bytes holds every array: then 10 does not come
pub tracer_enough : (m area : List ℕ) → traced_max ≤ length area → (plain_tracer m area).number ≡ 10 → ⊥
tracer_enough m area h z = go (traced m) refl
  where
    go : (x : Option Tree) → traced m ≡ x → ⊥
    go none e = omega (arith, z, (tracer_thirteen m area e).number_is)
    go (some t) e = omega (arith, z, (tracer_gives m area t e (omega (arith, h, traced_size m t e))).number_is)

-- ---- as one number: an answer's length is that of an outcome that fits, its number at most 13
pub tracer_number : (m area : List ℕ) → (plain_tracer m area).number ≤ 13
unfolding plain_tracer outcome_of
tracer_number m area = verdict_most (tracer_verdict m (length area))

pub tracer_fitting : (m area : List ℕ) → Fitting area (plain_tracer m area)
unfolding plain_tracer
tracer_fitting m area = outcome_fitting area [] (tracer_verdict m (length area)) (λ b ps f. go (traced m) refl b ps f)
  where
    go : (x : Option Tree) → traced m ≡ x → (b ps : List ℕ) → tracer_verdict m (length area) ≡ gives b ps → (length b ≤ array_max) × (length b ≤ length area)
    go none e b ps f = let n = sym (tracer_none m (length area) e) ∙ f in let z : ◌≡◌ {A = ℕ} 0 1 = cc in absurd (omega arith)
    go (some t) e b ps f = split (leb (array_size (t ∷ [])) (length area))
        (λ h. let s = leb-true (array_size (t ∷ [])) (length area) h in
        bytes_short (t ∷ []) (tracer_verdict m (length area)) [] b ps (length area) (tracer_fits m t e (length area) s) f (omega (arith, traced_size m t e)) s)
        (λ h. let n = sym (tracer_large m t e (length area) (leb-false (array_size (t ∷ [])) (length area) h)) ∙ f in let z : ◌≡◌ {A = ℕ} 0 1 = cc in absurd (omega arith))

no_work : (x : Verdict) → [] ≡ work_after [] x
unfolding work_after zeros
no_work (gives b ps) = refl
no_work (refused r) = go (keeps_work r)
  where
    go : (k : Bool) → [] ≡ cond k [] (zeros [])
    go true = refl
    go false = refl

pub traced_by : {m area : List ℕ} {n l : ℕ} {left : List ℕ} → Traced m area n l left → AnsweredBy (plain_tracer m area) n l left []
unfolding plain_tracer outcome_of
traced_by {m} {area} h = record { number_is = h.number_is; length_is = h.length_is; result_is = h.result_is; work_is = no_work (tracer_verdict m (length area)) }

pub by_traced : {m area : List ℕ} {n l : ℕ} {left : List ℕ} → AnsweredBy (plain_tracer m area) n l left [] → Traced m area n l left
by_traced h = record { number_is = h.number_is; length_is = h.length_is; result_is = h.result_is }
