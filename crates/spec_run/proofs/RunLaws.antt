-- What the tests of a call have read, what an accepted plain run gives, and what a run leaves in the areas.
use Rattle.std.specs.Prelude.{◌≡◌, refl, List, ◌++◌, Bool, true, false, cond, ◌&&◌, ℕ, ◌≤◌, ◌<◌, length, drop, T, leb}
use Rattle.std.proofs.Common.{sym, ap, ◌∙◌, arith, length-append, length-drop, leb→le}
use Rattle.std.proofs.lemmas.List.{length-replicate}
use Rattle.std.proofs.Math.Seq.{take-append_seam}
use Rattle.spec_trees.specs.Limits.{array_max, work_min, positions_min}
use Rattle.spec_trees.specs.Tree.{Tree}
use Rattle.spec_trees.specs.Size.{array_size}
use Rattle.spec_trees.specs.SizeLaws.{length_array, six_each}
use Rattle.spec_trees.specs.Bytes.{array_bytes}
use Rattle.spec_trees.specs.Readers.{Tested, accepted, overlong, malformed}
use Rattle.spec_trees.specs.Decode.{read_array}
use Rattle.spec_trees.specs.Within.{AllBytes, Within}
use Rattle.std.proofs.Math.Option.{Option, none, some}
use Rattle.spec_trees.specs.OptionLaws.{leb_yes, leb_no, T_and}
use Rattle.spec_trees.proofs.ArrayLaws.{array_only, read_array_lem}
use Rattle.spec_queries.specs.Query.{Stage}
use Rattle.spec_queries.specs.Decode.{read_query}
use Rattle.spec_queries.specs.QueryLaws.{query_only, read_query_lem}
use Rattle.spec_stages.specs.Stages.{too_long, overflow, State, going, large, halted, stages}
use Rattle.spec_stages.specs.Positions.{result_positions}
use Rattle.spec_stages.proofs.PositionLaws.{result_count}
use Rattle.spec_stages.proofs.KeepLaws.{stages_allowed}
use Rattle.spec_run.specs.declared.answer.Refusal.{Refusal}
use Rattle.spec_run.specs.declared.answer.Refusal.TheVariants.{WorkShort, PositionsShort, MessageMalformed, QueryLong, QueryMalformed, InputLong, InputMalformed, JoinedLong, JoinedMalformed, TotalLarge, TreeLarge, GroupLong, ResultLong}
use Rattle.spec_run.specs.Refusal.{number_of, keeps_result, keeps_work}
use Rattle.spec_run.specs.Run.{Call, call, Outcome, Verdict, gives, refused, reading, asking, refusal_at, final, verdict_of, verdict, zeros, work_after, number_in, length_in, result_after, positions_after, outcome_of, plain_run, plain_positions, result_bytes}

-- ---- the tests passed: what the lent pieces hold
pub record Reads (c : Call) (ss : List Stage) (ts us : List Tree) : Type 0 where
  pub enough : work_min ≤ length c.work
  pub entries : positions_min ≤ length c.positions
  pub query : read_query c.query ≡ accepted ss
  pub input : read_array c.input ≡ accepted ts
  pub joined : read_array c.joined ≡ accepted us

-- the plain run goes on to the stages
pub reads_verdict : (c : Call) (ss : List Stage) (ts us : List Tree) → Reads c ss ts us
    → verdict c ≡ final (length c.result) (result_positions us ss ts) (stages us ss (going ts))
unfolding verdict verdict_of reading
reads_verdict c ss ts us r = rw (leb_yes work_min (length c.work) r.enough, leb_yes positions_min (length c.positions) r.entries, r.query, r.input, r.joined) refl

-- ---- an accepted run: what it has read, and the list that it gives
pub record Gives (c : Call) (ss : List Stage) (ts us fs : List Tree) : Type 0 where
  pub reads : Reads c ss ts us
  pub ran : stages us ss (going ts) ≡ going fs
  pub small : array_size fs ≤ array_max
  pub fits : array_size fs ≤ length c.result

pub gives_verdict : (c : Call) (ss : List Stage) (ts us fs : List Tree) → Gives c ss ts us fs → verdict c ≡ gives (array_bytes fs) (result_positions us ss ts)
unfolding final
gives_verdict c ss ts us fs g =
    reads_verdict c ss ts us g.reads
    ∙ rw (g.ran, leb_yes (array_size fs) array_max g.small, leb_yes (array_size fs) (length c.result) g.fits) refl

-- and a run that comes to bytes is such a run
pub reading_out : {A : Type 0} (x : Tested A) (r s : Refusal) (f : A → Verdict) (b ps : List ℕ) → reading x r s f ≡ gives b ps → (a : A) × (x ≡ accepted a) × (f a ≡ gives b ps)
unfolding reading
reading_out (accepted a) r s f b ps e = (a, refl, e)
reading_out overlong r s f b ps e = let z : ◌≡◌ {A = ℕ} 0 1 = cc in absurd (omega arith)
reading_out malformed r s f b ps e = let z : ◌≡◌ {A = ℕ} 0 1 = cc in absurd (omega arith)

pub cond_out : (c : Bool) (x : Verdict) (r : Refusal) (b ps : List ℕ) → cond c x (refused r) ≡ gives b ps → T c × (x ≡ gives b ps)
cond_out true x r b ps e = (tt, e)
cond_out false x r b ps e = let z : ◌≡◌ {A = ℕ} 0 1 = cc in absurd (omega arith)

pub final_out : (room : ℕ) (rs : List ℕ) (x : State) (b ps : List ℕ) → final room rs x ≡ gives b ps
    → (fs : List Tree) × (x ≡ going fs) × (array_size fs ≤ array_max) × (array_size fs ≤ room)
unfolding final
final_out room rs large b ps e = let z : ◌≡◌ {A = ℕ} 0 1 = cc in absurd (omega arith)
final_out room rs (halted h) b ps e = let z : ◌≡◌ {A = ℕ} 0 1 = cc in absurd (omega arith)
final_out room rs (going ts) b ps e =
    let c = cond_out (leb (array_size ts) array_max && leb (array_size ts) room) (gives (array_bytes ts) rs) ResultLong b ps e in
    let p = T_and (leb (array_size ts) array_max) (leb (array_size ts) room) c.0 in
    (ts, refl, leb→le (array_size ts) array_max p.0, leb→le (array_size ts) room p.1)

verdict_out : (c : Call) (b ps : List ℕ) → verdict c ≡ gives b ps
    → (ss : List Stage) × (ts : List Tree) × (us : List Tree) × (fs : List Tree) × Gives c ss ts us fs
unfolding verdict verdict_of
verdict_out c b ps e =
    let (w, e0) = cond_out (leb work_min (length c.work)) _ WorkShort b ps e in
    let (p, e1) = cond_out (leb positions_min (length c.positions)) _ PositionsShort b ps e0 in
    let (ss, a, e2) = reading_out (read_query c.query) QueryLong QueryMalformed _ b ps e1 in
    let (ts, d, e3) = reading_out (read_array c.input) InputLong InputMalformed _ b ps e2 in
    let (us, f, e4) = reading_out (read_array c.joined) JoinedLong JoinedMalformed _ b ps e3 in
    let (fs, g, s, m) = final_out (length c.result) (result_positions us ss ts) (stages us ss (going ts)) b ps e4 in (
      ss,
      ts,
      us,
      fs,
      record {
        reads = record {
          enough = leb→le work_min (length c.work) w;
          entries = leb→le positions_min (length c.positions) p;
          query = a;
          input = d;
          joined = f;
        };
        ran = g;
        small = s;
        fits = m;
      },
    )

-- ---- outcomes
-- a refusal's number is 1 to 13, and 13 that of a message alone
pub refusal_most : (r : Refusal) → (0 < number_of r) × (number_of r ≤ 13)
refusal_most WorkShort = (omega arith, omega arith)
refusal_most PositionsShort = (omega arith, omega arith)
refusal_most MessageMalformed = (omega arith, omega arith)
refusal_most QueryLong = (omega arith, omega arith)
refusal_most QueryMalformed = (omega arith, omega arith)
refusal_most InputLong = (omega arith, omega arith)
refusal_most InputMalformed = (omega arith, omega arith)
refusal_most JoinedLong = (omega arith, omega arith)
refusal_most JoinedMalformed = (omega arith, omega arith)
refusal_most TotalLarge = (omega arith, omega arith)
refusal_most TreeLarge = (omega arith, omega arith)
refusal_most GroupLong = (omega arith, omega arith)
refusal_most ResultLong = (omega arith, omega arith)

pub refusal_number : (r : Refusal) → (number_of r ≡ 13 → ⊥) → (0 < number_of r) × (number_of r ≤ 12)
refusal_number r o = let m = refusal_most r in (m.0, omega (arith, m.1, o))

-- number 0 is acceptance
pub accepts_gives : (x : Verdict) → number_in x ≡ 0 → (b : List ℕ) × (ps : List ℕ) × (x ≡ gives b ps)
unfolding number_in
accepts_gives (gives b ps) e = (b, ps, refl)
accepts_gives (refused r) e = absurd (omega (arith, (refusal_most r).0))

pub accepted_out : (c : Call) → (plain_run c).number ≡ 0
    → (ss : List Stage) × (ts : List Tree) × (us : List Tree) × (fs : List Tree) × Gives c ss ts us fs
unfolding plain_run outcome_of
accepted_out c e = let (b, ps, g) = accepts_gives (verdict c) e in verdict_out c b ps g

pub accepted_is : (c : Call) (ss : List Stage) (ts us fs : List Tree) → Gives c ss ts us fs
    → plain_run c ≡ outcome_of c.result c.work (gives (array_bytes fs) (result_positions us ss ts))
unfolding plain_run
accepted_is c ss ts us fs g = ap (outcome_of c.result c.work) (gives_verdict c ss ts us fs g)

pub result_is : (area work b ps : List ℕ) → result_bytes (outcome_of area work (gives b ps)) ≡ b
unfolding outcome_of length_in result_after
result_is area work b ps = take-append_seam b (drop (length b) area)

-- the outcome but for the position area does not hang on the positions
pub outcome_same : (area work : List ℕ) (room : ℕ) (ps rs : List ℕ) (x : State) → outcome_of area work (final room ps x) ≡ outcome_of area work (final room rs x)
unfolding outcome_of number_in length_in result_after work_after final
outcome_same area work room ps rs large = refl
outcome_same area work room ps rs (halted h) = refl
outcome_same area work room ps rs (going ts) = go (leb (array_size ts) array_max && leb (array_size ts) room)
  where
    go : (b : Bool) → outcome_of area work (cond b (gives (array_bytes ts) ps) (refused ResultLong)) ≡ outcome_of area work (cond b (gives (array_bytes ts) rs) (refused ResultLong))
    go true = refl
    go false = refl

-- what an accepted run gives is an array within the limits
pub accepted_within : (c : Call) (ss : List Stage) (ts us fs : List Tree) → AllBytes c.query → AllBytes c.input → AllBytes c.joined
    → Gives c ss ts us fs → Within fs
accepted_within c ss ts us fs bq bi bj g =
    let o = (query_only c.query ss bq ((read_query_lem c.query ss).0 g.reads.query)).1 in
    let w = (array_only c.input ts bi ((read_array_lem c.input ts).0 g.reads.input)).1 in
    let k = (array_only c.joined us bj ((read_array_lem c.joined us).0 g.reads.joined)).1 in
    record { allowed = stages_allowed us ss ts fs k.allowed o.stages w.allowed g.ran; small = g.small }

-- ---- a property of whatever a row of tests comes to
pub reading_holds : {A : Type 0} (P : Verdict → Type 0) (x : Tested A) (r s : Refusal) (f : A → Verdict) → P (refused r) → P (refused s) → ((a : A) → x ≡ accepted a → P (f a))
    → P (reading x r s f)
unfolding reading
reading_holds P (accepted a) r s f n m k = k a refl
reading_holds P overlong r s f n m k = n
reading_holds P malformed r s f n m k = m

pub asking_holds : {A : Type 0} (P : Verdict → Type 0) (x : Option A) (r : Refusal) (f : A → Verdict) → P (refused r) → ((a : A) → x ≡ some a → P (f a)) → P (asking x r f)
unfolding asking
asking_holds P none r f n k = n
asking_holds P (some a) r f n k = k a refl

pub cond_holds : (P : Verdict → Type 0) (c : Bool) (x : Verdict) (r : Refusal) → P x → P (refused r) → P (cond c x (refused r))
cond_holds P true x r n m = n
cond_holds P false x r n m = m

-- ---- the numbers and lengths of outcomes
-- 13 is the number of a message alone: no run and no regrouping comes to it
abbrev pub NotThirteen : Verdict → Type 0
NotThirteen x = number_in x ≡ 13 → ⊥

pub refused_other : (r : Refusal) → (number_of r ≡ 13 → ⊥) → NotThirteen (refused r)
unfolding number_in
refused_other r n e = n e

gives_other : (b ps : List ℕ) → NotThirteen (gives b ps)
unfolding number_in
gives_other b ps e = omega arith

pub final_other : (room : ℕ) (rs : List ℕ) (x : State) → NotThirteen (final room rs x)
unfolding final refusal_at
final_other room rs large = refused_other TreeLarge (λ z. omega arith)
final_other room rs (halted too_long) = refused_other GroupLong (λ z. omega arith)
final_other room rs (halted overflow) = refused_other TotalLarge (λ z. omega arith)
final_other room rs (going ts) =
    cond_holds NotThirteen (leb (array_size ts) array_max && leb (array_size ts) room) (gives (array_bytes ts) rs) ResultLong (gives_other (array_bytes ts) rs)
    (refused_other ResultLong (λ z. omega arith))

verdict_other : (c : Call) → NotThirteen (verdict c)
unfolding verdict verdict_of
verdict_other c =
    cond_holds NotThirteen (leb work_min (length c.work)) _ WorkShort
    (cond_holds NotThirteen (leb positions_min (length c.positions)) _ PositionsShort
    (reading_holds NotThirteen (read_query c.query) QueryLong QueryMalformed _ (refused_other QueryLong (λ z. omega arith)) (refused_other QueryMalformed (λ z. omega arith)) λ ss e.
    reading_holds NotThirteen (read_array c.input) InputLong InputMalformed _ (refused_other InputLong (λ z. omega arith)) (refused_other InputMalformed (λ z. omega arith)) λ ts a.
    reading_holds NotThirteen (read_array c.joined) JoinedLong JoinedMalformed _ (refused_other JoinedLong (λ z. omega arith)) (refused_other JoinedMalformed (λ z. omega arith)) λ us b.
    final_other (length c.result) (result_positions us ss ts) (stages us ss (going ts)))
    (refused_other PositionsShort (λ z. omega arith)))
    (refused_other WorkShort (λ z. omega arith))

pub verdict_most : (x : Verdict) → number_in x ≤ 13
unfolding number_in
verdict_most (gives b ps) = omega arith
verdict_most (refused r) = (refusal_most r).1

verdict_number : (x : Verdict) → NotThirteen x → number_in x ≤ 12
verdict_number x n = omega (arith, verdict_most x, n)

-- a number is at most 12; a result's length is that of an array within the limits, and no more than the result area's,
-- before the call and after it
pub record Short (lent : List ℕ) (o : Outcome) : Type 0 where
  pub number : o.number ≤ 12
  pub array : o.length ≤ array_max
  pub area : o.length ≤ length lent
  pub left : o.length ≤ length o.result

-- the same of lengths alone
pub record Fitting (lent : List ℕ) (o : Outcome) : Type 0 where
  pub array : o.length ≤ array_max
  pub area : o.length ≤ length lent
  pub left : o.length ≤ length o.result

-- where what the verdict gives is an array that is small and fits the area
pub outcome_fitting : (area work : List ℕ) (x : Verdict) → ((b ps : List ℕ) → x ≡ gives b ps → (length b ≤ array_max) × (length b ≤ length area))
    → Fitting area (outcome_of area work x)
unfolding outcome_of length_in result_after
outcome_fitting area work (gives b ps) h =
    let s = h b ps refl in
    record { array = s.0; area = s.1; left = omega (arith, length-append b (drop (length b) area)) }
outcome_fitting area work (refused r) h = record { array = omega arith; area = omega arith; left = omega arith }

pub outcome_short : (area work : List ℕ) (x : Verdict) → NotThirteen x → ((b ps : List ℕ) → x ≡ gives b ps → (length b ≤ array_max) × (length b ≤ length area))
    → Short area (outcome_of area work x)
unfolding outcome_of
outcome_short area work x n h =
    let f = outcome_fitting area work x h in
    record { number = verdict_number x n; array = f.array; area = f.area; left = f.left }

-- such are the bytes that an array of this size has
pub bytes_short : (fs : List Tree) (x : Verdict) (rs b ps : List ℕ) (room : ℕ) → x ≡ gives (array_bytes fs) rs → x ≡ gives b ps → array_size fs ≤ array_max → array_size fs ≤ room
    → (length b ≤ array_max) × (length b ≤ room)
bytes_short fs x rs b ps room e f s m =
    let z : gives (array_bytes fs) rs ≡ gives b ps = sym e ∙ f in
    let y : array_bytes fs ≡ b = cc in
    let l : length b ≡ array_size fs = sym (ap length y) ∙ length_array fs in
    (omega (arith, l, s), omega (arith, l, m))

pub run_short : (c : Call) → Short c.result (plain_run c)
unfolding plain_run
run_short c = outcome_short c.result c.work (verdict c) (verdict_other c) (λ b ps e.
    let (ss, ts, us, fs, g) = verdict_out c b ps e in
    bytes_short fs (verdict c) (result_positions us ss ts) b ps (length c.result) (gives_verdict c ss ts us fs g) e g.small g.fits)

-- ---- the areas are as long as they were
zeros_length : (area : List ℕ) → length (zeros area) ≡ length area
unfolding zeros
zeros_length area = length-replicate {A = ℕ} (length area) 0

-- after a refusal
kept_length : (keeps : Bool) (area : List ℕ) → length (cond keeps area (zeros area)) ≡ length area
kept_length true area = refl
kept_length false area = zeros_length area

-- where the first n entries are new
front_length : (xs area : List ℕ) → length xs ≤ length area → length (xs ++ drop (length xs) area) ≡ length area
front_length xs area l = length-append xs (drop (length xs) area) ∙ omega (arith, l, length-drop (length xs) area)

pub result_length : (c : Call) → length (plain_run c).result ≡ length c.result
unfolding plain_run outcome_of length_in result_after
result_length c = go (verdict c) (run_short c).area
  where
    go : (x : Verdict) → length_in x ≤ length c.result → length (result_after c.result x) ≡ length c.result
    go (gives b ps) l = front_length b c.result l
    go (refused r) l = kept_length (keeps_result r) c.result

-- so an array within the limits has no more trees than the least position area has entries
pub trees_few : (ts : List Tree) → array_size ts ≤ array_max → length ts ≤ positions_min
unfolding array_size
trees_few ts h = omega (arith, six_each ts)

-- ---- the position area of an accepted run: one entry for each result tree; later entries are as they were
pub accepted_positions : (c : Call) (ss : List Stage) (ts us fs : List Tree) → Gives c ss ts us fs
    → (plain_positions c ≡ result_positions us ss ts ++ drop (length fs) c.positions) × (length (result_positions us ss ts) ≡ length fs)
unfolding plain_positions positions_after
accepted_positions c ss ts us fs g =
    let n = result_count us ss ts g.ran in (
      ap (positions_after c.positions) (gives_verdict c ss ts us fs g) ∙ ap (λ k. result_positions us ss ts ++ drop k c.positions) n,
      n,
    )

pub positions_length : (c : Call) → length (plain_positions c) ≡ length c.positions
unfolding plain_positions positions_after
positions_length c = go (verdict c) refl
  where
    go : (x : Verdict) → verdict c ≡ x → length (positions_after c.positions x) ≡ length c.positions
    go (gives b ps) e =
        let (ss, ts, us, fs, g) = verdict_out c b ps e in
        let z : gives (array_bytes fs) (result_positions us ss ts) ≡ gives b ps = sym (gives_verdict c ss ts us fs g) ∙ e in
        let y : result_positions us ss ts ≡ ps = cc in
        let n = sym (ap length y) ∙ result_count us ss ts g.ran in
        front_length ps c.positions (omega (arith, n, trees_few fs g.small, g.reads.entries))
    go (refused r) e = kept_length (keeps_result r) c.positions

-- ---- the refusals that change no area: 1, and 11 behind it
pub record Unchanged (c : Call) (number : ℕ) : Type 0 where
  pub number_is : (plain_run c).number ≡ number
  pub length_is : (plain_run c).length ≡ 0
  pub result_is : (plain_run c).result ≡ c.result
  pub work_is : (plain_run c).work ≡ c.work
  pub positions_is : plain_positions c ≡ c.positions

unchanged : (c : Call) (r : Refusal) → verdict c ≡ refused r → keeps_result r ≡ true → keeps_work r ≡ true → Unchanged c (number_of r)
unfolding plain_run outcome_of plain_positions number_in length_in result_after work_after positions_after
unchanged c r e k w =
    let left : List ℕ → List ℕ → Bool → List ℕ = λ x y b. cond b x y in
    record {
      number_is = ap number_in e;
      length_is = ap length_in e;
      result_is = ap (result_after c.result) e ∙ ap (left c.result (zeros c.result)) k;
      work_is = ap (work_after c.work) e ∙ ap (left c.work (zeros c.work)) w;
      positions_is = ap (positions_after c.positions) e ∙ ap (left c.positions (zeros c.positions)) k;
    }

-- a work area under 65,536 bytes
pub work_one : (c : Call) → length c.work < work_min → Unchanged c 1
unfolding verdict verdict_of keeps_result keeps_work
work_one c l = unchanged c WorkShort (rw (leb_no work_min (length c.work) l) refl) refl refl

-- a work area that is long enough, and a position area under 2,730 entries
pub positions_eleven : (c : Call) → work_min ≤ length c.work → length c.positions < positions_min → Unchanged c 11
unfolding verdict verdict_of keeps_result keeps_work
positions_eleven c h l =
    unchanged c PositionsShort (rw (leb_yes work_min (length c.work) h, leb_no positions_min (length c.positions) l) refl) refl refl

-- ---- the work area is zero after every admitted call, in the documents' term: one that neither 1 nor 11 refuses
pub work_zero : (c : Call) → ((plain_run c).number ≡ 1 → ⊥) → ((plain_run c).number ≡ 11 → ⊥) → (plain_run c).work ≡ zeros c.work
unfolding plain_run outcome_of work_after number_in keeps_work
work_zero c n m = go (verdict c) n m
  where
    go : (x : Verdict) → (number_in x ≡ 1 → ⊥) → (number_in x ≡ 11 → ⊥) → work_after c.work x ≡ zeros c.work
    go (gives b ps) n m = refl
    go (refused WorkShort) n m = absurd (n refl)
    go (refused PositionsShort) n m = absurd (m refl)
    go (refused MessageMalformed) n m = refl
    go (refused QueryLong) n m = refl
    go (refused QueryMalformed) n m = refl
    go (refused InputLong) n m = refl
    go (refused InputMalformed) n m = refl
    go (refused JoinedLong) n m = refl
    go (refused JoinedMalformed) n m = refl
    go (refused TotalLarge) n m = refl
    go (refused TreeLarge) n m = refl
    go (refused GroupLong) n m = refl
    go (refused ResultLong) n m = refl

-- of the work and the position area only their lengths count
pub work_length : (c : Call) (w p : List ℕ) → length w ≡ length c.work → length p ≡ length c.positions
    → verdict (call c.query c.input c.joined w c.result p) ≡ verdict c
unfolding verdict
work_length c w p l m = rw (l, m) refl
