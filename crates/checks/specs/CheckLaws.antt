-- Laws of the tests: the code's answer, and what the plain answer comes to by it.
use Rattle.std.specs.Prelude.{◌≡◌, List, Bool, true, false, cond, ℕ, ◌≤◌, ◌<◌, length, leb, Ok, Err, Result, IsErrAnd}
use Rattle.std.proofs.Math.Path.{refl}
use Rattle.std.proofs.lemmas.Result.{err_from_is_err_and}
use Rattle.std.proofs.Common.{ap, sym, subst, ◌∙◌, arith, leb-true}
use Rattle.spec_trees.specs.Limits.{work_min, positions_min}
use Rattle.spec_trees.specs.OptionLaws.{leb_yes, leb_no}
use Rattle.spec_trees.specs.Tree.{Tree}
use Rattle.spec_trees.specs.Readers.{Tested, accepted, overlong, malformed}
use Rattle.spec_trees.specs.Decode.{read_array}
use Rattle.format.specs.Check.{check_of}
use Rattle.spec_queries.specs.Query.{Stage}
use Rattle.spec_queries.specs.Decode.{read_query}
use Rattle.spec_stages.specs.Stages.{going, stages}
use Rattle.spec_stages.specs.Positions.{result_positions}
use Rattle.spec_run.specs.declared.answer.Refusal.{Refusal}
use Rattle.spec_run.specs.declared.answer.Refusal.TheVariants.{WorkShort, PositionsShort, QueryLong, QueryMalformed, InputLong, InputMalformed, JoinedLong, JoinedMalformed}
use Rattle.spec_run.specs.Refusal.{keeps_result}
use Rattle.spec_run.specs.Run.{Call, Verdict, refused, reading, final, verdict_of, verdict, check_number}
use Rattle.spec_run.proofs.RunLaws.{Reads}
use Rattle.checks.specs.Check.{decided, checked_as, next, work_check, entries_check, areas_check, query_check, prepared_check, arrays_check, call_check, Early}

-- what a `?` hands on
pub refusal_on : {A : Type 0} {t : Refusal} (r : Result A Refusal) → IsErrAnd r (λ u. u ≡ t) → r ≡ Err t
refusal_on r h = let p = err_from_is_err_and r h in p.1 ∙ ap Err p.2

-- ---- the code's tests, one after another
pub work_short : (work : ℕ) → work < work_min → Err WorkShort ≡ work_check work
unfolding work_check
work_short work l = rw (leb_no work_min work l) refl

pub work_enough : (work : ℕ) → work_min ≤ work → (Ok tt) ≡ work_check work
unfolding work_check
work_enough work l = rw (leb_yes work_min work l) refl

module _ (work entries : ℕ) {x : Result Unit Refusal} (z : x ≡ work_check work) where
  pub areas_work : {t : Refusal} → x ≡ Err t → x ≡ areas_check work entries
  unfolding areas_check
  areas_work y = rw (sym z, y) refl

  pub areas_short : x ≡ Ok tt → entries < positions_min → Err PositionsShort ≡ areas_check work entries
  unfolding areas_check entries_check
  areas_short y l = rw (sym z, y, leb_no positions_min entries l) refl

  pub areas_enough : x ≡ Ok tt → positions_min ≤ entries → (Ok tt) ≡ areas_check work entries
  unfolding areas_check entries_check
  areas_enough y l = rw (sym z, y, leb_yes positions_min entries l) refl

module _ (q : List ℕ) {x : Result Unit Refusal} where
  pub prepared_areas : {t : Refusal} → x ≡ Err t → x ≡ prepared_check q x
  unfolding prepared_check
  prepared_areas y = rw y refl

  pub prepared_query : x ≡ Ok tt → {a : Result Unit Refusal} → a ≡ decided (check_of (read_query q)) QueryLong QueryMalformed → a ≡ prepared_check q x
  unfolding prepared_check
  prepared_query y z = rw y z

-- the query's test behind those of the areas' lengths, each by what the code's answers
module _ (q : List ℕ) {areas a : Result Unit Refusal} (z : a ≡ areas) where
  pub prepared_first : {t : Refusal} → a ≡ Err t → prepared_check q areas ≡ Err t
  unfolding prepared_check
  prepared_first y = rw (sym z, y) refl

  pub prepared_second : a ≡ Ok tt → {b c : Result Unit Refusal} → b ≡ query_check q → b ≡ c → prepared_check q areas ≡ c
  unfolding prepared_check
  prepared_second y w v = rw (sym z, y) (sym w ∙ v)

module _ (a b : List ℕ) (r s : Refusal) {x : Result Unit Refusal} (z : x ≡ decided (check_of (read_array a)) InputLong InputMalformed) where
  pub arrays_first : {t : Refusal} → x ≡ Err t → x ≡ arrays_check a b r s
  unfolding arrays_check
  arrays_first y = rw (sym z, y) refl

  pub arrays_second : x ≡ Ok tt → {o : Result Unit Refusal} → o ≡ decided (check_of (read_array b)) r s → o ≡ arrays_check a b r s
  unfolding arrays_check
  arrays_second y w = rw (sym z, y) w

module _ (q i j : List ℕ) (work entries : ℕ) {x : Result Unit Refusal} (z : x ≡ prepared_check q (areas_check work entries)) where
  pub call_prepared : {t : Refusal} → x ≡ Err t → x ≡ call_check q i j work entries
  unfolding call_check
  call_prepared y = rw (sym z, y) refl

  pub call_arrays : x ≡ Ok tt → {o : Result Unit Refusal} → o ≡ arrays_check i j JoinedLong JoinedMalformed → o ≡ call_check q i j work entries
  unfolding call_check
  call_arrays y w = rw (sym z, y) w

-- ---- pieces that passed: what they hold
piece_read : {A : Type 0} (x : Tested A) (r s : Refusal) → decided (check_of x) r s ≡ Ok tt → (a : A) × (x ≡ accepted a)
piece_read (accepted a) r s e = (a, refl)
piece_read overlong r s e = let z : ◌≡◌ {A = ℕ} 0 1 = cc in absurd (omega arith)
piece_read malformed r s e = let z : ◌≡◌ {A = ℕ} 0 1 = cc in absurd (omega arith)

next_both : (a b : Result Unit Refusal) → next a b ≡ Ok tt → (a ≡ Ok tt) × (b ≡ Ok tt)
next_both (Ok _) b e = (refl, e)
next_both (Err r) b e = let z : ◌≡◌ {A = ℕ} 0 1 = cc in absurd (omega arith)

-- a length that passed its test
length_read : (least n : ℕ) (r : Refusal) → ◌≡◌ {A = Result Unit Refusal} (cond (leb least n) (Ok tt) (Err r)) (Ok tt) → least ≤ n
length_read least n r e = go (leb least n) refl e
  where
    go : (t : Bool) → leb least n ≡ t → ◌≡◌ {A = Result Unit Refusal} (cond t (Ok tt) (Err r)) (Ok tt) → least ≤ n
    go false l z = let y : ◌≡◌ {A = ℕ} 0 1 = cc in absurd (omega arith)
    go true l z = leb-true least n l

pub work_read : (work : ℕ) → work_check work ≡ Ok tt → work_min ≤ work
unfolding work_check
work_read work e = length_read work_min work WorkShort e

areas_read : (work entries : ℕ) → areas_check work entries ≡ Ok tt → (work_min ≤ work) × (positions_min ≤ entries)
unfolding areas_check entries_check
areas_read work entries e =
    let (zw, ze) = next_both (work_check work) (entries_check entries) e in
    (work_read work zw, length_read positions_min entries PositionsShort ze)

pub prepared_read : (q : List ℕ) (areas : Result Unit Refusal) → prepared_check q areas ≡ Ok tt → (areas ≡ Ok tt) × ((ss : List Stage) × (read_query q ≡ accepted ss))
unfolding prepared_check
prepared_read q areas e =
    let (za, zq) = next_both areas (decided (check_of (read_query q)) QueryLong QueryMalformed) e in
    (za, piece_read (read_query q) QueryLong QueryMalformed zq)

pub arrays_read : (a b : List ℕ) (r s : Refusal) → arrays_check a b r s ≡ Ok tt
    → ((ts : List Tree) × (read_array a ≡ accepted ts)) × ((us : List Tree) × (read_array b ≡ accepted us))
unfolding arrays_check
arrays_read a b r s e =
    let (za, zb) = next_both (decided (check_of (read_array a)) InputLong InputMalformed) (decided (check_of (read_array b)) r s) e in
    (piece_read (read_array a) InputLong InputMalformed za, piece_read (read_array b) r s zb)

-- of the call c
abbrev check_of_call : Call → Result Unit Refusal
check_of_call c = call_check c.query c.input c.joined (length c.work) (length c.positions)

pub passed_reads : (c : Call) → check_of_call c ≡ Ok tt → (ss : List Stage) × (ts : List Tree) × (us : List Tree) × Reads c ss ts us
unfolding call_check
passed_reads c e =
    let areas = areas_check (length c.work) (length c.positions) in
    let (zp, za) = next_both (prepared_check c.query areas) (arrays_check c.input c.joined JoinedLong JoinedMalformed) e in
    let (zl, (ss, es)) = prepared_read c.query areas zp in
    let (l, m) = areas_read (length c.work) (length c.positions) zl in
    let ((ts, et), (us, eu)) = arrays_read c.input c.joined JoinedLong JoinedMalformed za in
    (ss, ts, us, record { enough = l; entries = m; query = es; input = et; joined = eu })

-- ---- pieces that are refused: the plain answer is refused so too, and the result area is left as it was
refused_equal : (r t : Refusal) → ◌≡◌ {A = Result Unit Refusal} (Err r) (Err t) → r ≡ t
refused_equal r t e = cc

early_is : {r t : Refusal} → keeps_result r ≡ true → ◌≡◌ {A = Result Unit Refusal} (Err r) (Err t) → Early (refused r) t
early_is {r} {t} k e = subst (Early (refused r)) (refused_equal r t e) record { refuses = refl; keeps = k }

-- a piece, before the tests behind it
piece_refused : {A : Type 0} (x : Tested A) (r s t : Refusal) (f : A → Verdict) (o : Result Unit Refusal) → keeps_result r ≡ true → keeps_result s ≡ true
    → ((a : A) → x ≡ accepted a → o ≡ Err t → Early (f a) t) → next (decided (check_of x) r s) o ≡ Err t → Early (reading x r s f) t
unfolding reading
piece_refused (accepted a) r s t f o kr ks h e = h a refl e
piece_refused overlong r s t f o kr ks h e = early_is kr e
piece_refused malformed r s t f o kr ks h e = early_is ks e

-- the last one
last_refused : {A : Type 0} (x : Tested A) (r s t : Refusal) (f : A → Verdict) → keeps_result r ≡ true → keeps_result s ≡ true
    → decided (check_of x) r s ≡ Err t → Early (reading x r s f) t
unfolding reading
last_refused (accepted a) r s t f kr ks e = let y : ◌≡◌ {A = ℕ} 0 1 = cc in absurd (omega arith)
last_refused overlong r s t f kr ks e = early_is kr e
last_refused malformed r s t f kr ks e = early_is ks e

-- the two arrays, whatever comes behind them
pub arrays_refused : (a b : List ℕ) (r s t : Refusal) (f : List Tree → List Tree → Verdict) → keeps_result r ≡ true → keeps_result s ≡ true
    → arrays_check a b r s ≡ Err t → Early (reading (read_array a) InputLong InputMalformed λ ts. reading (read_array b) r s (f ts)) t
unfolding arrays_check keeps_result
arrays_refused a b r s t f kr ks e = piece_refused (read_array a) InputLong InputMalformed t _ (decided (check_of (read_array b)) r s) refl refl
    (λ ts y. last_refused (read_array b) r s t (f ts) kr ks) e

-- an area's length, before the tests behind it
length_refused : (b : Bool) (r t : Refusal) (x : Verdict) (o : Result Unit Refusal) → keeps_result r ≡ true → (o ≡ Err t → Early x t)
    → next (cond b (Ok tt) (Err r)) o ≡ Err t → Early (cond b x (refused r)) t
length_refused true r t x o k h e = h e
length_refused false r t x o k h e = early_is k e

pub work_refused : (work : ℕ) (t : Refusal) (x : Verdict) (o : Result Unit Refusal) → (o ≡ Err t → Early x t) → next (work_check work) o ≡ Err t
    → Early (cond (leb work_min work) x (refused WorkShort)) t
unfolding work_check keeps_result
work_refused work t x o = length_refused (leb work_min work) WorkShort t x o refl

entries_refused : (entries : ℕ) (t : Refusal) (x : Verdict) (o : Result Unit Refusal) → (o ≡ Err t → Early x t) → next (entries_check entries) o ≡ Err t
    → Early (cond (leb positions_min entries) x (refused PositionsShort)) t
unfolding entries_check keeps_result
entries_refused entries t x o = length_refused (leb positions_min entries) PositionsShort t x o refl

-- the query, and then a check o of what comes behind it
pub query_refused : (q : List ℕ) (t : Refusal) (f : List Stage → Verdict) (o : Result Unit Refusal)
    → ((ss : List Stage) → read_query q ≡ accepted ss → o ≡ Err t → Early (f ss) t)
    → next (decided (check_of (read_query q)) QueryLong QueryMalformed) o ≡ Err t → Early (reading (read_query q) QueryLong QueryMalformed f) t
unfolding keeps_result
query_refused q t f o = piece_refused (read_query q) QueryLong QueryMalformed t f o refl refl

-- tests in a row, grouped from the front or from the back
next_row : (a b c : Result Unit Refusal) → next (next a b) c ≡ next a (next b c)
next_row (Ok _) b c = refl
next_row (Err r) b c = refl

pub prepared_row : (q : List ℕ) (areas o : Result Unit Refusal) → next (prepared_check q areas) o ≡ next areas (next (decided (check_of (read_query q)) QueryLong QueryMalformed) o)
unfolding prepared_check
prepared_row q areas o = next_row areas (decided (check_of (read_query q)) QueryLong QueryMalformed) o

call_row : (q i j : List ℕ) (work entries : ℕ) → call_check q i j work entries
    ≡ next (work_check work) (next (entries_check entries) (next (decided (check_of (read_query q)) QueryLong QueryMalformed) (arrays_check i j JoinedLong JoinedMalformed)))
unfolding call_check areas_check
call_row q i j work entries =
    prepared_row q (areas_check work entries) (arrays_check i j JoinedLong JoinedMalformed)
    ∙ next_row (work_check work) (entries_check entries) (next (decided (check_of (read_query q)) QueryLong QueryMalformed) (arrays_check i j JoinedLong JoinedMalformed))

pub refused_early : (c : Call) (r : Refusal) → check_of_call c ≡ Err r → Early (verdict c) r
unfolding verdict verdict_of keeps_result
refused_early c r e =
    let arrays = arrays_check c.input c.joined JoinedLong JoinedMalformed in
    let query = next (decided (check_of (read_query c.query)) QueryLong QueryMalformed) arrays in
    work_refused (length c.work) r _ (next (entries_check (length c.positions)) query)
    (entries_refused (length c.positions) r _ query
    (query_refused c.query r _ arrays
    (λ ss y. arrays_refused c.input c.joined JoinedLong JoinedMalformed r (λ ts us. final (length c.result) (result_positions us ss ts) (stages us ss (going ts))) refl refl)))
    (sym (call_row c.query c.input c.joined (length c.work) (length c.positions)) ∙ e)

-- ---- a call that only checks has the table's numbers
pub checked_number : {A : Type 0} (x : Tested A) (r s : Refusal) → checked_as (check_of x) r s ≡ check_number x r s
unfolding check_number
checked_number (accepted a) r s = refl
checked_number overlong r s = refl
checked_number malformed r s = refl
