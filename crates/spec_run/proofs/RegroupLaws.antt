-- The regrouping call: what its tests have read, what an accepted one gives, and that it answers as the regrouping run
-- over the join.
use Rattle.std.specs.Prelude.{◌≡◌, refl, ℕ, ◌≤◌, ◌<◌, leb}
use Rattle.std.proofs.Common.{sym, ◌∙◌, arith, leb→le}
use Rattle.std.proofs.Math.Path.{ap, subst}
use mathlib.Core.List.{List, [], ◌∷◌, ◌++◌}
use Rattle.std.proofs.Math.Option.{Option, none, some}
use Rattle.std.proofs.Math.ListN.{length}
use Rattle.spec_trees.specs.Limits.{array_max, work_min, positions_min}
use Rattle.spec_trees.specs.ListLaws.{All-append}
use Rattle.spec_trees.specs.Lists.{All}
use Rattle.spec_trees.specs.Tree.{Tree}
use Rattle.spec_trees.specs.Size.{array_size}
use Rattle.spec_trees.specs.Bytes.{array_bytes}
use Rattle.spec_trees.specs.Readers.{accepted}
use Rattle.spec_trees.specs.Decode.{read_array}
use Rattle.spec_trees.specs.Within.{AllBytes, Within}
use Rattle.spec_trees.specs.OptionLaws.{leb_yes}
use Rattle.spec_trees.proofs.ArrayLaws.{array_only, array_back, read_array_lem}
use Rattle.spec_queries.specs.Query.{Pair, Stage, group}
use Rattle.spec_queries.specs.Bytes.{query_bytes}
use Rattle.spec_queries.specs.Decode.{read_query}
use Rattle.spec_queries.specs.Rules.{OkS, OkQ}
use Rattle.spec_queries.specs.Again.{regrouped, regrouping}
use Rattle.spec_queries.specs.AgainLaws.{regrouping_group, regrouping_alone, regroups_parts}
use Rattle.spec_queries.specs.RegroupingLaws.{regrouping_ok}
use Rattle.spec_queries.specs.QueryLaws.{query_only, query_back, read_query_lem}
use Rattle.spec_stages.specs.Stages.{too_long, going, halted, entering, performed, step, stages}
use Rattle.spec_stages.specs.Positions.{result_positions}
use Rattle.spec_stages.proofs.LeaveLaws.{group_long}
use Rattle.spec_stages.proofs.KeepLaws.{stages_allowed}
use Rattle.spec_run.specs.declared.answer.Refusal.{Refusal}
use Rattle.spec_run.specs.declared.answer.Refusal.TheVariants.{WorkShort, QueryLong, QueryMalformed, InputLong, InputMalformed, GroupLong}
use Rattle.spec_run.specs.Run.{call, Verdict, gives, refused, reading, asking, refusal_at, final, outcome_of, plain_run}
use Rattle.spec_run.specs.Regroup.{RegroupCall, regroup_verdict_of, regroup_verdict, plain_regroup}
use Rattle.spec_run.proofs.RunLaws.{reads_verdict, reading_out, cond_out, final_out, accepts_gives, outcome_same, reading_holds, asking_holds, cond_holds, NotThirteen, refused_other, final_other, Short, outcome_short, bytes_short}

-- ---- the tests passed: the query is one group alone, s is its regrouping, and the arrays hold these trees
pub record RegroupReads (c : RegroupCall) (ss : List Stage) (s : Stage) (ts us : List Tree) : Type 0 where
  pub enough : work_min ≤ length c.work
  pub query : read_query c.query ≡ accepted ss
  pub such : regrouping ss ≡ some s
  pub first : read_array c.first ≡ accepted ts
  pub second : read_array c.second ≡ accepted us

pub reads_regroup : (c : RegroupCall) (ss : List Stage) (s : Stage) (ts us : List Tree) → RegroupReads c ss s ts us
    → regroup_verdict c ≡ final (length c.result) [] (stages [] (s ∷ []) (going (ts ++ us)))
unfolding regroup_verdict regroup_verdict_of reading asking
reads_regroup c ss s ts us r = rw (leb_yes work_min (length c.work) r.enough, r.query, r.such, r.first, r.second) refl

-- ---- an accepted call: what it has read, and the list that it gives
pub record RegroupGives (c : RegroupCall) (ss : List Stage) (s : Stage) (ts us fs : List Tree) : Type 0 where
  pub reads : RegroupReads c ss s ts us
  pub ran : stages [] (s ∷ []) (going (ts ++ us)) ≡ going fs
  pub small : array_size fs ≤ array_max
  pub fits : array_size fs ≤ length c.result

pub gives_regroup : (c : RegroupCall) (ss : List Stage) (s : Stage) (ts us fs : List Tree) → RegroupGives c ss s ts us fs → regroup_verdict c ≡ gives (array_bytes fs) []
unfolding final
gives_regroup c ss s ts us fs g =
    reads_regroup c ss s ts us g.reads
    ∙ rw (g.ran, leb_yes (array_size fs) array_max g.small, leb_yes (array_size fs) (length c.result) g.fits) refl

-- what an accepted call has read and gave
abbrev pub RegroupTold : RegroupCall → Type 0
RegroupTold c = (ss : List Stage) × (s : Stage) × (ts : List Tree) × (us : List Tree) × (fs : List Tree) × RegroupGives c ss s ts us fs

asking_out : {A : Type 0} (x : Option A) (r : Refusal) (f : A → Verdict) (b ps : List ℕ) → asking x r f ≡ gives b ps → (a : A) × (x ≡ some a) × (f a ≡ gives b ps)
unfolding asking
asking_out none r f b ps e = let z : ◌≡◌ {A = ℕ} 0 1 = cc in absurd (omega arith)
asking_out (some a) r f b ps e = (a, refl, e)

regroup_out : (c : RegroupCall) (b ps : List ℕ) → regroup_verdict c ≡ gives b ps → RegroupTold c
unfolding regroup_verdict regroup_verdict_of
regroup_out c b ps e =
    let (w, e0) = cond_out (leb work_min (length c.work)) _ WorkShort b ps e in
    let (ss, a, e1) = reading_out (read_query c.query) QueryLong QueryMalformed _ b ps e0 in
    let (s, k, e2) = asking_out (regrouping ss) QueryMalformed _ b ps e1 in
    let (ts, d, e3) = reading_out (read_array c.first) InputLong InputMalformed _ b ps e2 in
    let (us, f, e4) = reading_out (read_array c.second) InputLong InputMalformed _ b ps e3 in
    let (fs, g, n, m) = final_out (length c.result) [] (stages [] (s ∷ []) (going (ts ++ us))) b ps e4 in (
      ss,
      s,
      ts,
      us,
      fs,
      record { reads = record { enough = leb→le work_min (length c.work) w; query = a; such = k; first = d; second = f }; ran = g; small = n; fits = m },
    )

pub accepted_regroup : (c : RegroupCall) → (plain_regroup c).number ≡ 0 → RegroupTold c
unfolding plain_regroup outcome_of
accepted_regroup c e = let (b, ps, g) = accepts_gives (regroup_verdict c) e in regroup_out c b ps g

pub regroup_is : (c : RegroupCall) (ss : List Stage) (s : Stage) (ts us fs : List Tree) → RegroupGives c ss s ts us fs
    → plain_regroup c ≡ outcome_of c.result c.work (gives (array_bytes fs) [])
unfolding plain_regroup
regroup_is c ss s ts us fs g = ap (outcome_of c.result c.work) (gives_regroup c ss s ts us fs g)

regroup_other : (c : RegroupCall) → NotThirteen (regroup_verdict c)
unfolding regroup_verdict regroup_verdict_of
regroup_other c =
    cond_holds NotThirteen (leb work_min (length c.work)) _ WorkShort
    (reading_holds NotThirteen (read_query c.query) QueryLong QueryMalformed _ (refused_other QueryLong (λ z. omega arith)) (refused_other QueryMalformed (λ z. omega arith)) λ ss e.
    asking_holds NotThirteen (regrouping ss) QueryMalformed _ (refused_other QueryMalformed (λ z. omega arith)) λ s k.
    reading_holds NotThirteen (read_array c.first) InputLong InputMalformed _ (refused_other InputLong (λ z. omega arith)) (refused_other InputMalformed (λ z. omega arith)) λ ts a.
    reading_holds NotThirteen (read_array c.second) InputLong InputMalformed _ (refused_other InputLong (λ z. omega arith)) (refused_other InputMalformed (λ z. omega arith)) λ us b.
    final_other (length c.result) [] (stages [] (s ∷ []) (going (ts ++ us))))
    (refused_other WorkShort (λ z. omega arith))

pub regroup_short : (c : RegroupCall) → Short c.result (plain_regroup c)
unfolding plain_regroup
regroup_short c = outcome_short c.result c.work (regroup_verdict c) (regroup_other c) (λ b ps e.
    let (ss, s, ts, us, fs, g) = regroup_out c b ps e in
    bytes_short fs (regroup_verdict c) [] b ps (length c.result) (gives_regroup c ss s ts us fs g) e g.small g.fits)

-- ---- what such a group is, and its regrouping
pub record IsGroup (ss : List Stage) (s : Stage) : Type 0 where
  pub aggregates : List Pair
  pub grouping : List Pair
  pub whole : ss ≡ group aggregates grouping ∷ []
  pub again_is : s ≡ regrouped aggregates grouping
  pub allowed : OkQ (s ∷ [])

pub such_group : (ss : List Stage) (s : Stage) → OkQ ss → regrouping ss ≡ some s → IsGroup ss s
such_group ss s o e =
    let (ag, gs, z) = regrouping_alone ss s e in
    let r = regrouping_group ag gs s (sym (ap regrouping z) ∙ e) in
    let k = (subst (All OkS) z o.stages).0 in
    record {
      aggregates = ag;
      grouping = gs;
      whole = z;
      again_is = r.1;
      allowed = subst (λ x. OkQ (x ∷ [])) (sym r.1) (regrouping_ok ag gs (regroups_parts ag gs r.0).1 k.0 k.1);
    }

-- a group does not look at the joined array
group_any : (ag gs : List Pair) (us ws ts : List Tree) → stages us (group ag gs ∷ []) (going ts) ≡ stages ws (group ag gs ∷ []) (going ts)
unfolding stages step entering performed
group_any ag gs us ws ts = refl

-- ---- the call, by what it has read
module _ (c : RegroupCall) (ss : List Stage) (s : Stage) (ts us : List Tree)
    (bq : AllBytes c.query) (ba : AllBytes c.first) (bb : AllBytes c.second) (r : RegroupReads c ss s ts us) where
  query_such : IsGroup ss s
  query_such = such_group ss s (query_only c.query ss bq ((read_query_lem c.query ss).0 r.query)).1 r.such

  first_within : Within ts
  first_within = (array_only c.first ts ba ((read_array_lem c.first ts).0 r.first)).1

  second_within : Within us
  second_within = (array_only c.second us bb ((read_array_lem c.second us).0 r.second)).1

  -- where the join is an array within the limits, the call answers as the run of the regrouping over the join, whatever
  -- joined array that run is lent, and whatever position area that is long enough: number, length, result and work area
  pub regroup_answers : array_size (ts ++ us) ≤ array_max → (ws : List Tree) → Within ws → (positions : List ℕ) → positions_min ≤ length positions
      → plain_regroup c ≡ plain_run (call (query_bytes (s ∷ [])) (array_bytes (ts ++ us)) (array_bytes ws) c.work c.result positions)
  unfolding plain_regroup plain_run
  regroup_answers small ws o positions entries =
      let d = call (query_bytes (s ∷ [])) (array_bytes (ts ++ us)) (array_bytes ws) c.work c.result positions in
      let area = length c.result in
      let ps = result_positions ws (s ∷ []) (ts ++ us) in
      let join : Within (ts ++ us) = record { allowed = All-append _ ts us first_within.allowed second_within.allowed; small = small } in
      let v = reads_verdict d (s ∷ []) (ts ++ us) ws record {
        enough = r.enough;
        entries = entries;
        query = (read_query_lem (query_bytes (s ∷ [])) (s ∷ [])).1 (query_back (s ∷ []) query_such.allowed);
        input = (read_array_lem (array_bytes (ts ++ us)) (ts ++ us)).1 (array_back (ts ++ us) join);
        joined = (read_array_lem (array_bytes ws) ws).1 (array_back ws o);
      } in
      let same : stages [] (s ∷ []) (going (ts ++ us)) ≡ stages ws (s ∷ []) (going (ts ++ us)) =
      subst (λ x. stages [] (x ∷ []) (going (ts ++ us)) ≡ stages ws (x ∷ []) (going (ts ++ us))) (sym query_such.again_is) (group_any _ _ [] ws (ts ++ us)) in
      ap (outcome_of c.result c.work) (reads_regroup c ss s ts us r ∙ ap (final area []) same)
      ∙ outcome_same c.result c.work area [] ps (stages ws (s ∷ []) (going (ts ++ us))) ∙ ap (outcome_of c.result c.work) (sym v)

  -- where it is not, the call is refused by 9
  pub regroup_long : array_max < array_size (ts ++ us) → regroup_verdict c ≡ refused GroupLong
  unfolding stages final refusal_at
  regroup_long over =
      let z : stages [] (s ∷ []) (going (ts ++ us)) ≡ halted too_long =
      ap (λ x. stages [] (x ∷ []) (going (ts ++ us))) query_such.again_is ∙ group_long [] _ _ (ts ++ us) over in
      reads_regroup c ss s ts us r ∙ ap (final (length c.result) []) z

  -- what an accepted call gives is an array within the limits
  pub regroup_within : (fs : List Tree) → RegroupGives c ss s ts us fs → Within fs
  regroup_within fs g = record {
    allowed = stages_allowed [] (s ∷ []) (ts ++ us) fs tt query_such.allowed.stages (All-append _ ts us first_within.allowed second_within.allowed) g.ran;
    small = g.small;
  }
