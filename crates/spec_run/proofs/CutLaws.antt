-- The cut of condition 3 for the plain run: two accepted runs, one after the other, give what the uncut run gives.
use Rattle.std.specs.Prelude.{◌≡◌, refl, List, ◌++◌, ℕ, ◌≤◌, length, take, drop}
use Rattle.std.proofs.Common.{sym, ap, ap₂, subst, ◌∙◌, arith, take-append-drop}
use Rattle.std.proofs.Math.Option.{some}
use Rattle.spec_trees.specs.Tree.{Tree}
use Rattle.spec_trees.specs.Bytes.{array_bytes}
use Rattle.spec_trees.specs.Readers.{Tested, accepted}
use Rattle.spec_trees.specs.Decode.{decode_array, read_array}
use Rattle.spec_trees.specs.Within.{AllBytes, Within}
use Rattle.spec_trees.specs.OptionLaws.{some_equal}
use Rattle.spec_trees.proofs.ArrayLaws.{array_back, read_array_lem}
use Rattle.spec_queries.specs.Query.{Stage}
use Rattle.spec_queries.specs.Bytes.{query_bytes}
use Rattle.spec_queries.specs.Decode.{decode_query, read_query}
use Rattle.spec_queries.specs.QueryLaws.{query_back, read_query_lem}
use Rattle.spec_queries.specs.Rules.{OkQ}
use Rattle.spec_queries.specs.CutLaws.{first_allowed, second_allowed}
use Rattle.spec_stages.specs.Stages.{going}
use Rattle.spec_stages.specs.Positions.{result_positions}
use Rattle.spec_stages.proofs.JoinLaws.{stages_append}
use Rattle.spec_run.specs.Run.{Call, call, gives, Outcome, number_in, length_in, outcome_of, plain_run, result_bytes}
use Rattle.spec_run.specs.Cut.{Cut, SameAnswer}
use Rattle.spec_run.proofs.RunLaws.{Gives, accepted_out, accepted_is, result_is, accepted_within}

-- ---- an admitted query can be cut anywhere
pub cut_at : (ss : List Stage) → OkQ ss → (k : ℕ) → Cut (query_bytes ss) (query_bytes (take k ss)) (query_bytes (drop k ss))
cut_at ss o k =
    let e : ss ≡ take k ss ++ drop k ss = sym (take-append-drop k ss) in
    record { before = take k ss; behind = drop k ss; allowed = subst OkQ e o; whole = ap query_bytes e; first = refl; second = refl }

-- and both parts are admitted
cut_reads : {q q₁ q₂ : List ℕ} (k : Cut q q₁ q₂)
    → (decode_query q ≡ some (k.before ++ k.behind)) × (decode_query q₁ ≡ some k.before) × (decode_query q₂ ≡ some k.behind)
cut_reads k = (
  ap decode_query k.whole ∙ query_back _ k.allowed,
  ap decode_query k.first ∙ query_back _ (first_allowed k.before k.behind k.allowed),
  ap decode_query k.second ∙ query_back _ (second_allowed k.before k.behind k.allowed),
)

-- ---- two readings of the same bytes
accepted_equal : {A : Type 0} (a b : A) → ◌≡◌ {A = Tested A} (accepted a) (accepted b) → a ≡ b
accepted_equal a b e = cc

read_same : {A : Type 0} (x : Tested A) (a b : A) → x ≡ accepted a → x ≡ accepted b → a ≡ b
read_same x a b p q = accepted_equal a b (sym p ∙ q)

-- the same bytes, whatever positions their trees bear
same_answer : (c d : Call) (b ps qs : List ℕ) (o p : Outcome) → o ≡ outcome_of c.result c.work (gives b ps) → p ≡ outcome_of d.result d.work (gives b qs)
    → SameAnswer o p
unfolding outcome_of number_in length_in
same_answer c d b ps qs o p e f =
    rw (e, f) record { number = refl; length = refl; result = result_is c.result c.work b ps ∙ sym (result_is d.result d.work b qs) }

-- q cut into q₁ and q₂; i the input, j the joined array; work, result and position areas: the first run's any, the
-- uncut run's no shorter than the second run's. The second run counts positions anew, so result bytes are compared alone
module _ (q q₁ q₂ i j work work₁ work₂ area area₁ area₂ pos pos₁ pos₂ : List ℕ) where
  abbrev c₁ : Call
  c₁ = call q₁ i j work₁ area₁ pos₁

  -- the first run's result bytes are the second run's input
  abbrev c₂ : Call
  c₂ = call q₂ (result_bytes (plain_run c₁)) j work₂ area₂ pos₂

  abbrev c : Call
  c = call q i j work area pos

  -- the uncut run, from what the two runs read
  gives_cut : (a b : List Stage) (ts us fs gs : List Tree) → length work₂ ≤ length work → length area₂ ≤ length area → length pos₂ ≤ length pos → read_query q ≡ accepted (a ++ b)
      → Gives c₁ a ts us fs → Gives c₂ b fs us gs → Gives c (a ++ b) ts us gs
  gives_cut a b ts us fs gs hw hr hp e A B = record {
    reads = record {
      enough = omega (arith, B.reads.enough);
      entries = omega (arith, B.reads.entries);
      query = e;
      input = A.reads.input;
      joined = A.reads.joined;
    };
    ran = rw (stages_append us a b (going ts), A.ran) B.ran;
    small = B.small;
    fits = omega (arith, B.fits);
  }

  pub cut : AllBytes q₁ → AllBytes i → AllBytes j → Cut q q₁ q₂ → length work₂ ≤ length work → length area₂ ≤ length area → length pos₂ ≤ length pos
      → (plain_run c₁).number ≡ 0 → (plain_run c₂).number ≡ 0 → SameAnswer (plain_run c) (plain_run c₂)
  cut h₁ hi hj k hw hr hp n₁ n₂ = go (accepted_out c₁ n₁) (accepted_out c₂ n₂)
    where
      go : ((ss : List Stage) × (ts : List Tree) × (us : List Tree) × (fs : List Tree) × Gives c₁ ss ts us fs)
          → ((ss : List Stage) × (ts : List Tree) × (us : List Tree) × (fs : List Tree) × Gives c₂ ss ts us fs) → SameAnswer (plain_run c) (plain_run c₂)
      go (a, ts, us, fs, A) (b, ts₂, us₂, gs, B) =
          let w : Within fs = accepted_within c₁ a ts us fs h₁ hi hj A in
          let m : result_bytes (plain_run c₁) ≡ array_bytes fs = ap result_bytes (accepted_is c₁ a ts us fs A) ∙ result_is area₁ work₁ (array_bytes fs) (result_positions us a ts) in
          let ea : k.before ≡ a = some_equal _ _ (sym (cut_reads k).1 ∙ (read_query_lem q₁ a).0 A.reads.query) in
          let eb : k.behind ≡ b = some_equal _ _ (sym (cut_reads k).2 ∙ (read_query_lem q₂ b).0 B.reads.query) in
          let ef : ts₂ ≡ fs = some_equal _ _ (sym ((read_array_lem (result_bytes (plain_run c₁)) ts₂).0 B.reads.input) ∙ ap decode_array m ∙ array_back fs w) in
          let eu : us₂ ≡ us = read_same (read_array j) us₂ us B.reads.joined A.reads.joined in
          let B' : Gives c₂ b fs us gs = rw (ef, eu) at B in
          let d : read_query q ≡ accepted (a ++ b) = (read_query_lem q (a ++ b)).1 ((cut_reads k).0 ∙ ap₂ (λ (x y : List Stage). some (x ++ y)) ea eb) in
          let C = gives_cut a b ts us fs gs hw hr hp d A B' in
          same_answer c c₂ (array_bytes gs) (result_positions us (a ++ b) ts) (result_positions us b fs) (plain_run c) (plain_run c₂) (accepted_is c (a ++ b) ts us gs C) (accepted_is c₂ b fs us gs B')
