-- A day's trays as their caller has them: accepted calls, by the bytes that they were lent and that they left.
use Rattle.std.specs.Prelude.{◌≡◌, List, [], ◌∷◌, ◌++◌, ℕ, take}
use Rattle.std.proofs.Math.Option.{some}
use Rattle.spec_trees.specs.Tree.{Tree}
use Rattle.spec_trees.specs.Decode.{decode_array}
use Rattle.spec_trees.specs.Within.{AllBytes}
use Rattle.spec_queries.specs.Query.{Stage}
use Rattle.spec_queries.specs.Decode.{decode_query}
use Rattle.spec_stages.specs.Trays.{Tray}
use Rattle.spec_run.specs.Run.{call}
use Rattle.spec_run.specs.Regroup.{regroup_call}
use Rattle.spec_run.specs.Answer.{Answered, Regrouped}

-- bytes that are read as this query, and as this array
pub record IsQuery (q : List ℕ) (ss : List Stage) : Type 0 where
  pub bytes : AllBytes q
  pub read : decode_query q ≡ some ss

pub record IsArray (b : List ℕ) (ts : List Tree) : Type 0 where
  pub bytes : AllBytes b
  pub read : decode_array b ≡ some ts

-- a run of the query q with the joined array j, answered by 0: its input was the tray's, and its result bytes are the
-- tray's result
pub record RanTray (q j : List ℕ) (k : Tray) : Type 0 where
  pub input : List ℕ
  pub work : List ℕ
  pub area : List ℕ
  pub positions : List ℕ
  pub length : ℕ
  pub left : List ℕ
  pub cleared : List ℕ
  pub entries : List ℕ
  pub answered : Answered (call q input j work area positions) 0 length left cleared entries
  pub input_is : IsArray input k.input
  pub result_is : decode_array (take length left) ≡ some k.result

-- a regrouping call with the query g, answered by 0: from the arrays ps and qs to rs
pub record RegroupedTwo (g : List ℕ) (ps qs rs : List Tree) : Type 0 where
  pub first : List ℕ
  pub second : List ℕ
  pub work : List ℕ
  pub area : List ℕ
  pub length : ℕ
  pub left : List ℕ
  pub cleared : List ℕ
  pub answered : Regrouped (regroup_call g first second work area) 0 length left cleared
  pub first_is : IsArray first ps
  pub second_is : IsArray second qs
  pub result_is : decode_array (take length left) ≡ some rs

-- the day's list, two by two in any bracketing: the empty list of no tray; the result of a tray's run; or the regrouping
-- of two lists, the trays of the second behind those of the first
pub data Day (q j g : List ℕ) : List Tray → List Tree → Type 0 where
  empty : Day q j g [] []
  one : {k : Tray} → RanTray q j k → Day q j g (k ∷ []) k.result
  both : {js ks : List Tray} {ps qs rs : List Tree} → Day q j g js ps → Day q j g ks qs → RegroupedTwo g ps qs rs → Day q j g (js ++ ks) rs
