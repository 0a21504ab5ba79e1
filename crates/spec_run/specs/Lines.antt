-- What a caller prints: beside each result tree of an accepted run the position of the input tree that it stems from.
use Rattle.std.specs.Prelude.{◌≡◌, List, ℕ, take}
use Rattle.std.proofs.Math.Option.{some}
use Rattle.spec_trees.specs.Tree.{Tree}
use Rattle.spec_trees.specs.Decode.{decode_array}
use Rattle.spec_stages.specs.Positions.{Borne, lines}
use Rattle.spec_run.specs.Run.{call}
use Rattle.spec_run.specs.Answer.{Answered}
use Rattle.spec_run.specs.Day.{IsArray}

-- A run of the query q with the joined array j, answered by 0: its input was ts, and its lines are ls, each a tree that
-- its result bytes are read as and the entry that stands for this tree in the position area after the call
pub record RanLines (q j : List ℕ) (ts : List Tree) (ls : List Borne) : Type 0 where
  pub input : List ℕ
  pub work : List ℕ
  pub area : List ℕ
  pub positions : List ℕ
  pub length : ℕ
  pub left : List ℕ
  pub cleared : List ℕ
  pub entries : List ℕ
  pub answered : Answered (call q input j work area positions) 0 length left cleared entries
  pub input_is : IsArray input ts
  pub result : List Tree
  pub result_is : decode_array (take length left) ≡ some result
  pub lines_are : ls ≡ lines entries result
