-- The documents' table of refusals: its causes, in the order in which they are tested, their numbers, and what each
-- leaves in the areas. The position area is left as the result area is: unchanged by 1 to 7, 11 and 13, zero after 8 to 10 and 12.
-- Read areas never change.
use Rattle.std.specs.Prelude.{Bool, true, false, ℕ}
use Rattle.spec_run.specs.declared.answer.Refusal.{Refusal}
use Rattle.spec_run.specs.declared.answer.Refusal.TheVariants.{WorkShort, PositionsShort, MessageMalformed, QueryLong, QueryMalformed, InputLong, InputMalformed, JoinedLong, JoinedMalformed, TotalLarge, TreeLarge, GroupLong, ResultLong}

abbrev pub number_of : Refusal → ℕ
-- work area under 65,536 bytes
number_of WorkShort = 1
-- position area under 2,730 entries
number_of PositionsShort = 11
-- message over length, a line out of form or one of the seven names twice
number_of MessageMalformed = 13
-- query over 4,096 bytes
number_of QueryLong = 2
-- query malformed
number_of QueryMalformed = 3
-- input over 16,384 bytes
number_of InputLong = 4
-- input malformed, tree limits included
number_of InputMalformed = 5
-- joined array over 16,384 bytes
number_of JoinedLong = 6
-- joined array malformed, likewise
number_of JoinedMalformed = 7
-- some class's exact total doesn't fit a signed 64-bit integer, at the group that opens a stretch
number_of TotalLarge = 12
-- tree too large in a stretch
number_of TreeLarge = 8
-- array entering a group over 16,384 bytes
number_of GroupLong = 9
-- final array over 16,384 bytes or over the result area
number_of ResultLong = 10

-- whether the result and the position area are left as they were; else they are all zero
unfoldable pub keeps_result : Refusal → Bool
keeps_result WorkShort = true
keeps_result PositionsShort = true
keeps_result MessageMalformed = true
keeps_result QueryLong = true
keeps_result QueryMalformed = true
keeps_result InputLong = true
keeps_result InputMalformed = true
keeps_result JoinedLong = true
keeps_result JoinedMalformed = true
keeps_result TotalLarge = false
keeps_result TreeLarge = false
keeps_result GroupLong = false
keeps_result ResultLong = false

-- whether the work area is left as it was; else it is all zero
unfoldable pub keeps_work : Refusal → Bool
keeps_work WorkShort = true
keeps_work PositionsShort = true
keeps_work MessageMalformed = false
keeps_work QueryLong = false
keeps_work QueryMalformed = false
keeps_work InputLong = false
keeps_work InputMalformed = false
keeps_work JoinedLong = false
keeps_work JoinedMalformed = false
keeps_work TotalLarge = false
keeps_work TreeLarge = false
keeps_work GroupLong = false
keeps_work ResultLong = false
