-- The refusal that a failure of the stages is.
use Rattle.stretches.specs.declared.ended.Failure.{Failure}
use Rattle.stretches.specs.declared.ended.Failure.TheVariants.{Large, Long, Overflow, Full}
use Rattle.spec_run.specs.declared.answer.Refusal.{Refusal}
use Rattle.spec_run.specs.declared.answer.Refusal.TheVariants.{TreeLarge, GroupLong, TotalLarge, ResultLong}

abbrev pub refusal_of : Failure → Refusal
refusal_of Large = TreeLarge
refusal_of Long = GroupLong
refusal_of Overflow = TotalLarge
refusal_of Full = ResultLong
