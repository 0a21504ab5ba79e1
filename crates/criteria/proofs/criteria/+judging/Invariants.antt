use Rattle.std.proofs.Common.{◌+◌, ◌*◌}
use Rattle.criteria.proofs.criteria.+judging.Given as goal

abbrev pub decreases-holds : goal.decreases-holds
decreases-holds l = 2 * l.left

abbrev pub decreases-holds_both : goal.decreases-holds_both
decreases-holds_both l = 2 * l.left + 1

abbrev pub decreases-holds_either : goal.decreases-holds_either
decreases-holds_either l = 2 * l.left + 1
