use Rattle.std.proofs.Common.{◌+◌, ◌*◌, length}
use Rattle.session_tests.proofs.tests.hubs.+fn-work_all-join_mut+arg3+work_all.Given as goal

abbrev pub decreases-join_mut+arg3 : goal.decreases-join_mut+arg3
decreases-join_mut+arg3 g l = 2 * length l.rest.now + 1

abbrev pub decreases-work_all : goal.decreases-work_all
decreases-work_all g l = 2 * length l.seats.now
