use Rattle.std.proofs.Common.{◌+◌, ◌*◌, length}
use Rattle.session_tests.proofs.tests.turns.+fn-write_all-join_mut+arg3+write_all.Given as goal

abbrev pub decreases-join_mut+arg3 : goal.decreases-join_mut+arg3
decreases-join_mut+arg3 g l = 2 * length l.rest.now + 1

abbrev pub decreases-write_all : goal.decreases-write_all
decreases-write_all g l = 2 * length l.seats.now
