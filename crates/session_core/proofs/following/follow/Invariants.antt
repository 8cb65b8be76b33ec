use Rattle.session_core.proofs.FollowingLemmas.{IsFollowing}
use Rattle.session_core.proofs.following.follow.Given as goal

abbrev pub invariant-loop-change : goal.invariant-loop-change
invariant-loop-change l = IsFollowing l.changes l.change-index l.fn.engine l.engine
