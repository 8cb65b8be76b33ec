use Rattle.session_core.proofs.FollowingLemmas.{IsInGroup}
use Rattle.session_core.proofs.following.follow_group.Given as goal

abbrev pub invariant-loop-effect : goal.invariant-loop-effect
invariant-loop-effect l = IsInGroup l.effects l.effect-index l.fn.engine l.engine
