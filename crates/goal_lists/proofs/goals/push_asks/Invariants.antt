use Rattle.std.proofs.Common.{◌≡◌, ◌++◌, take}
use Rattle.goal_lists.specs.Asking.{are_asked}
use Rattle.goal_lists.proofs.goals.push_asks.Given as goal

abbrev pub invariant-loop-ask : goal.invariant-loop-ask
invariant-loop-ask l = l.goals.items ≡ l.initial.goals.items ++ are_asked (take l.ask-index l.asks)
