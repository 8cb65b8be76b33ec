use Rattle.std.proofs.Common.{◌-◌, length}
use Rattle.clause_watches.specs.WatchLists.{HasMoreRoom}
use Rattle.clause_watches.proofs.watch_list.grow_lists.Given as goal

abbrev pub invariant-grow : goal.invariant-grow
invariant-grow l = HasMoreRoom l.initial.lists.items l.lists.items

abbrev pub decreases-grow : goal.decreases-grow
decreases-grow l = l.count - length l.lists.items
