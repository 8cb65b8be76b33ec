use Rattle.std.proofs.Common.{◌-◌}
use Rattle.hinted_log.specs.Trimming.{IsWalk}
use Rattle.hinted_log.proofs.trim.mark_reached.Given as goal

abbrev pub invariant-loop-down : goal.invariant-loop-down
invariant-loop-down l = IsWalk l.steps l.last (l.last - l.down) l.marks.items
