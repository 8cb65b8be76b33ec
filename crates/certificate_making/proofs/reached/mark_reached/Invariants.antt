use Rattle.std.proofs.Common.{◌-◌}
use Rattle.certificate_making.specs.Marks.{IsWalk}
use Rattle.certificate_making.proofs.reached.mark_reached.Given as goal

abbrev pub invariant-loop-down : goal.invariant-loop-down
invariant-loop-down g l = IsWalk (g.L.ReadLog.log l.log) l.last (l.last - l.down) l.marks.items
