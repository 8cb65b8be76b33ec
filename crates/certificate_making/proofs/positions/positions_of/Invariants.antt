use Rattle.std.proofs.Common.{◌-◌, length}
use Rattle.certificate_making.specs.ClaimSides.{HavePositions}
use Rattle.certificate_making.proofs.positions.positions_of.Given as goal

abbrev pub invariant-loop-down : goal.invariant-loop-down
invariant-loop-down l = HavePositions l.asks l.fn.sides (length l.asks - l.down) l.positions.items
