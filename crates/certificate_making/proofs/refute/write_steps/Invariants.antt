use Rattle.certificate_making.specs.Marks.{IsWriting}
use Rattle.certificate_making.proofs.refute.write_steps.Given as goal

abbrev pub invariant-loop-number : goal.invariant-loop-number
invariant-loop-number g l = IsWriting (g.L.ReadLog.log l.log) l.fn.step l.positions l.number l.numbers.items l.steps
