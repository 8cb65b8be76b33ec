use Rattle.certificate_making.specs.Moving.{AreMovedTo}
use Rattle.certificate_making.proofs.renumbering.move_literals.Given as goal

abbrev pub invariant-loop-index : goal.invariant-loop-index
invariant-loop-index l = AreMovedTo l.positions l.initial.literals.items l.index l.literals.items
