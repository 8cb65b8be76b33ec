use Rattle.aba_notions.specs.Closing.{ListsDerived}
use Rattle.aba_notions.proofs.closing.derived_atoms.Given as goal

abbrev pub invariant-loop-atom : goal.invariant-loop-atom
invariant-loop-atom l = ListsDerived l.derived l.atom l.found.items
