use Rattle.std.proofs.Common.{◌-◌, length}
use Rattle.semantics.specs.AbaFrameworks.{collective_of}
use Rattle.aba_notions.proofs.GroundedLemmas.{IsOnWay}
use Rattle.aba_notions.proofs.aba_plain.AbaPlain.grounded.Given as goal

abbrev pub invariant-loop-alloc : goal.invariant-loop-alloc
invariant-loop-alloc l = IsOnWay (collective_of l.self) l.set l.next

abbrev pub decreases-loop-alloc : goal.decreases-loop-alloc
decreases-loop-alloc l = length l.self.assumptions - length l.set
