use Rattle.std.proofs.Common.{length}
use Rattle.semantics.specs.AbaFrameworks.{collective_of}
use Rattle.ideal_set.proofs.AssumptionLemmas.{HoldsParts}
use Rattle.ideal_set.proofs.assumptions.largest_part_of_assumptions.Given as goal

abbrev pub invariant-loop-part : goal.invariant-loop-part
invariant-loop-part l = HoldsParts (collective_of l.fn.plain) l.fn.set l.fn.without l.part

abbrev pub decreases-loop-part : goal.decreases-loop-part
decreases-loop-part l = length l.part
