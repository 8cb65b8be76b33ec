use Rattle.std.proofs.Common.{length, map}
use Rattle.aba_laws.specs.Deciding.{rule_of}
use Rattle.aba_laws.proofs.DerivationLemmas.{IsFilling}
use Rattle.aba_laws.proofs.theories.closure.Given as goal

abbrev pub invariant-loop-index : goal.invariant-loop-index
invariant-loop-index l = IsFilling (map rule_of l.rules) l.set l.derived (map rule_of l.left.items)

abbrev pub decreases-loop-index : goal.decreases-loop-index
decreases-loop-index l = length l.left.items
