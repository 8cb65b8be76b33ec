use Rattle.marked_rules.specs.Tests.{IsSpared}
use Rattle.marked_rules.proofs.TestLemmas.{AreKept}
use Rattle.marked_rules.proofs.assumptions.keep_spared.Given as goal

abbrev pub invariant-loop-number : goal.invariant-loop-number
invariant-loop-number l = AreKept (IsSpared l.plain l.uses l.closing) l.numbers l.number-index l.kept.items
