use Rattle.std.proofs.Common.{take}
use Rattle.semantics.specs.Frameworks.{af}
use Rattle.set_tests.specs.Attacks.{GainsAttacked}
use Rattle.set_tests.proofs.attacks.add_targets_of.Given as goal

abbrev pub invariant-loop-member : goal.invariant-loop-member
invariant-loop-member l = GainsAttacked (af l.plain) (take l.member-index l.set) l.initial.found.items l.found.items
