use Rattle.std.proofs.Common.{take}
use Rattle.edit_rules.specs.AbaEdits.{rules_but}
use Rattle.edit_rules.specs.Parts.{AreListsOf}
use Rattle.edit_rules.proofs.makes.rules_except.Given as goal

abbrev pub invariant-loop-index : goal.invariant-loop-index
invariant-loop-index l = AreListsOf (rules_but l.number (take l.index l.plain.rules)) l.rules
