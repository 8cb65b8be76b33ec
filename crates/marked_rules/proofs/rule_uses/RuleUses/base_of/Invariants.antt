use Rattle.std.proofs.Common.{◌≡◌, take}
use Rattle.marked_rules.specs.Search.{derived_in}
use Rattle.marked_rules.proofs.rule_uses.RuleUses.base_of.Given as goal

abbrev pub invariant-loop-atom : goal.invariant-loop-atom
invariant-loop-atom l = l.base.items ≡ take l.atom (derived_in l.self l.closing)
