use Rattle.std.proofs.Common.{◌≡◌, take}
use Rattle.marked_rules.specs.Search.{open_in}
use Rattle.marked_rules.proofs.rule_uses.RuleUses.open_counts.Given as goal

abbrev pub invariant-loop-rule : goal.invariant-loop-rule
invariant-loop-rule l = l.found.items ≡ take l.rule (open_in l.self l.closing)
