use Rattle.marked_rules.specs.Search.{GoesOnTo}
use Rattle.marked_rules.proofs.rule_uses.RuleUses.fire_all.Given as goal

abbrev pub invariant-loop-rule : goal.invariant-loop-rule
invariant-loop-rule l = GoesOnTo l.plain l.self l.rule l.initial.closing l.closing
