use Rattle.std.proofs.Common.{length}
use Rattle.std.specs.Prelude.{sum}
use Rattle.marked_rules.specs.Search.{GoesOnTo, heads_of, open_in}
use Rattle.marked_rules.proofs.rule_uses.RuleUses.settle_all.Given as goal

abbrev pub invariant-loop-rule : goal.invariant-loop-rule
invariant-loop-rule l = GoesOnTo l.plain l.self (length (heads_of l.plain)) l.initial.closing l.closing

abbrev pub decreases-loop-rule : goal.decreases-loop-rule
decreases-loop-rule l = sum (open_in l.self l.closing)
