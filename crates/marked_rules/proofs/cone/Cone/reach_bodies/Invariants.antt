use Rattle.marked_rules.specs.Cone.{Reaches}
use Rattle.marked_rules.proofs.ConeLemmas.{IsInFirst}
use Rattle.marked_rules.proofs.cone.Cone.reach_bodies.Given as goal

abbrev pub invariant-loop-rule : goal.invariant-loop-rule
invariant-loop-rule l = Reaches (IsInFirst l.plain l.rules l.rule-index) l.initial.self l.self
