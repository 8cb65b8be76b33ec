use Rattle.std.proofs.Common.{◌+◌, ◌-◌, length}
use Rattle.marked_rules.specs.Cone.{unmarked}
use Rattle.marked_rules.proofs.ConeLemmas.{HasFollowed}
use Rattle.marked_rules.proofs.cone.Cone.follow.Given as goal

abbrev pub invariant-loop-next : goal.invariant-loop-next
invariant-loop-next l = HasFollowed l.plain l.initial.self l.next l.self

abbrev pub decreases-loop-next : goal.decreases-loop-next
decreases-loop-next l = unmarked l.self.reached + (length l.self.atoms.items - l.next)
