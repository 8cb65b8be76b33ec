use Rattle.std.proofs.Common.{◌≡◌, length, take}
use Rattle.plain_lits.proofs.assignment.Assignment.keep.Given as goal

abbrev pub invariant-loop-self : goal.invariant-loop-self
invariant-loop-self l = record {
  vars : l.self.vars ≡ l.initial.self.vars;
  same : take l.count l.self.lits ≡ take l.count l.initial.self.lits;
}

abbrev pub decreases-loop-self : goal.decreases-loop-self
decreases-loop-self l = length l.self.lits
