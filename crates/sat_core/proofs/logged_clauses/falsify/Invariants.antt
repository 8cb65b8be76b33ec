use Rattle.std.proofs.Common.{◌≡◌, take}
use Rattle.sleeping_clauses.specs.Steps.{FalsifiesAll}
use Rattle.sat_core.proofs.logged_clauses.falsify.Given as goal

abbrev pub invariant-loop-lit : goal.invariant-loop-lit
invariant-loop-lit l = record {
  denies : FalsifiesAll (take l.lit-index l.clause) l.trail.lits;
  vars : l.trail.vars ≡ l.initial.trail.vars;
}
