use Rattle.std.proofs.Common.{◌≡◌, take}
use Rattle.plain_lits.specs.Checking.{AssumesFalse}
use Rattle.refutation_logs.proofs.used.assume_false.Given as goal

abbrev pub invariant-loop-lit : goal.invariant-loop-lit
invariant-loop-lit l = record {
  so_far : AssumesFalse (take l.lit-index l.clause) l.trail.lits;
  vars : l.trail.vars ≡ l.initial.trail.vars;
}
