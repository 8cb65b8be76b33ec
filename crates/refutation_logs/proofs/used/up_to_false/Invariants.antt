use Rattle.std.proofs.Common.{◌≡◌, ℕ, ◌+◌, Result, drop}
use Rattle.plain_lits.specs.Literals.{negation}
use Rattle.plain_lits.specs.HintCheck.{Propagates}
use Rattle.refutation_logs.proofs.used.up_to_false.Given as goal

abbrev pub invariant-loop-at : goal.invariant-loop-at
invariant-loop-at l = record {
  rest : (outcome : Result ℕ ℕ) → Propagates negation l.clauses l.trail.lits (l.at + 1) (drop l.at l.hints) outcome
      → Propagates negation l.clauses l.initial.trail.lits 1 l.hints outcome;
  vars : l.trail.vars ≡ l.initial.trail.vars;
}
