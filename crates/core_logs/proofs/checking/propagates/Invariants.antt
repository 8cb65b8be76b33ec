use Rattle.oracle_face.specs.Logs.{clauses_of}
use Rattle.core_logs.proofs.HintTests.{StandsAs}
use Rattle.core_logs.proofs.checking.propagates.Given as goal

abbrev pub invariant-loop-at : goal.invariant-loop-at
invariant-loop-at l = StandsAs (clauses_of l.steps) l.truths.items l.initial.truths.items l.hints l.at
