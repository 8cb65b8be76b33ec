use Rattle.std.proofs.Common.{take}
use Rattle.std.specs.Prelude.{Contains}
use Rattle.sleeping_clauses.specs.Steps.{Holds, clause_of}
use Rattle.sleeping_clauses.specs.declared.sleepers.Sleeper.{Sleeper}
use Rattle.sleeping_clauses.proofs.sleepers.first_falsified_sleeper.Given as goal

abbrev pub invariant-loop-index : goal.invariant-loop-index
invariant-loop-index l =
    (x : Sleeper) → Contains (take l.index l.asleep) x → Holds l.clause (clause_of l.log.steps x.step) → ⊥
