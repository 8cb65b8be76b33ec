-- Answers to queries.
use Rattle.std.specs.Prelude.{ℕ, Option}
use Rattle.semantics.specs.declared.limits.TheConstants.{MAX_EXTENSIONS}
use Rattle.iccma_tasks.specs.Tasks.{Asked}
use Rattle.oracle_face.specs.declared.face.Pending.{Pending}
use Rattle.core_machine.specs.Core.{Core, seen_framework}
use Rattle.core_answers.specs.declared.outcome.Outcome.{Outcome}
use Rattle.core_answers.specs.Outcomes.{Comes as ComesOut}

-- the session may answer the query so, with `MAX_EXTENSIONS` at most in a list
abbrev pub MayAnswer : Core → ℕ → Asked → ℕ → Option Pending → Outcome → Type 0
MayAnswer core s asked budget pending outcome =
    ComesOut (seen_framework core s) asked MAX_EXTENSIONS (core.sessions s).log (core.sessions s).answered budget
    pending outcome
