use Rattle.std.proofs.Common.{◌<◌, ℕ, get_or, true}
use Rattle.std.specs.Prelude.{IsTrue}
use Rattle.oracle_face.specs.Logs.{no_step}
use Rattle.core_answers.specs.Parts.{HandsOn}
use Rattle.core_answers.proofs.reach.first_fault.Given as goal

abbrev pub invariant-loop-index : goal.invariant-loop-index
invariant-loop-index l =
    (k : ℕ) → k < l.index → IsTrue (get_or l.marks k true) → HandsOn l.marks (get_or l.steps k no_step)
