use Rattle.std.proofs.Common.{◌≡◌, ◌<◌, ℕ, get_or, length, true}
use Rattle.std.specs.Prelude.{◌↔◌, IsTrue}
use Rattle.oracle_face.specs.Logs.{no_step}
use Rattle.core_answers.specs.Parts.{IsWorking}
use Rattle.core_answers.proofs.marks.working_marks.Given as goal

abbrev pub invariant-loop-step : goal.invariant-loop-step
invariant-loop-step l = record {
  long : length l.marks.items ≡ l.step-index;
  each : (k : ℕ) → k < l.step-index → IsTrue (get_or l.marks.items k true) ↔ IsWorking (get_or l.steps k no_step);
}
