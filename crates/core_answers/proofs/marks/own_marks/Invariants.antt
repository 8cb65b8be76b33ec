use Rattle.std.proofs.Common.{◌≡◌, ◌<◌, ℕ, get_or, length, true}
use Rattle.std.specs.Prelude.{◌↔◌, IsTrue}
use Rattle.oracle_face.specs.Logs.{no_step}
use Rattle.core_answers.specs.Parts.{IsOwn}
use Rattle.core_answers.proofs.marks.own_marks.Given as goal

abbrev pub invariant-loop-step : goal.invariant-loop-step
invariant-loop-step l = record {
  long : length l.marks.items ≡ l.step-index;
  each : (k : ℕ) → k < l.step-index → IsTrue (get_or l.marks.items k true) ↔ IsOwn l.own (get_or l.steps k no_step);
}
