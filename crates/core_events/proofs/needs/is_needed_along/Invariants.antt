use Rattle.std.proofs.Common.{◌≡◌, ◌<◌, ℕ, take}
use Rattle.edit_rules.specs.Kinds.{framework_of}
use Rattle.edit_rules.specs.Replay.{replay}
use Rattle.oracle_face.specs.Needed.{IsNeeded}
use Rattle.core_events.proofs.needs.is_needed_along.Given as goal

abbrev pub invariant-loop-edit : goal.invariant-loop-edit
invariant-loop-edit l = record {
  now : framework_of l.framework ≡ replay (framework_of l.initial.framework) (take l.edit-index l.edits);
  none : (count : ℕ) → count < l.edit-index
      → IsNeeded (replay (framework_of l.initial.framework) (take count l.edits)) l.name → ⊥;
}
