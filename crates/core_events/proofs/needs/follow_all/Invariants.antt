use Rattle.std.proofs.Common.{◌≡◌, take}
use Rattle.edit_rules.specs.Kinds.{framework_of}
use Rattle.edit_rules.specs.Replay.{replay}
use Rattle.core_events.proofs.needs.follow_all.Given as goal

abbrev pub invariant-loop-edit : goal.invariant-loop-edit
invariant-loop-edit l =
    framework_of l.framework ≡ replay (framework_of l.initial.framework) (take l.edit-index l.edits)
