use Rattle.std.proofs.Common.{◌≡◌, take}
use Rattle.edit_rules.specs.Kinds.{framework_of}
use Rattle.edit_rules.specs.Replay.{replay}
use Rattle.edit_history.specs.Entries.{edits_in}
use Rattle.bench_runs.proofs.replay.redo_group.Given as goal

-- the framework is the one behind the edits so far
abbrev pub invariant-loop-effect : goal.invariant-loop-effect
invariant-loop-effect l =
    framework_of l.framework ≡ replay (framework_of l.initial.framework) (edits_in (take l.effect-index l.effects))
