use Rattle.std.proofs.Common.{◌≡◌, map, take}
use Rattle.session_log.specs.Imports.{name_of_step}
use Rattle.core_events.proofs.sharing.hint_names.Given as goal

abbrev pub invariant-loop-hint : goal.invariant-loop-hint
invariant-loop-hint l = l.names ≡ map (name_of_step l.session l.steps) (take l.hint-index l.hints)
