-- The events of the core that a machine's events are.
use Rattle.semantics.specs.declared.limits.TheConstants.{MAX_EXTENSIONS}
use Rattle.oracle_face.specs.Logs.{Source, by_axiom, by_hints}
use Rattle.core_machine.specs.Steps.{Event as CoreEvent, answer, commit, learn, refresh, share, side, take_in}
use Rattle.core_answers.specs.Outcomes.{ending_of}
use Rattle.core_events.specs.declared.event.Event.{Event}
use Rattle.core_events.specs.declared.event.Event.TheVariants.{Answer, Commit, Import, Learn, Refresh, Share, Side}
use Rattle.core_events.specs.declared.event.Origin.{Origin}
use Rattle.core_events.specs.declared.event.Origin.TheVariants.{Axiom, Hints}

abbrev pub source_by : Origin → Source
source_by (Axiom name) = by_axiom name
source_by (Hints hints) = by_hints hints

-- the core's event that an event is: an answer lists `MAX_EXTENSIONS` at most
abbrev pub event_of : Event → CoreEvent
event_of (Commit s edits) = commit s edits
event_of (Refresh s) = refresh s
event_of (Learn s clause origin closing) = learn s clause (source_by origin) closing
event_of (Side s set literals) = side s set literals
event_of (Share s step index) = share s step index
event_of (Import s index) = take_in s index
event_of (Answer s query limit pending result) = answer s query MAX_EXTENSIONS limit pending (ending_of result)
