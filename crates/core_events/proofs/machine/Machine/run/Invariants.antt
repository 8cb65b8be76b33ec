use Rattle.std.proofs.Common.{take}
use Rattle.core_events.specs.Machines.{server_of}
use Rattle.core_events.specs.Runs.{Lead}
use Rattle.core_events.proofs.machine.Machine.run.Given as goal

abbrev pub invariant-loop-event : goal.invariant-loop-event
invariant-loop-event l = Lead (server_of l.initial.self) (take l.event-index l.events) (server_of l.self)
