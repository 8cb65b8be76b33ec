use Rattle.core_events.specs.Machines.{server_of}
use Rattle.core_events.specs.Runs.{nothing}
use Rattle.core_events.proofs.RunLemmas.{lead_next, stops_with}
use Rattle.core_events.proofs.machine.Machine.run.Goals as goal

pub loop-event-init : goal.loop-event-init
loop-event-init c = nothing (server_of c.args.self.now)

pub loop-event-preserved : goal.loop-event-preserved
loop-event-preserved c = lead_next (server_of c.args.self.now) c.args.events.now (server_of c.loop-event.self)
    (server_of c.step.new.self) c.loop-event.event-index c.event-item.result c.loop-event-test.true c.event-item.is
    c.loop-event.invariant c.in_ok-step.ensures

pub returns-in_err-step : goal.returns-in_err-step
returns-in_err-step c =
    stops_with (server_of c.args.self.now) c.args.events.now (server_of c.loop-event.self) (server_of c.step.new.self)
    c.loop-event.event-index c.event-item.result c.in_err-step.field-0.0 c.from_residual.result c.loop-event-test.true
    c.event-item.is c.loop-event.invariant c.in_err-step.ensures c.from_residual.ensures
