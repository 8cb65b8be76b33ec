use Rattle.std.proofs.Common.{◌≡◌, ap, subst, sym}
use Rattle.core_machine.specs.Core.{Core}
use Rattle.core_machine.specs.Steps.{IsStep}
use Rattle.core_events.specs.AtHand.{core_of}
use Rattle.core_events.specs.Events.{event_of}
use Rattle.core_events.specs.Machines.{core_on}
use Rattle.core_events.specs.Stops.{Comes}
use Rattle.core_events.proofs.machine.step_on.Goals as goal

pub returns : goal.returns
returns c =
    let event = event_of c.args.event.now in
    let old = core_on c.args.core.now c.args.part.now in
    let there : core_of c.exchange.new.core ≡ old = ap core_of c.exchange.ensures.core in
    let back : core_on c.exchange-2.new.core c.exchange-2.new.part ≡ core_of c.step-stop.new.self =
    λ i. core_on (c.exchange-2.ensures.core i) (c.exchange-2.ensures.part i) in
    subst (λ (now : Core). Comes (IsStep old event) old now c.step-stop.result) (sym back)
    (subst (λ (met : Core). Comes (IsStep met event) met (core_of c.step-stop.new.self) c.step-stop.result) there
    c.step-stop.ensures)
