use Rattle.std.proofs.Common.{ℕ, List, length, refl, subst}
use Rattle.std.specs.Vec.{with_item}
use Rattle.core_events.specs.declared.machine.Part.{Part}
use Rattle.core_events.specs.Events.{event_of}
use Rattle.core_events.specs.Machines.{IsIndexOn}
use Rattle.core_events.proofs.MachineLemmas.{event_on}
use Rattle.core_events.proofs.machine.Machine.step.Goals as goal

pub returns : goal.returns
returns c =
    let m = c.args.self.now in
    event_on m
    (record { parts = with_item m.parts c.in-Some.index c.step_on.new.part; uses = m.uses; core = c.step_on.new.core })
    (event_of c.args.event.now) c.session.result c.in-Some.index c.index_mut.result.now c.step_on.new.part
    c.step_on.new.core c.step_on.result c.session.ensures
    (subst (λ (ps : List Part). IsIndexOn m.uses.items (length ps) c.session.result c.in-Some.index)
    c.as_slice-count.ensures.value
    (subst (λ (us : List ℕ). IsIndexOn us (length c.as_slice-count.result.now) c.session.result c.in-Some.index)
    c.as_slice.ensures.value c.in-Some.ensures.some))
    c.index_mut.ensures.value refl refl refl c.step_on.ensures
