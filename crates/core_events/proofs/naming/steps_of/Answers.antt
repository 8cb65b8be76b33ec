use Rattle.std.proofs.Common.{subst}
use Rattle.core_events.specs.Naming.{StandsForSome}
use Rattle.core_events.proofs.NamingLemmas.{so_far_more}
use Rattle.core_events.proofs.naming.steps_of.Goals as goal

pub loop-name-preserved : goal.loop-name-preserved
loop-name-preserved c =
    so_far_more c.args.own c.args.steps.now c.args.names.now c.loop-name.name-index c.loop-name.found c.push.new.self
    c.name-item.result c.in-Some.step c.loop-name-test.true c.name-item.is
    (subst (StandsForSome c.args.own c.args.steps.now c.name-item.result) c.in-Some.is c.in_ok-step.ensures)
    c.in_ok-push.ensures.ok c.loop-name.invariant
