use Rattle.clause_watches.proofs.Pairing.{pick_none, pick_next}
use Rattle.clause_watches.proofs.picking.pick_one.Goals as goal

pub loop-lit-init : goal.loop-lit-init
loop-lit-init c = pick_none c.args.trail.now.lits c.args.other

pub loop-lit-preserved : goal.loop-lit-preserved
loop-lit-preserved c =
    pick_next c.args.trail.now.lits c.args.clause.now c.loop-lit.lit-index c.args.other c.loop-lit.best c.consider-best.result
    c.loop-lit-test.true c.consider-best.ensures c.loop-lit.invariant
