use Rattle.clause_watches.proofs.Pairing.{vars_none, vars_next}
use Rattle.clause_watches.proofs.picking.vars_of.Goals as goal

pub loop-lit-init : goal.loop-lit-init
loop-lit-init c = vars_none

pub loop-lit-preserved : goal.loop-lit-preserved
loop-lit-preserved c =
    vars_next c.args.lits.now c.loop-lit.lit-index c.loop-lit.vars c.larger-vars.result c.loop-lit-test.true
    c.loop-lit.invariant c.if-lit-ge-VARS.false
    c.larger-vars.ensures.first c.larger-vars.ensures.second c.larger-vars.ensures.one_of
