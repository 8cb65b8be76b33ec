use Rattle.edit_rules.specs.Kinds.{framework_of}
use Rattle.certificate_making.proofs.MakingLemmas.{asks_within, made_if}
use Rattle.certificate_making.proofs.making.refutation_of.Goals as goal

pub returns-clause-made : goal.returns-clause-made
returns-clause-made g c =
    made_if (framework_of c.args.framework.now) (g.L.ReadLog.framework c.args.log.now) (g.L.ReadLog.log c.args.log.now)
    c.args.claim.now c.args.step c.as_slice.result.now c.in_ok-asks.asks.items c.deref.result.now
    c.in_ok-positions.positions.items c.deref-2.result.now c.refutation.result c.requires.same c.len-form.ensures.form
    c.len-form.ensures.guards c.as_slice.ensures c.deref.ensures.value c.deref-2.ensures.value c.in_ok-asks.ensures
    c.in_ok-positions.ensures.positions c.refutation.ensures.refutes c.refutation.ensures.writable
