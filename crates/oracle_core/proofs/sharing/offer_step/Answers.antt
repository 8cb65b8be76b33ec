use Rattle.std.specs.Prelude.{IfSome}
use Rattle.std.proofs.Common.{subst}
use Rattle.oracle_core.specs.Sharing.{IsEntryOf}
use Rattle.edit_rules.specs.Kinds.{framework_of}
use Rattle.oracle_core.proofs.OfferLemmas.{entry_shareable}
use Rattle.oracle_core.proofs.sharing.offer_step.Goals as goal

pub offer-requires : goal.offer-requires
offer-requires g c =
    let p = c.args.parts.now in
    entry_shareable (framework_of p.framework) p.solver.log c.args.own c.args.step c.in-Ok-Some.entry
    c.requires.whole.guarded c.requires.step
    (subst (λ r. IfSome r (IsEntryOf c.args.own p.solver.log.steps c.args.step)) c.in-Ok-Some.field-0-is
    c.in-Ok-Some.ensures)

pub returns-in-Ok-None-clause-follows : goal.returns-in-Ok-None-clause-follows
returns-in-Ok-None-clause-follows g c = g.met.T.ClauseTrade.stays c.args.trade.now

pub returns-in-Err-clause-follows : goal.returns-in-Err-clause-follows
returns-in-Err-clause-follows g c = g.met.T.ClauseTrade.stays c.args.trade.now
