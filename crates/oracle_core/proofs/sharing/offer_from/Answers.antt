use Rattle.std.proofs.Common.{◌∙◌, refl}
use Rattle.oracle_core.proofs.sharing.offer_from.Goals as goal

pub loop-offered-init : goal.loop-offered-init
loop-offered-init g c = record {
  left_is = refl;
  gave_is = refl;
  follows = g.met.T.ClauseTrade.stays c.args.trade.now;
}

pub returns-then-not-offer_step-clause-left : goal.returns-then-not-offer_step-clause-left
returns-then-not-offer_step-clause-left g c = c.offer_step.ensures.left ∙ c.loop-offered.invariant.left_is

pub returns-then-not-offer_step-clause-gave : goal.returns-then-not-offer_step-clause-gave
returns-then-not-offer_step-clause-gave g c = c.offer_step.ensures.gave ∙ c.loop-offered.invariant.gave_is

pub returns-then-not-offer_step-clause-follows : goal.returns-then-not-offer_step-clause-follows
returns-then-not-offer_step-clause-follows g c =
    g.met.T.ClauseTrade.joins c.args.trade.now c.loop-offered.trade c.offer_step.new.trade
    c.loop-offered.invariant.follows c.offer_step.ensures.follows

pub loop-offered-preserved : goal.loop-offered-preserved
loop-offered-preserved g c = record {
  left_is = c.offer_step.ensures.left ∙ c.loop-offered.invariant.left_is;
  gave_is = c.offer_step.ensures.gave ∙ c.loop-offered.invariant.gave_is;
  follows = g.met.T.ClauseTrade.joins c.args.trade.now c.loop-offered.trade c.offer_step.new.trade
      c.loop-offered.invariant.follows c.offer_step.ensures.follows;
}
