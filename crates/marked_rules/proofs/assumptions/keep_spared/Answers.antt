use Rattle.marked_rules.specs.Tests.{IsSpared}
use Rattle.marked_rules.proofs.TestLemmas.{kept_none, kept_more, kept_all}
use Rattle.marked_rules.proofs.assumptions.keep_spared.Goals as goal

pub loop-number-init : goal.loop-number-init
loop-number-init c = kept_none (IsSpared c.args.plain.now c.args.uses.now c.args.closing.now) c.args.numbers.now _
    c.clear.ensures.items

pub loop-number-preserved : goal.loop-number-preserved
loop-number-preserved c = kept_more (IsSpared c.args.plain.now c.args.uses.now c.args.closing.now) c.args.numbers.now
    c.loop-number.number-index _ _ c.loop-number-test.true c.loop-number.invariant c.in_ok-keep_if_spared.ensures

pub returns : goal.returns
returns c = kept_all (IsSpared c.args.plain.now c.args.uses.now c.args.closing.now) c.args.numbers.now
    c.loop-number.number-index _ c.loop-number-test.false c.loop-number.invariant
