use Rattle.std.specs.Prelude.{Contains}
use Rattle.aba_notions.proofs.AttackLemmas.{firsts_none, firsts_more, firsts_all}
use Rattle.aba_notions.proofs.notions.firsts_with.Goals as goal

pub loop-pair-init : goal.loop-pair-init
loop-pair-init c = firsts_none c.args.pairs.now (Contains c.args.seconds.now) c.new-found.result.items
    c.new-found.ensures.items

pub loop-pair-preserved : goal.loop-pair-preserved
loop-pair-preserved c = firsts_more c.args.pairs.now (Contains c.args.seconds.now) c.loop-pair.pair-index
    c.loop-pair.found.items c.add_first.new.found.items c.loop-pair.invariant c.in_ok-add_first.ensures

pub returns : goal.returns
returns c = firsts_all c.args.pairs.now (Contains c.args.seconds.now) c.loop-pair.pair-index c.loop-pair.found.items
    c.loop-pair-test.false c.loop-pair.auto.pair-index-end c.loop-pair.invariant
