use Rattle.std.proofs.Common.{refl}
use Rattle.aba_notions.proofs.TableLemmas.{pairs_none, pairs_more, pairs_all}
use Rattle.aba_notions.proofs.rule_table.pairs_of_heads.Goals as goal

pub loop-index-init : goal.loop-index-init
loop-index-init c = pairs_none c.args.heads.now c.in_ok-pairs.pairs.items c.in_ok-pairs.ensures.items

pub loop-index-preserved : goal.loop-index-preserved
loop-index-preserved c =
    pairs_more c.args.heads.now c.loop-index.index _ _ c.loop-index.pairs.items c.push.new.self.items
    c.loop-index.invariant refl refl c.in_ok-push.ensures.items

pub returns : goal.returns
returns c = pairs_all c.args.heads.now c.loop-index.index c.loop-index.pairs.items c.loop-index-test.false
    c.loop-index.auto.index-end c.loop-index.invariant
