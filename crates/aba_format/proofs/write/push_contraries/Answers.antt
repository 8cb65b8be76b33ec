use Rattle.aba_format.specs.Written.{contrary_line}
use Rattle.aba_format.proofs.WrittenLemmas.{text_more}
use Rattle.aba_format.proofs.write.push_contraries.Goals as goal

pub loop-pair-preserved : goal.loop-pair-preserved
loop-pair-preserved c = text_more contrary_line _ _ _ c.args.pairs.now c.loop-pair.pair-index _ c.loop-pair.invariant
    c.in_ok-push_contrary.ensures c.loop-pair-test.true
