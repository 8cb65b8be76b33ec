use Rattle.aba_format.specs.Written.{assumption_line}
use Rattle.aba_format.proofs.WrittenLemmas.{text_more}
use Rattle.aba_format.proofs.write.push_assumptions.Goals as goal

pub loop-assumption-preserved : goal.loop-assumption-preserved
loop-assumption-preserved c = text_more assumption_line _ _ _ c.args.assumptions.now c.loop-assumption.assumption-index _ c.loop-assumption.invariant
    c.in_ok-push_assumption.ensures c.loop-assumption-test.true
