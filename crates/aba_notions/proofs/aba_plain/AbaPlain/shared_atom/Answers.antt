use Rattle.std.proofs.lemmas.Bool.{false≢true}
use Rattle.aba_notions.proofs.UnfoundedLemmas.{none_more, shared_none}
use Rattle.aba_notions.proofs.aba_plain.AbaPlain.shared_atom.Goals as goal

pub loop-pair-preserved : goal.loop-pair-preserved
loop-pair-preserved c = none_more c.args.atoms.now c.body_of-body.result.now c.loop-pair.pair-index
    c.loop-pair.invariant (λ k. false≢true (c.if-contains.ensures.1 k))

pub returns : goal.returns
returns c = shared_none c.args.atoms.now _ c.body_of-body.result.now c.loop-pair.pair-index c.body_of-body.ensures.value
    c.loop-pair-test.false c.loop-pair.invariant
