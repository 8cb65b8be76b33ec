use Rattle.std.proofs.lemmas.Bool.{false≢true}
use Rattle.lists.specs.Members.{IsWithin}
use Rattle.aba_laws.specs.declared.aba_lists.PlainRule.{PlainRule}
use Rattle.aba_laws.proofs.DecidingLemmas.{each_next}
use Rattle.aba_laws.proofs.theories.first_ready.Goals as goal

pub loop-index-preserved : goal.loop-index-preserved
loop-index-preserved c =
    each_next (λ (r : PlainRule). IsWithin r.body.now c.args.derived.now → ⊥) c.args.rules.now c.loop-index.index _
    c.loop-index-test.true (λ w. false≢true (c.if-is_within.ensures.1 w)) c.loop-index.invariant
