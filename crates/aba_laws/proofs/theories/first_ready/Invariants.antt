use Rattle.lists.specs.Members.{IsWithin}
use Rattle.aba_laws.specs.declared.aba_lists.PlainRule.{PlainRule}
use Rattle.aba_laws.proofs.DecidingLemmas.{EachBefore}
use Rattle.aba_laws.proofs.theories.first_ready.Given as goal

abbrev pub invariant-loop-index : goal.invariant-loop-index
invariant-loop-index l = EachBefore (λ (r : PlainRule). IsWithin r.body.now l.derived → ⊥) l.rules l.index
