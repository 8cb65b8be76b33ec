use Rattle.aba_laws.specs.Deciding.{AbaOf}
use Rattle.aba_laws.proofs.DecidingLemmas.{HasTheories}
use Rattle.aba_laws.proofs.theories.theories.Given as goal

abbrev pub invariant-loop-set : goal.invariant-loop-set
invariant-loop-set l = HasTheories (AbaOf l.framework) l.set-items l.set-index l.theories
