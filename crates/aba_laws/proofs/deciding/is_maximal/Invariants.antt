use Rattle.semantics.specs.AbaFrameworks.{collective_of}
use Rattle.aba_laws.specs.declared.theories.Theory.{Theory}
use Rattle.aba_laws.specs.Deciding.{AbaOf, HasNoLarger}
use Rattle.aba_laws.proofs.DecidingLemmas.{EachBefore}
use Rattle.aba_laws.proofs.deciding.is_maximal.Given as goal

abbrev pub invariant-loop-other : goal.invariant-loop-other
invariant-loop-other l =
    EachBefore (λ (t : Theory). HasNoLarger (collective_of (AbaOf l.f)) l.s.set t.set) l.all
    l.other-index
