use Rattle.std.proofs.Common.{refl}
use Rattle.semantics.specs.AbaFrameworks.{collective_of}
use Rattle.aba_laws.specs.declared.theories.Theory.{Theory}
use Rattle.aba_laws.specs.Deciding.{AbaOf, HasNoLarger}
use Rattle.aba_laws.proofs.DecidingLemmas.{each_more}
use Rattle.aba_laws.proofs.deciding.is_maximal.Goals as goal

pub loop-other-preserved : goal.loop-other-preserved
loop-other-preserved c =
    each_more (λ (t : Theory). HasNoLarger (collective_of (AbaOf c.args.f.now)) c.args.s.now.set t.set) c.args.all.now
    c.loop-other.other-index c.other-item.result c.loop-other-test.true c.other-item.is
    (c.if-not-has_no_larger.ensures.0 refl) c.loop-other.invariant
