use Rattle.std.proofs.Common.{refl}
use Rattle.std.proofs.lemmas.Bool.{false≢true}
use Rattle.semantics.specs.AbaFrameworks.{collective_of}
use Rattle.aba_laws.proofs.AbaLemmas.{aba_lawful}
use Rattle.aba_notions.proofs.GroundedLemmas.{starts, goes_on, leaves_fewer, arrives}
use Rattle.aba_notions.proofs.aba_plain.AbaPlain.grounded.Goals as goal

pub loop-alloc-init : goal.loop-alloc-init
loop-alloc-init c = starts (collective_of c.args.self.now) (aba_lawful c.args.self.now) c.new-set.result
    c.in_ok-next.next c.new-set.ensures c.in_ok-next.ensures

pub loop-alloc-smaller : goal.loop-alloc-smaller
loop-alloc-smaller c = leaves_fewer (collective_of c.args.self.now) (aba_lawful c.args.self.now) c.loop-alloc.set
    c.loop-alloc.next c.loop-alloc.invariant (λ w. false≢true (c.loop-alloc-test.ensures.1 w))

pub loop-alloc-preserved : goal.loop-alloc-preserved
loop-alloc-preserved c = goes_on (collective_of c.args.self.now) (aba_lawful c.args.self.now) c.loop-alloc.set
    c.loop-alloc.next c.in_ok-next-2.next c.loop-alloc.invariant c.in_ok-next-2.ensures

pub returns : goal.returns
returns c = arrives (collective_of c.args.self.now) (aba_lawful c.args.self.now) c.loop-alloc.set c.loop-alloc.next
    c.loop-alloc.invariant (c.loop-alloc-test.ensures.0 refl)
