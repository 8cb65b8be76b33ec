use Rattle.std.specs.Prelude.{Contains}
use Rattle.std.proofs.Common.{subst, sym}
use Rattle.std.proofs.lemmas.Bool.{false≢true}
use Rattle.semantics.specs.AbaFrameworks.{collective_of}
use Rattle.semantics.specs.Collectives.{Defends}
use Rattle.aba_laws.specs.Deciding.{AbaOf}
use Rattle.aba_laws.proofs.DecidingLemmas.{fails_by}
use Rattle.aba_laws.proofs.deciding.holds_if_defended.Goals as goal

pub returns-else-contains : goal.returns-else-contains
returns-else-contains c =
    fails_by (Defends (collective_of (AbaOf c.args.f.now)) c.args.s.now.set c.args.number)
    (Contains c.args.s.now.set c.args.number) c.defends.result
    (λ k. false≢true (c.if-contains.ensures.1
    (subst (λ xs. Contains xs c.args.number) (sym c.as_slice.ensures) k)))
    c.defends.ensures
