use Rattle.semantics.specs.AbaFrameworks.{collective_of}
use Rattle.aba_laws.proofs.AbaLemmas.{aba_lawful}
use Rattle.aba_notions.proofs.AttackLemmas.{conflict_free_by}
use Rattle.aba_notions.proofs.aba_plain.AbaPlain.is_conflict_free.Goals as goal

pub returns : goal.returns
returns c = conflict_free_by (collective_of c.args.self.now) (aba_lawful c.args.self.now) c.args.set.now
    c.in_ok-rest.rest c.within.result c.in_ok-rest.ensures c.within.ensures
