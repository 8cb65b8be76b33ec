use Rattle.semantics.specs.AbaFrameworks.{collective_of}
use Rattle.aba_laws.proofs.AbaLemmas.{aba_lawful}
use Rattle.aba_notions.proofs.AttackLemmas.{admissible_by}
use Rattle.aba_notions.proofs.aba_plain.AbaPlain.is_admissible.Goals as goal

pub returns : goal.returns
returns c = admissible_by (collective_of c.args.self.now) (aba_lawful c.args.self.now) c.args.set.now
    c.in_ok-defended.defended c.within.result
    (c.in_ok-is_conflict_free.ensures.0 c.if-not-branch.false)
    c.in_ok-defended.ensures c.within.ensures
