use Rattle.std.proofs.lemmas.Result.{IfOk-weaker}
use Rattle.semantics.specs.AbaFrameworks.{collective_of}
use Rattle.aba_laws.proofs.AbaLemmas.{aba_lawful}
use Rattle.aba_notions.proofs.AttackLemmas.{defended_exactly}
use Rattle.aba_notions.proofs.aba_plain.AbaPlain.defended_by.Goals as goal

pub returns : goal.returns
returns c = IfOk-weaker c.rest_of-2.result _ _
    (λ defended is. defended_exactly (collective_of c.args.self.now) (aba_lawful c.args.self.now) c.args.set.now
    c.in_ok-rest.rest defended c.in_ok-rest.ensures is) c.rest_of-2.ensures
