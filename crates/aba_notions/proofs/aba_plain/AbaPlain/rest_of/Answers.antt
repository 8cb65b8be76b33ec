use Rattle.std.proofs.lemmas.Result.{IfOk-weaker}
use Rattle.aba_notions.proofs.AttackLemmas.{unattacked_exactly}
use Rattle.aba_notions.proofs.aba_plain.AbaPlain.rest_of.Goals as goal

pub returns : goal.returns
returns c = IfOk-weaker c.minus.result _ _
    (λ rest is. unattacked_exactly c.args.self.now c.args.set.now c.in_ok-attacked.attacked rest
    c.assumptions.result.now c.in_ok-attacked.ensures c.assumptions.ensures.value is) c.minus.ensures
