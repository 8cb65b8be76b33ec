use Rattle.std.proofs.lemmas.Result.{IfOk-weaker}
use Rattle.aba_notions.proofs.AttackLemmas.{attacked_exactly}
use Rattle.aba_notions.proofs.aba_plain.AbaPlain.attacked_by.Goals as goal

pub returns : goal.returns
returns c = IfOk-weaker c.from_slice.result _ _
    (λ set is. attacked_exactly c.args.self.now c.args.set.now c.in_ok-theory.theory c.in_ok-attacked.attacked.items set
    c.contraries.result.now c.in_ok-theory.ensures.derived c.contraries.ensures.value c.in_ok-attacked.ensures
    (rw c.deref.ensures.value at is)) c.from_slice.ensures
