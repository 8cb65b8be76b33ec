use Rattle.aba_laws.proofs.AfAgreement as agreement
use Rattle.aba_laws.proofs.laws.notions_agree.Goals as goal

pub returns : goal.returns
returns c = agreement.notions_agree
