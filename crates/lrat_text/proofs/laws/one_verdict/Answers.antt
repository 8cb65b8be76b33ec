use Rattle.lrat_text.proofs.OneReading.{one_check, one_told}
use Rattle.lrat_text.proofs.laws.one_verdict.Goals as goal

pub returns-clause-checked : goal.returns-clause-checked
returns-clause-checked c = one_check

pub returns-clause-told : goal.returns-clause-told
returns-clause-told c = one_told
