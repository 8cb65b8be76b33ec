use Rattle.aba_format.proofs.FaultLemmas.{ReadsAs-faultless}
use Rattle.aba_format.proofs.SameLemmas.{ReadsAs-same}
use Rattle.aba_format.proofs.laws.one_reading.Goals as goal

pub returns-clause-same : goal.returns-clause-same
returns-clause-same c = ReadsAs-same

pub returns-clause-faultless : goal.returns-clause-faultless
returns-clause-faultless c = ReadsAs-faultless
