use Rattle.lrat_writing.proofs.LratBack.{steps_back}
use Rattle.lrat_writing.proofs.laws.refutation_reads_back.Goals as goal

pub returns : goal.returns
returns c = steps_back
