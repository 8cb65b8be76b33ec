use Rattle.lrat_writing.proofs.CnfBack.{cnf_back}
use Rattle.lrat_writing.proofs.laws.cnf_reads_back.Goals as goal

pub returns : goal.returns
returns c = cnf_back
