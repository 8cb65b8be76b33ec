use Rattle.lrat_text.proofs.OneReading.{one_cnf_reading}
use Rattle.lrat_text.proofs.laws.one_reading.Goals as goal

pub returns : goal.returns
returns c = one_cnf_reading
