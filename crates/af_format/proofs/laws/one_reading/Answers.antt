use Rattle.af_format.proofs.Readings.{ReadsAs-same, ReadsAs-faultless}
use Rattle.af_format.proofs.laws.one_reading.Goals as goal

pub returns-clause-same : goal.returns-clause-same
returns-clause-same c = ReadsAs-same

pub returns-clause-faultless : goal.returns-clause-faultless
returns-clause-faultless c = ReadsAs-faultless
