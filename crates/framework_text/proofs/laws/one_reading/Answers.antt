use Rattle.framework_text.proofs.Readings.{ReadsAs-faultless, ReadsAs-numbered, ReadsAs-same}
use Rattle.framework_text.proofs.laws.one_reading.Goals as goal

pub returns-clause-same : goal.returns-clause-same
returns-clause-same c = ReadsAs-same

pub returns-clause-numbered : goal.returns-clause-numbered
returns-clause-numbered c = ReadsAs-numbered

pub returns-clause-faultless : goal.returns-clause-faultless
returns-clause-faultless c = ReadsAs-faultless
