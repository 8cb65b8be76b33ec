use Rattle.lrat_text.proofs.OneReading.{told_unsatisfiable}
use Rattle.lrat_text.proofs.laws.verified_is_unsatisfiable.Goals as goal

pub returns : goal.returns
returns c = told_unsatisfiable
