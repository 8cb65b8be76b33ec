use Rattle.af_axioms.proofs.Rows.{rows_are_valid}
use Rattle.af_axioms.proofs.laws.axioms_are_valid.Goals as goal

pub returns : goal.returns
returns c = λ name h. rows_are_valid name
