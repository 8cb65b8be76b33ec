use Rattle.aba_axioms.proofs.Validity.{clauses_are_valid}
use Rattle.aba_axioms.proofs.laws.axioms_are_valid.Goals as goal

pub returns : goal.returns
returns c = clauses_are_valid
