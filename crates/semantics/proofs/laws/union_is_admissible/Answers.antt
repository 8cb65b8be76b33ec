use Rattle.semantics.proofs.AdmissibleSets.{union_admissible}
use Rattle.semantics.proofs.laws.union_is_admissible.Goals as goal

pub returns : goal.returns
returns c = union_admissible
