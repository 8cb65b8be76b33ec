use Rattle.core_machine.proofs.Soundness.{imports_spend}
use Rattle.core_machine.proofs.laws.imports_spend_nothing.Goals as goal

pub returns : goal.returns
returns c = imports_spend
