use Rattle.edit_rules.proofs.DetermineLemmas.{determined}
use Rattle.edit_rules.proofs.aba_edit_laws.aba_effects_determine.Goals as goal

pub returns : goal.returns
returns c = determined
