use Rattle.session_log.proofs.Taking.{entry_spends}
use Rattle.session_log.proofs.import_laws.entries_spend_nothing.Goals as goal

pub returns : goal.returns
returns c = λ f own entry old new takes. entry_spends own entry old new takes f
