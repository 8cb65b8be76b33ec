use Rattle.session_log.proofs.Taking.{entry_stays}
use Rattle.session_log.proofs.import_laws.entries_keep_the_guards.Goals as goal

pub returns : goal.returns
returns c = λ f own entry old new form guards may takes. entry_stays own entry old new takes f form guards may
