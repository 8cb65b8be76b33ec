use Rattle.argue_commands.proofs.CheckLemmas.{checks_accepted}
use Rattle.argue_commands.proofs.checking.check_files.Goals as goal

pub returns-in-Ok-clause-ok : goal.returns-in-Ok-clause-ok
returns-in-Ok-clause-ok g c = checks_accepted _ _ _ c.in-Ok.read c.in-Ok.ensures.ok
