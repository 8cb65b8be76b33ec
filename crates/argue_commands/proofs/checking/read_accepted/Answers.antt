use Rattle.argue_commands.proofs.CheckLemmas.{accepts_from, checks_from, ends_reading, text_stops}
use Rattle.argue_commands.proofs.checking.read_accepted.Goals as goal

pub returns-in-Err-parse-clause-err : goal.returns-in-Err-parse-clause-err
returns-in-Err-parse-clause-err g c =
    ends_reading _ _ _ _ (text_stops _ _ c.in-Ok.bytes c.in-Err-parse.end c.in-Ok.ensures.ok c.in-Err-parse.ensures.err)
