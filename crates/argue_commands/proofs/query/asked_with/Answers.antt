use Rattle.argue_commands.proofs.QueryLemmas.{query_found}
use Rattle.argue_commands.proofs.query.asked_with.Goals as goal

pub returns : goal.returns
returns c = query_found _ _ c.new.result c.new.ensures.value c.new.ensures.none
