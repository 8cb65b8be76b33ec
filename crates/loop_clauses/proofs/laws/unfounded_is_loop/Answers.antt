use Rattle.loop_clauses.proofs.LoopLemmas.{loop_of}
use Rattle.loop_clauses.proofs.laws.unfounded_is_loop.Goals as goal

pub returns : goal.returns
returns c = loop_of
