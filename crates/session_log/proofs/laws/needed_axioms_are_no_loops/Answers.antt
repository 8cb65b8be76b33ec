use Rattle.session_log.proofs.AxiomLemmas.{needed_no_loop}
use Rattle.session_log.proofs.laws.needed_axioms_are_no_loops.Goals as goal

pub returns : goal.returns
returns c = needed_no_loop
