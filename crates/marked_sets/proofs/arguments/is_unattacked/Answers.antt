use Rattle.marked_sets.proofs.UnattackedLemmas.{unattacked_test}
use Rattle.marked_sets.proofs.arguments.is_unattacked.Goals as goal

pub returns : goal.returns
returns c = unattacked_test c.args.plain.now c.args.argument _ _ c.attackers_of.ensures c.is_empty.ensures
