use Rattle.edit_groups.proofs.GainingLemmas.{gained_one}
use Rattle.edit_groups.proofs.pair_lists.insert_at.Goals as goal

pub returns-in-Ok-clause-done : goal.returns-in-Ok-clause-done
returns-in-Ok-clause-done c =
    gained_one _ c.args.plain.now _ c.insert_attack.ensures.live c.in-Ok.ensures.gains c.insert_attack.ensures.form
