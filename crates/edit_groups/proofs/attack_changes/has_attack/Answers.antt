use Rattle.edit_groups.proofs.ChangeLemmas.{test_is}
use Rattle.edit_groups.proofs.attack_changes.has_attack.Goals as goal

pub returns : goal.returns
returns c = test_is _ c.args.plain.now.attacks c.args.pair c.has_attack.ensures
