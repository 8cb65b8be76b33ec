use Rattle.edit_rules.proofs.GroupLemmas.{both_taken, replay_both}
use Rattle.edit_rules.proofs.laws.groups_join.Goals as goal

pub returns : goal.returns
returns c f edits more effects others is then =
    (both_taken f edits more effects others is then, replay_both f edits more)
