use Rattle.edit_rules.proofs.GroupLemmas.{group_edits, group_taken}
use Rattle.edit_rules.proofs.laws.groups_are_taken_whole.Goals as goal

pub returns : goal.returns
returns c f edits effects is = (group_taken f edits effects is, group_edits f edits effects is)
