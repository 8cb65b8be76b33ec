use Rattle.edit_rules.proofs.laws.edits_keep_form.Goals as goal
use Rattle.edit_rules.proofs.ReplayLemmas.{edits_keep}

pub returns : goal.returns
returns c = edits_keep
