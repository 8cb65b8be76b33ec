use Rattle.edit_rules.proofs.LawLemmas.{keeps_form}
use Rattle.edit_rules.proofs.aba_edit_laws.aba_edits_keep_form.Goals as goal

pub returns : goal.returns
returns c = keeps_form
