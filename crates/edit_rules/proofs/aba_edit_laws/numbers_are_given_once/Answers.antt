use Rattle.edit_rules.proofs.LawLemmas.{given_once}
use Rattle.edit_rules.proofs.aba_edit_laws.numbers_are_given_once.Goals as goal

pub returns : goal.returns
returns c = given_once
