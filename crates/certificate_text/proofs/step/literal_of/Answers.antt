use Rattle.std.proofs.Common.{ap}
use Rattle.std.specs.Prelude.{Some}
use Rattle.meaning_atoms.proofs.OneReading.{one_literal}
use Rattle.certificate_text.proofs.step.literal_of.Goals as goal

pub returns-in-Some-clause-read : goal.returns-in-Some-clause-read
returns-in-Some-clause-read c = λ l is. ap Some (one_literal _ _ l c.in-Some.ensures is)
