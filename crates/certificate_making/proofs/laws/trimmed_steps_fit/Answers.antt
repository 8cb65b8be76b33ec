use Rattle.certificate_making.proofs.TrimmedLemmas.{trimmed_fits}
use Rattle.certificate_making.proofs.laws.trimmed_steps_fit.Goals as goal

pub returns : goal.returns
returns c = trimmed_fits
