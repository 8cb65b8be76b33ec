use Rattle.certificate_making.proofs.TrimmedLemmas.{trimmed_refutes}
use Rattle.certificate_making.proofs.laws.trimmed_steps_refute.Goals as goal

pub returns : goal.returns
returns c = trimmed_refutes
