use Rattle.std.proofs.Common.{refl}
use Rattle.framework_text.proofs.Readings.{af_told}
use Rattle.framework_text.proofs.read.read_framework.Goals as goal

pub returns-in-Err-clause-fault : goal.returns-in-Err-clause-fault
returns-in-Err-clause-fault c =
    af_told c.args.bytes.now c.in-Err.fault (c.in-Af.ensures.af refl) c.in-Err.ensures.fault
