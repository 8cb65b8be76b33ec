use Rattle.std.proofs.lemmas.Result.{IfErr-weaker}
use Rattle.af_format.proofs.FirstFaults.{bad_header_told}
use Rattle.af_format.proofs.read.read_count.Goals as goal

pub returns-clause-fault : goal.returns-clause-fault
returns-clause-fault c = IfErr-weaker c.read_header.result _ _
    (λ fault bad. bad_header_told c.args.bytes.now fault.line fault.cause
    (rw (← c.as_bytes.ensures.value, ← c.as_bytes-2.ensures.value) bad)) c.read_header.ensures.fault
