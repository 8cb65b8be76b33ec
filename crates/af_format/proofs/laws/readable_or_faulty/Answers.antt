use Rattle.std.proofs.lemmas.Result.{IfOk-weaker, IfErr-weaker}
use Rattle.af_format.proofs.Reading.{bad_line_told}
use Rattle.af_format.proofs.Readings.{readable_from}
use Rattle.af_format.proofs.laws.readable_or_faulty.Goals as goal

pub returns-clause-readable : goal.returns-clause-readable
returns-clause-readable c = IfOk-weaker c.attacks_or_fault.result _ _
    (λ u are. readable_from c.args.bytes.now c.in_ok-count.count c.read_count.new.left c.in_ok-count.ensures.ok are)
    c.attacks_or_fault.ensures.ok

pub returns-clause-faulty : goal.returns-clause-faulty
returns-clause-faulty c = IfErr-weaker c.attacks_or_fault.result _ _
    (λ fault bad. bad_line_told c.args.bytes.now c.in_ok-count.count c.read_count.new.left fault.line fault.cause
    c.in_ok-count.ensures.ok bad) c.attacks_or_fault.ensures.fault
