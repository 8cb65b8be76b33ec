use Rattle.edit_rules.proofs.AbaOutcomes.{aba_done, aba_refused}
use Rattle.edit_rules.proofs.edits.apply.Goals as goal

pub returns-in-Aba-clause-done : goal.returns-in-Aba-clause-done
returns-in-Aba-clause-done c =
    aba_done c.args.framework.now c.in-Aba.plain c.apply_aba.new.plain c.args.edit.now c.apply_aba.result c.in-Aba.is
    c.apply_aba.ensures.done

pub returns-in-Aba-clause-fault : goal.returns-in-Aba-clause-fault
returns-in-Aba-clause-fault c =
    aba_refused c.args.framework.now c.in-Aba.plain c.args.edit.now c.apply_aba.result c.in-Aba.is
    c.apply_aba.ensures.fault
