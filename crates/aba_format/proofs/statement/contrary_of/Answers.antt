use Rattle.aba_format.proofs.FormCauses.{bad_contrary, head_member, next_member}
use Rattle.aba_format.proofs.statement.contrary_of.Goals as goal

pub returns-in_default-clause-err : goal.returns-in_default-clause-err
returns-in_default-clause-err c = bad_contrary _ _ _ _ _ _ c.in_ok-first.ensures.ok
    (head_member _ _ _ c.in_ok-first.ensures.ok) c.in_ok-first.ensures.first c.in_default.not-Some

pub returns-in_default-number-clause-err : goal.returns-in_default-number-clause-err
returns-in_default-number-clause-err c = bad_contrary _ _ _ _ _ _ c.in_ok-first.ensures.ok
    (next_member _ _ _ _ c.in_ok-first.ensures.ok) c.in_ok-first.ensures.second c.in_default-number.not-Some
