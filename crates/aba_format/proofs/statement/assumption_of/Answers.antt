use Rattle.aba_format.proofs.FormCauses.{bad_number, a_not_p, a_form, head_member, no_number_at}
use Rattle.aba_format.proofs.statement.assumption_of.Goals as goal

pub returns-in_default-clause-err : goal.returns-in_default-clause-err
returns-in_default-clause-err c = bad_number _ _ (a_not_p _) (a_form _ _ c.in_ok-field.ensures.ok)
    (no_number_at _ _ _ (head_member _ _ _ c.in_ok-field.ensures.ok) c.in_ok-field.ensures.number
    c.in_default.not-Some)
