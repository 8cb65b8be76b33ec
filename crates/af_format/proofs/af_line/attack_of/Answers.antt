use Rattle.af_format.proofs.LineCauses.{bad_number, first_member, none_read, second_member}
use Rattle.af_format.proofs.af_line.attack_of.Goals as goal

pub returns-in_default-clause-err : goal.returns-in_default-clause-err
returns-in_default-clause-err c = bad_number _ _ _ c.in_ok-first.first.text.now c.in_ok-first.second.text.now
    c.in_ok-first.first.text.now
    c.in_ok-first.ensures.ok c.in_ok-first.ensures.not_p (first_member _ _ _ c.in_ok-first.ensures.ok)
    (none_read _ _ c.in_ok-first.ensures.first c.in_default.not-Some)

pub returns-in_default-number-clause-err : goal.returns-in_default-number-clause-err
returns-in_default-number-clause-err c = bad_number _ _ _ c.in_ok-first.first.text.now
    c.in_ok-first.second.text.now c.in_ok-first.second.text.now
    c.in_ok-first.ensures.ok c.in_ok-first.ensures.not_p (second_member _ _ _ c.in_ok-first.ensures.ok)
    (none_read _ _ c.in_ok-first.ensures.second c.in_default-number.not-Some)
