use Rattle.std.proofs.Common.{rules}
use Rattle.aba_format.proofs.FormCauses.{bad_body, bad_head, rule_outside, rule_spelled}
use Rattle.aba_format.proofs.NumberLists.{takes_text}
use Rattle.aba_format.proofs.statement.rule_of.Goals as goal

pub returns-in_err-read_numbers-clause-err : goal.returns-in_err-read_numbers-clause-err
returns-in_err-read_numbers-clause-err c =
    let bad = bad_body c.args.count _ _ _ c.in_err-read_numbers.field-0.0 (takes_text _ _ _ c.in-Some.ensures.some)
    c.in_err-read_numbers.ensures.err in
    search (rules, bad)

pub returns-in_default-number-clause-err : goal.returns-in_default-number-clause-err
returns-in_default-number-clause-err c = bad_head c.args.count _ _ _ _ (takes_text _ _ _ c.in-Some.ensures.some)
    c.in-Some.ensures.number c.in_default-number.not-Some

pub returns-then-not-has_atoms-clause-err : goal.returns-then-not-has_atoms-clause-err
returns-then-not-has_atoms-clause-err c =
    rule_outside c.args.count _ _ _ c.in-Some-number.number _ (takes_text _ _ _ c.in-Some.ensures.some)
    (search rules) c.in_ok-read_numbers.ensures.ok (search rules)

pub returns-clause-ok : goal.returns-clause-ok
returns-clause-ok c =
    rule_spelled c.args.count _ _ _ c.in-Some-number.number _ (takes_text _ _ _ c.in-Some.ensures.some)
    (search rules) c.in_ok-read_numbers.ensures.ok (search rules)
