use Rattle.std.proofs.Common.{refl, rules}
use Rattle.aba_format.proofs.FormCauses.{no_number_at}
use Rattle.aba_format.proofs.NumberLists.{left_is_text, numbers_next, takes_text}
use Rattle.aba_format.proofs.statement.read_numbers.Goals as goal

pub returns-in_default-number-clause-err : goal.returns-in_default-number-clause-err
returns-in_default-number-clause-err c = (
  refl,
  no_number_at _ _ _ (left_is_text _ _ _ _ _ c.loop-field.invariant (takes_text _ _ _ c.in-Some.ensures.some))
      c.in-Some.ensures.number c.in_default-number.not-Some,
)

pub loop-field-preserved : goal.loop-field-preserved
loop-field-preserved c =
    rw c.in_ok-push.ensures.items
    (numbers_next _ _ _ _ _ c.in-Some-number.number c.loop-field.invariant
    (takes_text _ _ _ c.in-Some.ensures.some) (search rules))
