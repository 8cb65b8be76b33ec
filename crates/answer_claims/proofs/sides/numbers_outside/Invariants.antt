use Rattle.std.proofs.Common.{◌≡◌, not, filter, take}
use Rattle.certificate_claims.specs.SetLiterals.{has}
use Rattle.answer_claims.proofs.sides.numbers_outside.Given as goal

abbrev pub invariant-loop-number : goal.invariant-loop-number
invariant-loop-number l = l.found.items ≡ filter (λ x. not (has l.set x)) (take l.number-index l.numbers)
