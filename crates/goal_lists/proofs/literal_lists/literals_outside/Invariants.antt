use Rattle.std.proofs.Common.{◌≡◌, not, map, filter, take}
use Rattle.certificate_claims.specs.SetLiterals.{has}
use Rattle.certificate_claims.specs.Words.{literal_of}
use Rattle.goal_lists.proofs.literal_lists.literals_outside.Given as goal

abbrev pub invariant-loop-number : goal.invariant-loop-number
invariant-loop-number l = l.clause.items ≡ map (literal_of l.word)
    (filter (λ x. not (has l.set x)) (take l.number-index l.numbers))
