use Rattle.std.proofs.Common.{◌≡◌, take}
use Rattle.answer_claims.proofs.claims.same_literals.Given as goal

abbrev pub invariant-loop-literal : goal.invariant-loop-literal
invariant-loop-literal l = l.list ≡ take l.literal-index l.literals
