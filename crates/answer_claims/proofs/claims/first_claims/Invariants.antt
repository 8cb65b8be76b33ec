use Rattle.answer_claims.proofs.ClaimLemmas.{FirstClaims}
use Rattle.answer_claims.proofs.claims.first_claims.Given as goal

abbrev pub invariant-loop-index : goal.invariant-loop-index
invariant-loop-index l = FirstClaims l.mode l.all l.ranges l.first l.index l.list
