use Rattle.std.proofs.Common.{refl}
use Rattle.answer_claims.proofs.ClaimLemmas.{range_claim}
use Rattle.answer_claims.proofs.claims.range_goals.Goals as goal

pub returns : goal.returns
returns c = λ f. range_claim f _ _ c.new.ensures c.new-2.ensures refl refl
