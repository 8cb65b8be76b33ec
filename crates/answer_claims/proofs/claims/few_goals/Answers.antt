use Rattle.std.proofs.Common.{refl}
use Rattle.answer_claims.proofs.ClaimLemmas.{few_claim}
use Rattle.answer_claims.proofs.claims.few_goals.Goals as goal

pub returns : goal.returns
returns c = λ f. few_claim f _ _ c.new.ensures c.new-2.ensures c.new-3.ensures refl refl
