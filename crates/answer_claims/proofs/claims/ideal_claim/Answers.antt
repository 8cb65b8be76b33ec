use Rattle.std.proofs.Common.{refl, sym, subst}
use Rattle.answer_claims.specs.SetFacts.{IsHitBy}
use Rattle.answer_claims.proofs.ClaimLemmas.{hit_claim}
use Rattle.answer_claims.proofs.claims.ideal_claim.Goals as goal

pub returns : goal.returns
returns c = λ f others hit.
    hit_claim f _ _ others (subst (λ s. IsHitBy f others s) (sym c.hit.view_is) hit) c.new.ensures
    (rw (c.in_ok-one.ensures, c.yes.ensures, c.in_ok-copy.ensures.same) refl) (rw c.in_ok-one_set.ensures refl)
