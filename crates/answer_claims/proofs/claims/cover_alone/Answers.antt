use Rattle.std.proofs.Common.{refl}
use Rattle.answer_claims.proofs.ClaimLemmas.{one_is}
use Rattle.answer_claims.proofs.claims.cover_alone.Goals as goal

pub returns : goal.returns
returns c = λ f.
    one_is f _ _ _ _ c.in_ok-list.ensures (rw (c.in_ok-fixed.ensures, c.of_mode.ensures, c.in_ok-sides.ensures) refl)
    (c.few_goals-cover.ensures f)
