use Rattle.answer_claims.proofs.claims.free_claim.Goals as goal

pub returns : goal.returns
returns c = λ f. rw (c.in_ok-fixed.ensures, c.of_mode.ensures, c.in_ok-ranged.ensures.same, c.new-sides.ensures) at
    (c.range_goals-claim.ensures f)
