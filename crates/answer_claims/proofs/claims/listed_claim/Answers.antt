use Rattle.answer_claims.proofs.claims.listed_claim.Goals as goal

pub returns : goal.returns
returns c = λ f all own.
    rw (
      c.in_ok-fixed.ensures,
      c.of_mode.ensures,
      c.in_ok-ranged.ensures.same,
      c.in_ok-sides.ensures.kept f
          c.args.set.now all own,
    ) at (c.range_goals-claim.ensures f)
