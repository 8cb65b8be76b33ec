use Rattle.std.proofs.Common.{refl}
use Rattle.edit_rules.specs.Kinds.{framework_of}
use Rattle.answer_claims.proofs.ClaimLemmas.{one_is}
use Rattle.answer_claims.proofs.claims.widest_claims.Goals as goal

pub returns : goal.returns
returns c =
    one_is _ _ _ _ _ c.in_ok-list.ensures (rw (
      c.in_ok-fixed.ensures,
      c.of_mode.ensures,
      c.in_ok-ranged.ensures.same,
      c.in_ok-sides.ensures,
    ) refl)
    (c.range_goals-claim.ensures (framework_of c.args.framework.now))
