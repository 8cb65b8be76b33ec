use Rattle.std.proofs.Common.{subst, ◌∙◌}
use Rattle.std.specs.Prelude.{Contains}
use Rattle.lists.proofs.Fronts.{front_more}
use Rattle.lists.proofs.Membership.{Contains-nil}
use Rattle.plain_lits.specs.Literals.{negation}
use Rattle.refutation_logs.proofs.used.first_open.Goals as goal

pub loop-packed-init : goal.loop-packed-init
loop-packed-init c = record { each = λ l k. absurd (Contains-nil l k) }

pub loop-packed-preserved : goal.loop-packed-preserved
loop-packed-preserved c = record {
  each = front_more (λ l. Contains c.args.trail.now.lits (negation l)) c.args.clause.now c.loop-packed.packed-index
      c.packed-item.result c.loop-packed-test.true c.loop-packed.invariant.each
      (subst (λ l. Contains c.args.trail.now.lits (negation l)) (c.lit-lit.ensures.lit ∙ c.packed-item.is)
      c.if-not-is_false.ensures.low);
}
