use Rattle.std.proofs.Common.{refl}
use Rattle.refutation_logs.proofs.Standing.{appeared_next, spelled_next, spelled_none}
use Rattle.refutation_logs.proofs.numbering.spell.Goals as goal

pub loop-literal-init : goal.loop-literal-init
loop-literal-init c = record { spelled = spelled_none _ _ c.clear.ensures.items; appearance = refl }

pub loop-literal-preserved : goal.loop-literal-preserved
loop-literal-preserved c = record {
  spelled = spelled_next _ _ _ _ _ _ _ _ c.loop-literal-test.true c.loop-literal.invariant.spelled
      c.in_ok-var.ensures.ok c.in_ok-push.ensures.items;
  appearance = appeared_next _ _ _ _ _ _ _ c.loop-literal-test.true c.loop-literal.invariant.appearance
      c.in_ok-var.ensures.ok;
}
