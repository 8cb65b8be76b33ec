use Rattle.std.proofs.Common.{◌∙◌}
use Rattle.argue_outside.proofs.OutsideLemmas.{stays_within, Appends-more}
use Rattle.argue_outside.proofs.whole.put_all.Goals as goal

pub loop-taken-preserved : goal.loop-taken-preserved
loop-taken-preserved g c = record {
  within = stays_within _ _ _ c.loop-taken.invariant.within c.in_ok-taken.ensures.bound;
  part = Appends-more _ _ _ _ _ _ c.loop-taken.invariant.part c.in_ok-taken.ensures.bytes;
  quiet = c.in_ok-taken.ensures.quiet ∙ c.loop-taken.invariant.quiet;
}
