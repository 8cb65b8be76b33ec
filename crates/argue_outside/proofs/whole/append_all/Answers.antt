use Rattle.std.proofs.Common.{◌∙◌}
use Rattle.argue_outside.proofs.OutsideLemmas.{stays_within, Adds-more}
use Rattle.argue_outside.proofs.whole.append_all.Goals as goal

pub loop-taken-preserved : goal.loop-taken-preserved
loop-taken-preserved g c = record {
  within = stays_within _ _ _ c.loop-taken.invariant.within c.in_ok-taken.ensures.bound;
  part = Adds-more _ _ _ _ _ _ c.loop-taken.invariant.part c.in_ok-taken.ensures.added;
  others = λ other apart. c.in_ok-taken.ensures.others other apart ∙ c.loop-taken.invariant.others other apart;
  serving = λ name known. c.in_ok-taken.ensures.serving name (c.loop-taken.invariant.serving name known);
  accepting = λ name known. c.in_ok-taken.ensures.accepting name (c.loop-taken.invariant.accepting name known);
  refusing = λ name known. c.loop-taken.invariant.refusing name (c.in_ok-taken.ensures.refusing name known);
  quiet = c.in_ok-taken.ensures.quiet ∙ c.loop-taken.invariant.quiet;
  reads = c.in_ok-taken.ensures.reads ∙ c.loop-taken.invariant.reads;
}
