use Rattle.std.proofs.Common.{◌∙◌, ap}
use Rattle.argue_outside.proofs.OutsideLemmas.{HoldsFirst-next}
use Rattle.argue_outside.proofs.whole.read_chunks.Goals as goal

pub loop-role-preserved : goal.loop-role-preserved
loop-role-preserved g c = record {
  first = HoldsFirst-next _ _ _ _ _ _ _ (ap (λ h. h c.args.name.now) c.loop-role.invariant.same)
      c.len-in-loop-role.ensures c.in_ok-extend.ensures.ok
      c.in_ok-count.ensures.bound c.loop-role.invariant.first c.in_ok-count.ensures.bytes;
  same = c.in_ok-count.ensures.same ∙ c.loop-role.invariant.same;
  serving = λ name known. c.in_ok-count.ensures.serving name (c.loop-role.invariant.serving name known);
  accepting = λ name known. c.in_ok-count.ensures.accepting name (c.loop-role.invariant.accepting name known);
  refusing = λ name known. c.loop-role.invariant.refusing name (c.in_ok-count.ensures.refusing name known);
  quiet = c.in_ok-count.ensures.quiet ∙ c.loop-role.invariant.quiet;
  writes = c.in_ok-count.ensures.writes ∙ c.loop-role.invariant.writes;
}
