use Rattle.std.proofs.Common.{arith}
use Rattle.lrat_writing.proofs.PieceLemmas.{part_written}
use Rattle.lrat_writing.proofs.steps.push_hints.Goals as goal

pub loop-from-preserved : goal.loop-from-preserved
loop-from-preserved c = record {
  within = omega arith;
  written =
      part_written _ c.args.hints.now c.loop-from.from _ c.args.text.now.items c.loop-from.text.items _
      (omega arith) c.loop-from.invariant.written c.in_ok-push_few_hints.ensures;
}
