use Rattle.std.proofs.Common.{arith}
use Rattle.lrat_writing.specs.Pieces.{literal_piece}
use Rattle.lrat_writing.proofs.PieceLemmas.{part_written}
use Rattle.lrat_writing.proofs.clauses.push_literals.Goals as goal

pub loop-from-preserved : goal.loop-from-preserved
loop-from-preserved c = record {
  within = omega arith;
  written =
      part_written literal_piece c.args.clause.now c.loop-from.from _ c.args.text.now.items c.loop-from.text.items _
      (omega arith) c.loop-from.invariant.written c.in_ok-push_few_literals.ensures;
}
