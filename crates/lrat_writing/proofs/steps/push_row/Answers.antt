use Rattle.std.proofs.Common.{refl}
use Rattle.lrat_writing.proofs.PieceLemmas.{row_written}
use Rattle.lrat_writing.proofs.steps.push_row.Goals as goal

pub loop-index-preserved : goal.loop-index-preserved
loop-index-preserved c =
    row_written c.args.text.now.items c.loop-index.text.items _ c.args.first c.loop-index.index _
    c.loop-index.invariant c.in_ok-push_number.ensures refl
