use Rattle.std.proofs.Common.{◌∙◌}
use Rattle.refutation_logs.proofs.Loggings.{last_row}
use Rattle.refutation_logs.proofs.texts.write_table.Goals as goal

pub returns-clause-texts : goal.returns-clause-texts
returns-clause-texts c = λ logged written is at counted.
    c.in_ok-written.ensures logged written counted
    (c.row-last.ensures ∙ last_row logged c.args.table.now.clauses c.args.index is at)
