use Rattle.std.proofs.Common.{ap, length, ◌∙◌}
use Rattle.refutation_logs.proofs.Counting.{stands_count}
use Rattle.refutation_logs.proofs.counts.different_count.Goals as goal

pub returns-clause-count : goal.returns-clause-count
returns-clause-count c =
    ap length c.as_slice-lits.ensures.value ∙ stands_count c.number.new.atoms c.args.clause.now c.number.new.lits.items
    c.len-vars.ensures.different c.in_ok-number.ensures.stands
