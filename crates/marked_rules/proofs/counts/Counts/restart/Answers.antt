use Rattle.marked_rules.proofs.OverlaidLemmas.{overlaid_first}
use Rattle.marked_rules.proofs.counts.Counts.restart.Goals as goal

pub returns-clause-first : goal.returns-clause-first
returns-clause-first c = overlaid_first 0 c.args.firsts.now _ _ c.in_ok-clear.ensures
