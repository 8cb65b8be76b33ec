use Rattle.std.proofs.Common.{◌≤◌, length}
use Rattle.std.specs.Prelude.{None}
use Rattle.cegar_preferred.specs.Largest.{MadeOutside}
use Rattle.enumerate_block.specs.Preferred.{AreFound}
use Rattle.enumerate_block.proofs.PreferredLemmas.{open_sets}
use Rattle.goal_lists.specs.Runs.{Ran}
use Rattle.enumerate_block.proofs.preferred.all_preferred.Given as goal

abbrev pub invariant-loop-found : goal.invariant-loop-found
invariant-loop-found g l = record {
  found : AreFound (g.O.Oracle.framework l.fn.oracle) (g.O.Oracle.log l.oracle) l.found;
  room : length l.found.sets.items ≤ l.limit;
  ran : Ran g.O.Oracle MadeOutside (length l.found.asks) l.fn.oracle l.oracle l.fn.budget l.budget None;
}

abbrev pub decreases-loop-found : goal.decreases-loop-found
decreases-loop-found g l = open_sets (g.O.Oracle.framework l.fn.oracle) l.found.sets.items
