use Rattle.std.proofs.Common.{◌*◌, ◌≤◌, length}
use Rattle.std.specs.Prelude.{None}
use Rattle.enumerate_block.specs.Ranges.{AreFound, MadeForRanges}
use Rattle.enumerate_block.proofs.FoundRanges.{open_ranges}
use Rattle.goal_lists.specs.Runs.{Ran}
use Rattle.enumerate_block.proofs.ranges.all_widest.Given as goal

abbrev pub invariant-loop-found : goal.invariant-loop-found
invariant-loop-found g l = record {
  found : AreFound (g.O.Oracle.framework l.fn.oracle) (g.O.Oracle.log l.oracle) l.mode l.found;
  room : length l.found.sets.items ≤ l.limit;
  ran : Ran g.O.Oracle (λ f. MadeForRanges f l.mode) (2 * length l.found.asks) l.fn.oracle l.oracle l.fn.budget
      l.budget None;
}

abbrev pub decreases-loop-found : goal.decreases-loop-found
decreases-loop-found g l = open_ranges (g.O.Oracle.framework l.fn.oracle) l.found.sets.items
