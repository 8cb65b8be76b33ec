use Rattle.std.proofs.Common.{length}
use Rattle.std.specs.Prelude.{None}
use Rattle.ideal_set.specs.Ideals.{AreAttackers, IsFree, MadeForIdeal, unhit}
use Rattle.goal_lists.specs.Runs.{Ran}
use Rattle.ideal_set.proofs.searching.ideal.Given as goal

-- each turn so far found two more sets at least, and logged two steps at most that only ended a search
abbrev pub invariant-loop-start : goal.invariant-loop-start
invariant-loop-start g l = record {
  searched : AreAttackers (g.O.Oracle.framework l.fn.oracle) (g.O.Oracle.log l.oracle) l.found;
  free : IsFree (g.O.Oracle.framework l.fn.oracle) l.found.hit l.start;
  ran : Ran g.O.Oracle MadeForIdeal (length l.found.sets) l.fn.oracle l.oracle l.fn.budget l.budget None;
}

abbrev pub decreases-loop-start : goal.decreases-loop-start
decreases-loop-start g l = unhit (g.O.Oracle.framework l.fn.oracle) l.found.hit
