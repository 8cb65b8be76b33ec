use Rattle.std.proofs.Common.{◌≤◌, length}
use Rattle.std.specs.Prelude.{None}
use Rattle.lists.specs.Members.{IsWithin}
use Rattle.ideal_set.specs.Ideals.{AreAttackers, IsFree, MadeForIdeal, unhit}
use Rattle.goal_lists.specs.Runs.{Ran}
use Rattle.ideal_set.proofs.attackers.prune.Given as goal

abbrev pub invariant-loop-part : goal.invariant-loop-part
invariant-loop-part g l = record {
  searched : AreAttackers (g.O.Oracle.framework l.fn.oracle) (g.O.Oracle.log l.oracle) l.found;
  free : IsFree (g.O.Oracle.framework l.fn.oracle) l.found.hit l.part;
  more : length l.fn.found.sets ≤ length l.found.sets;
  hit : IsWithin l.fn.found.hit l.found.hit;
  ran : Ran g.O.Oracle MadeForIdeal 0 l.fn.oracle l.oracle l.fn.budget l.budget None;
}

abbrev pub decreases-loop-part : goal.decreases-loop-part
decreases-loop-part g l = unhit (g.O.Oracle.framework l.fn.oracle) l.found.hit
