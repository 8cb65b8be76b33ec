use Rattle.std.proofs.Common.{◌*◌, length}
use Rattle.std.specs.Prelude.{None}
use Rattle.enumerate_block.specs.semi_stable.specs.Widest.{MadeWider}
use Rattle.enumerate_block.proofs.FoundRanges.{open_ranges}
use Rattle.enumerate_block.specs.Witnesses.{IsCover}
use Rattle.goal_lists.specs.Runs.{Ran}
use Rattle.enumerate_block.proofs.deciding.decide.Given as goal

abbrev pub invariant-loop-cover : goal.invariant-loop-cover
invariant-loop-cover g l = record {
  cover : IsCover (g.O.Oracle.framework l.fn.oracle) (g.O.Oracle.log l.oracle) l.mode l.goal l.accepted l.cover;
  ran : Ran g.O.Oracle (λ f. MadeWider f l.mode) (2 * length l.cover.asks) l.fn.oracle l.oracle l.fn.budget
      l.budget None;
}

abbrev pub decreases-loop-cover : goal.decreases-loop-cover
decreases-loop-cover g l = open_ranges (g.O.Oracle.framework l.fn.oracle) l.cover.sets
