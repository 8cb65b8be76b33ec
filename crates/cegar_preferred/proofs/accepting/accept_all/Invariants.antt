use Rattle.std.proofs.Common.{length}
use Rattle.std.specs.Prelude.{None}
use Rattle.goal_lists.specs.Runs.{Ran}
use Rattle.cegar_preferred.specs.Covers.{IsCover}
use Rattle.cegar_preferred.specs.Largest.{MadeOutside}
use Rattle.cegar_preferred.proofs.CoverLemmas.{open_sets}
use Rattle.cegar_preferred.proofs.accepting.accept_all.Given as goal

abbrev pub invariant-loop-cover : goal.invariant-loop-cover
invariant-loop-cover g l = record {
  cover : IsCover (g.O.Oracle.framework l.fn.oracle) (g.O.Oracle.log l.oracle) l.goal l.cover;
  ran : Ran g.O.Oracle MadeOutside (length l.cover.asks) l.fn.oracle l.oracle l.fn.budget l.budget None;
}

abbrev pub decreases-loop-cover : goal.decreases-loop-cover
decreases-loop-cover g l = open_sets (g.O.Oracle.framework l.fn.oracle) l.cover.sets
