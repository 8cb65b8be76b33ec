use Rattle.std.proofs.Common.{not, length, filter}
use Rattle.std.specs.Prelude.{None}
use Rattle.certificate_claims.specs.SetLiterals.{has, members}
use Rattle.ideal_set.specs.Ideals.{IsFree, MadeForIdeal}
use Rattle.goal_lists.specs.Runs.{Ran}
use Rattle.ideal_set.proofs.free.largest_free.Given as goal

abbrev pub invariant-loop-grown : goal.invariant-loop-grown
invariant-loop-grown g l = record {
  free : IsFree (g.O.Oracle.framework l.fn.oracle) l.hit l.grown;
  ran : Ran g.O.Oracle MadeForIdeal 0 l.fn.oracle l.oracle l.fn.budget l.budget None;
}

abbrev pub decreases-loop-grown : goal.decreases-loop-grown
decreases-loop-grown g l =
    length (filter (λ x. not (has l.grown x)) (members (g.O.Oracle.framework l.fn.oracle)))
