use Rattle.std.specs.Prelude.{None}
use Rattle.meaning_atoms.specs.Worlds.{HoldsOf}
use Rattle.certificate_claims.specs.Claims.{mode_atom}
use Rattle.goal_lists.specs.Runs.{Ran}
use Rattle.semi_stable.specs.Widest.{IsRangeIn, MadeWider}
use Rattle.semi_stable.proofs.WidestLemmas.{open_count}
use Rattle.semi_stable.proofs.widest.widest_in.Given as goal

-- the set that has grown so far has the mode and the first set's range, and each look so far found another
abbrev pub invariant-loop-grown : goal.invariant-loop-grown
invariant-loop-grown g l = record {
  ran : Ran g.O.Oracle (λ f. MadeWider f l.mode) 0 l.fn.oracle l.oracle l.fn.budget l.budget None;
  has_mode : HoldsOf (g.O.Oracle.framework l.fn.oracle) l.grown (mode_atom l.mode);
  holds : IsRangeIn (g.O.Oracle.framework l.fn.oracle) l.set l.grown;
}

abbrev pub decreases-loop-grown : goal.decreases-loop-grown
decreases-loop-grown g l = open_count (g.O.Oracle.framework l.fn.oracle) l.grown
