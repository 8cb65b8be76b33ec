use Rattle.std.proofs.Common.{subst}
use Rattle.std.specs.Prelude.{◌≡◌, length}
use Rattle.hinted_log.proofs.Proofs.{not_so}
use Rattle.sat_core.specs.Solving.{SolverState}
use Rattle.atom_solver.proofs.parts.SolverParts.take_axiom.Goals as goal

pub returns-clause-full : goal.returns-clause-full
returns-clause-full c = (
  λ e. subst (λ (s : SolverState). length s.log.steps ≡ s.log.limit) c.stand_for.ensures.solver
      (c.add_given.ensures.full e),
  λ e. absurd (not_so _ _ (rw c.log.ensures.log at c.is_full.ensures.full) c.if-is_full.false e),
)
