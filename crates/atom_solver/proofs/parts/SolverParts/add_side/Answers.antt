use Rattle.std.proofs.Common.{length, ◌∙◌, refl}
use Rattle.atom_solver.specs.Lifted.{lifted_at}
use Rattle.atom_solver.proofs.Listing.{length-listed}
use Rattle.atom_solver.proofs.parts.SolverParts.add_side.Goals as goal

pub returns-then-is_full-clause-stops : goal.returns-then-is_full-clause-stops
returns-then-is_full-clause-stops c =
    let p = c.args.self.now in
    let full = rw c.log.ensures.log at c.is_full.ensures.full in
    record {
      full = length-listed (lifted_at p.table p.solver p.origins.items) (length p.solver.log.steps)
          ∙ full.0 c.if-is_full.true;
      unspent = refl;
    }
