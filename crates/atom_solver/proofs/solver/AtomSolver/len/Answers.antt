use Rattle.std.proofs.Common.{length, sym, ◌∙◌, ap, arith}
use Rattle.hinted_log.specs.Logs.{LogState}
use Rattle.atom_solver.specs.Lifted.{lifted_at}
use Rattle.atom_solver.proofs.Listing.{length-listed}
use Rattle.atom_solver.proofs.Using.{uses_axioms}
use Rattle.atom_solver.proofs.solver.AtomSolver.len.Goals as goal

pub returns-clause-len : goal.returns-clause-len
returns-clause-len c =
    let p = c.self.inside.parts in
    rw (← c.self.view_is) (c.len.ensures.steps ∙ (ap (λ (g : LogState). length g.steps) c.log.ensures.log
    ∙ sym (length-listed (lifted_at p.table p.solver p.origins.items) (length p.solver.log.steps))))

pub returns-clause-within : goal.returns-clause-within
returns-clause-within c =
    let p = c.self.inside.parts in
    let within = c.log.ensures.form.log_form.within in
    rw (← c.self.view_is)
    (omega (arith, length-listed (lifted_at p.table p.solver p.origins.items) (length p.solver.log.steps)))

pub returns-clause-small : goal.returns-clause-small
returns-clause-small c = rw (← c.self.view_is) c.log.ensures.form.log_form.small

pub returns-clause-axioms : goal.returns-clause-axioms
returns-clause-axioms c =
    let p = c.self.inside.parts in
    rw (← c.self.view_is)
    (uses_axioms p.table p.solver p.origins.items p.sides.kept c.self.invariant)
