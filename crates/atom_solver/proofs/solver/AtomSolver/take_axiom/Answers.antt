use Rattle.std.proofs.Common.{length, sym, ◌∙◌}
use Rattle.atom_solver.specs.Inner.{state_of}
use Rattle.atom_solver.specs.Lifted.{lifted_at}
use Rattle.atom_solver.proofs.Giving.{axiom_guarded}
use Rattle.atom_solver.proofs.Listing.{length-listed}
use Rattle.atom_solver.proofs.solver.AtomSolver.take_axiom.Goals as goal

pub returns-clause-full : goal.returns-clause-full
returns-clause-full c =
    let p = c.self.inside.parts in
    let long = length-listed (lifted_at p.table p.solver p.origins.items) (length p.solver.log.steps) in
    rw (← c.self.view_is)
    (λ e. long ∙ c.take_axiom.ensures.full.0 e, λ e. c.take_axiom.ensures.full.1 (sym long ∙ e))

pub returns-clause-log : goal.returns-clause-log
returns-clause-log c = λ f is. rw (← c.self.view_is)
    (axiom_guarded c.take_axiom.result c.args.name (state_of c.self.inside.parts) (state_of c.take_axiom.new.self) f
    c.take_axiom.ensures.ok c.take_axiom.ensures.err is)
