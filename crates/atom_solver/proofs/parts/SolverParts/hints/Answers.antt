use Rattle.std.proofs.Common.{refl, get_or, ◌-◌, sym, ◌∙◌}
use Rattle.oracle_face.specs.declared.step_source.StepSource.TheVariants.{Hints}
use Rattle.atom_solver.proofs.Reading.{given_none, given_some, step_named, hints_none, hints_read}
use Rattle.atom_solver.proofs.parts.SolverParts.hints.Goals as goal

pub hints-requires : goal.hints-requires
hints-requires c =
    let p = c.args.self.now in
    rw c.log.ensures.log (step_named p.table p.solver p.origins.items c.args.step c.requires)

pub returns-then-is_given : goal.returns-then-is_given
returns-then-is_given c =
    let p = c.args.self.now in
    let origin = get_or p.origins.items (c.args.step - 1) Hints in
    hints_none p.table p.solver p.origins.items c.args.step origin c.requires refl
    (given_none origin (sym c.is_given.ensures ∙ c.if-is_given.true))

pub returns : goal.returns
returns c =
    let p = c.args.self.now in
    let origin = get_or p.origins.items (c.args.step - 1) Hints in
    hints_read p.table p.solver p.origins.items c.args.step origin c.hints.result.now c.requires refl
    (given_some origin (sym c.is_given.ensures ∙ c.if-is_given.false))
    (rw c.log.ensures.log at c.hints.ensures.hints)
