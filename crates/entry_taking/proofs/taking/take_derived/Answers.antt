use Rattle.std.proofs.Common.{subst}
use Rattle.atom_solver.specs.Imported.{IsImported}
use Rattle.entry_taking.specs.Taking.{AreFound}
use Rattle.entry_taking.proofs.Joining.{import_came, import_went}
use Rattle.entry_taking.proofs.Stepping.{import_step}
use Rattle.entry_taking.proofs.taking.take_derived.Goals as goal

pub returns-clause-goes : goal.returns-clause-goes
returns-clause-goes c = λ assumption_based.
    let old = c.args.solver.now in
    let entry = c.args.entry.now in
    import_went c.args.own entry c.args.hints.now c.requires.origin c.in-Some.steps old c.import.new.self
    (subst (AreFound c.args.own old.log.steps c.args.hints.now) c.in-Some.is c.in_ok-steps.ensures)
    assumption_based c.in_ok-import.field-0 c.requires.shareable
    (subst (λ literals. IsImported literals c.in-Some.steps entry.name old c.import.new.self c.in_ok-import.field-0)
    c.as_slice.ensures c.in_ok-import.ensures.imported)

pub returns-clause-comes : goal.returns-clause-comes
returns-clause-comes c = λ f.
    let old = c.args.solver.now in
    let entry = c.args.entry.now in
    import_came c.args.own entry c.args.hints.now c.requires.origin c.in-Some.steps old c.import.new.self
    (subst (AreFound c.args.own old.log.steps c.args.hints.now) c.in-Some.is c.in_ok-steps.ensures)
    c.in_ok-import.field-0 f
    (subst (λ literals. IsImported literals c.in-Some.steps entry.name old c.import.new.self c.in_ok-import.field-0)
    c.as_slice.ensures c.in_ok-import.ensures.imported)

pub returns-clause-steps : goal.returns-clause-steps
returns-clause-steps c = λ f given there unknown.
    let old = c.args.solver.now in
    let entry = c.args.entry.now in
    import_step c.args.own entry c.args.hints.now c.requires.origin c.in-Some.steps c.args.names.now old
    c.import.new.self
    (subst (AreFound c.args.own old.log.steps c.args.hints.now) c.in-Some.is c.in_ok-steps.ensures)
    c.requires.shareable c.requires.looked unknown c.in_ok-import.field-0 f given there
    (subst (λ literals. IsImported literals c.in-Some.steps entry.name old c.import.new.self c.in_ok-import.field-0)
    c.as_slice.ensures c.in_ok-import.ensures.imported)
