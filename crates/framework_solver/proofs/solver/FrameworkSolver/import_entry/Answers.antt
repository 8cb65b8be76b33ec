use Rattle.std.proofs.Common.{arith, sym}
use Rattle.plain_lits.specs.Units.{Units}
use Rattle.edit_rules.specs.Kinds.{framework_of}
use Rattle.framework_solver.proofs.Forcing.{whole_named}
use Rattle.framework_solver.proofs.ImportLemmas.{comes_at}
use Rattle.framework_solver.proofs.GoingOn.{entry_goes_on}
use Rattle.framework_solver.proofs.solver.FrameworkSolver.import_entry.Goals as goal

abbrev no_units : Units
no_units = record { limit = 0; used = 0 }

pub returns-clause-whole : goal.returns-clause-whole
returns-clause-whole c =
    let p = c.args.self.now in
    whole_named p c.import_entry.new.solver c.import_entry.new.names c.requires.whole
    (c.import_entry.ensures.goes.log (framework_of p.framework) (sym c.is_aba-assumption_based.ensures)
    c.requires.whole.guarded) c.import_entry.ensures.goes.grows
    c.import_entry.ensures.named

pub returns-clause-run : goal.returns-clause-run
returns-clause-run c = λ units.
    let p = c.args.self.now in
    c.import_entry.ensures.goes.run (framework_of p.framework) units c.requires.whole.guarded

pub returns-clause-comes : goal.returns-clause-comes
returns-clause-comes c =
    let p = c.args.self.now in
    comes_at c.import_entry.result c.is_aba-assumption_based.result (framework_of p.framework) c.args.own
    c.args.entry.now
    p.solver.log c.import_entry.new.solver.log (sym c.is_aba-assumption_based.ensures) c.import_entry.ensures.comes

pub returns-clause-steps : goal.returns-clause-steps
returns-clause-steps c = λ given there.
    let p = c.args.self.now in
    let f = framework_of p.framework in
    let counted = (c.import_entry.ensures.goes.run f no_units c.requires.whole.guarded).works.counted in
    entry_goes_on f c.args.own given p.solver.log c.import_entry.new.solver.log (omega (arith, counted))
    (c.import_entry.ensures.steps f given (sym c.is_aba-assumption_based.ensures) there)
