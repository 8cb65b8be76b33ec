use Rattle.std.proofs.Common.{◌∙◌, ap, sym, subst}
use Rattle.std.specs.Prelude.{Ok}
use Rattle.atom_solver.specs.States.{AtomState, IsGuardedLog}
use Rattle.atom_solver.proofs.Assuming.{assumed_plain}
use Rattle.atom_solver.proofs.parts.SolverParts.search.Goals as goal

pub returns-in-Ok-Some-clause-run : goal.returns-in-Ok-Some-clause-run
returns-in-Ok-Some-clause-run g c =
    c.in-Ok-Some.ensures.run (g.E.Encoding.framework c.args.plain.now) c.args.budget.now

pub search_assumed-requires-clause-plain : goal.search_assumed-requires-clause-plain
search_assumed-requires-clause-plain g c =
    assumed_plain (g.E.Encoding.framework c.args.plain.now) c.assume.new.self.table c.args.goals.now
    c.assume.new.self.assumed.items c.requires.unfixed c.requires.plain
    (record { only = c.in_ok-assume-in-Ok-None.ensures.ok.only })

pub returns-in_ok-assume-in-Ok-None-clause-log : goal.returns-in_ok-assume-in-Ok-None-clause-log
returns-in_ok-assume-in-Ok-None-clause-log g c = λ f guarded.
    let same = c.assume.ensures.state ∙ c.in-Ok-None.ensures.none (ap Ok c.in-Ok-None.field-0-is) in
    c.search_assumed.ensures.log f (subst (λ (s : AtomState). IsGuardedLog f s.log) (sym same) guarded)

pub returns-in-Err-clause-run : goal.returns-in-Err-clause-run
returns-in-Err-clause-run g c =
    c.in-Err.ensures.run (g.E.Encoding.framework c.args.plain.now) c.args.budget.now 0
