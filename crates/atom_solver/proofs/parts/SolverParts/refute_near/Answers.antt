use Rattle.std.proofs.Common.{sym, subst}
use Rattle.session_log.specs.Steps.{nothing}
use Rattle.atom_solver.specs.Inner.{state_of}
use Rattle.atom_solver.specs.Searches.{HasLooked}
use Rattle.atom_solver.specs.States.{AtomState, IsGuardedLog}
use Rattle.atom_solver.proofs.Assuming.{assumed_plain}
use Rattle.atom_solver.proofs.Nearby.{looked_refused}
use Rattle.atom_solver.proofs.parts.SolverParts.refute_near.Goals as goal

pub returns-then-is_empty-clause-learns : goal.returns-then-is_empty-clause-learns
returns-then-is_empty-clause-learns g c = nothing _

pub returns-in_err-assume_near-clause-run : goal.returns-in_err-assume_near-clause-run
returns-in_err-assume_near-clause-run g c = λ f units.
    subst (λ (s : AtomState). HasLooked f (state_of c.args.self.now).log s.log c.assume_near.new.self.pending units
    c.from_residual-in_err-assume_near.result) (sym c.assume_near.ensures.state)
    (looked_refused f (state_of c.args.self.now).log c.assume_near.new.self.pending units
    c.from_residual-in_err-assume_near.result c.from_residual-in_err-assume_near.ensures.0)

pub refute_assumed-requires-clause-plain : goal.refute_assumed-requires-clause-plain
refute_assumed-requires-clause-plain g c =
    assumed_plain (g.E.Encoding.framework c.args.plain.now) c.assume_near.new.self.table c.args.goals.now
    c.assume_near.new.self.assumed.items c.requires.unfixed c.requires.plain c.in_ok-assume_near.ensures.ok

pub returns-clause-run : goal.returns-clause-run
returns-clause-run g c = λ f units.
    subst (λ (s : AtomState). HasLooked f s.log (state_of c.refute_assumed.new.self).log
    c.refute_assumed.new.self.pending units c.refute_assumed.result) c.assume_near.ensures.state
    (c.refute_assumed.ensures.run f units)

pub returns-clause-log : goal.returns-clause-log
returns-clause-log g c = λ f guarded.
    c.refute_assumed.ensures.log f
    (subst (λ (s : AtomState). IsGuardedLog f s.log) (sym c.assume_near.ensures.state) guarded)
