use Rattle.std.proofs.Common.{subst, []}
use Rattle.plain_lits.specs.declared.halt.Halt.TheVariants.{Memory}
use Rattle.edit_rules.specs.Kinds.{framework_of}
use Rattle.framework_solver.specs.Readings.{IsReadAs, IsReading}
use Rattle.framework_solver.specs.Stepping.{EndsInHand}
use Rattle.framework_solver.specs.SteppingLaws.{goes_on_none}
use Rattle.framework_solver.proofs.Finding.{makes_true, model_of, tells_members}
use Rattle.framework_solver.proofs.GoingOn.{handed_on}
use Rattle.framework_solver.proofs.solver.FrameworkSolver.read.Goals as goal

pub take_loop-requires-clause-lacks : goal.take_loop-requires-clause-lacks
take_loop-requires-clause-lacks c =
    let p = c.args.self.now in
    let f = framework_of p.framework in
    let goals = c.args.goals.now in
    let values = c.args.values.now in
    subst (IsReading f values) c.in-Lacks.is c.in_ok-set.ensures
    (model_of f p.solver.log goals values c.requires.in_force c.requires.model)
    (tells_members f p.solver.log goals values c.requires.in_force c.requires.goals c.requires.model)

pub returns-in-Set-clause-turn : goal.returns-in-Set-clause-turn
returns-in-Set-clause-turn c =
    let p = c.args.self.now in
    let f = framework_of p.framework in
    let goals = c.args.goals.now in
    let values = c.args.values.now in
    let read : IsReadAs f values c.in-Set.set = subst (IsReading f values) c.in-Set.is c.in_ok-set.ensures in
    makes_true f p.solver.log goals values c.in-Set.set c.requires.whole.guarded c.requires.goals c.requires.model
    (read.back (model_of f p.solver.log goals values c.requires.in_force c.requires.model))

pub returns-in_err-set-clause-steps : goal.returns-in_err-set-clause-steps
returns-in_err-set-clause-steps c = λ own.
    let p = c.args.self.now in goes_on_none (framework_of p.framework) own [] p.solver.log

pub returns-in_err-set-clause-in_hand : goal.returns-in_err-set-clause-in_hand
returns-in_err-set-clause-in_hand c =
    let p = c.args.self.now in
    handed_on (λ halt. EndsInHand halt p.solver.log p.solver.pending) c.from_residual.result Memory
    c.from_residual.ensures tt

pub returns-in-Set-clause-steps : goal.returns-in-Set-clause-steps
returns-in-Set-clause-steps c = λ own.
    let p = c.args.self.now in goes_on_none (framework_of p.framework) own [] p.solver.log
