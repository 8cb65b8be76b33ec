use Rattle.std.proofs.Common.{◌<◌, ◌≤◌, ◌∙◌, ap, subst, sym, Err}
use Rattle.std.specs.Prelude.{Contains}
use Rattle.plain_lits.specs.declared.halt.Halt.TheVariants.{Memory}
use Rattle.edit_rules.specs.Kinds.{framework_of}
use Rattle.framework_solver.proofs.KindLemmas.{needed_name}
use Rattle.framework_solver.proofs.Forcing.{gains_halted, listed_none, listed_plain, taken_all, taken_halted}
use Rattle.framework_solver.proofs.Forcing.{waiting_is, waiting_there}
use Rattle.framework_solver.proofs.Joining.{halted_any, then_memory}
use Rattle.framework_solver.proofs.solver.FrameworkSolver.add_all.Goals as goal

pub loop-self-init : goal.loop-self-init
loop-self-init c = listed_none c.args.self.now c.requires.whole c.requires.is_listed c.requires.once c.requires.empty

pub returns-in_err-name-clause-run : goal.returns-in_err-name-clause-run
returns-in_err-name-clause-run c = λ units.
    let first = c.args.self.now in
    let p = c.loop-self.self in
    let f = framework_of first.framework in
    halted_any f first.solver.log p.solver.log p.solver.pending units units c.from_residual.result Memory
    c.from_residual.ensures
    (then_memory f first.solver.log p.solver.log p.solver.pending units units (c.loop-self.invariant.taken.run units))

pub take_axiom-requires : goal.take_axiom-requires
take_axiom-requires c =
    let p = c.loop-self.self in
    let name = c.index-as_slice-self.result in
    let lt = subst (λ n. p.taken < n) c.len.ensures c.loop-self-test.true in
    let whole = c.loop-self.invariant.taken.whole in
    let same = c.in_ok-name.ensures ∙ c.index-as_slice-self.is in
    needed_name (framework_of p.framework) whole.numbered c.in_ok-name.name (whole.axioms c.in_ok-name.name
    (subst (λ n. Contains p.needed n) (sym same) (waiting_there p c.as_slice.result.now name c.as_slice.ensures lt)))

pub returns-in_err-take_axiom-clause-run : goal.returns-in_err-take_axiom-clause-run
returns-in_err-take_axiom-clause-run c = λ units.
    halted_any _ _ _ _ units units c.from_residual-in_err-take_axiom.result c.in_err-take_axiom.field-0.0
    c.from_residual-in_err-take_axiom.ensures
    (taken_halted c.args.self.now c.loop-self.self c.take_axiom.new.self c.in_err-take_axiom.field-0.0
    c.loop-self.invariant.taken c.in_err-take_axiom.ensures.err (λ e. c.in_err-take_axiom.ensures.full.0 (ap Err e))
    (λ count e. c.in_err-take_axiom.ensures.unspent count (ap Err e)) units)

pub returns-in_err-take_axiom-clause-gains : goal.returns-in_err-take_axiom-clause-gains
returns-in_err-take_axiom-clause-gains c =
    gains_halted c.args.self.now c.loop-self.self c.take_axiom.new.self c.loop-self.invariant.taken
    c.in_err-take_axiom.ensures.err

pub loop-self-preserved : goal.loop-self-preserved
loop-self-preserved c =
    let p = c.loop-self.self in
    let name = c.index-as_slice-self.result in
    let lt = subst (λ n. p.taken < n) c.len.ensures c.loop-self-test.true in
    let same = c.in_ok-name.ensures ∙ c.index-as_slice-self.is in
    listed_plain c.args.self.now p c.take_axiom.new.self _ _ c.loop-self.invariant lt
    (same ∙ waiting_is p c.as_slice.result.now name c.as_slice.ensures)
    (subst (λ n. Contains p.needed n) (sym same) (waiting_there p c.as_slice.result.now name c.as_slice.ensures lt))
    c.in_ok-take_axiom.ensures.ok c.in_ok-take_axiom.ensures.log

pub returns-clause-in_force : goal.returns-clause-in_force
returns-clause-in_force c =
    let p = c.loop-self.self in
    taken_all c.args.self.now p c.loop-self.invariant.taken
    (subst (λ n. n ≤ p.taken) c.len.ensures c.loop-self-test.false)
