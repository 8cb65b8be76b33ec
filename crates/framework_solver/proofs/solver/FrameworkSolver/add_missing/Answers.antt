use Rattle.std.proofs.Common.{◌<◌, ◌∙◌, ap, subst, sym, Err}
use Rattle.std.specs.Prelude.{Contains}
use Rattle.edit_rules.specs.Kinds.{framework_of}
use Rattle.framework_solver.proofs.KindLemmas.{needed_name}
use Rattle.framework_solver.proofs.Forcing.{gains_halted, taken_halted, taken_more, waiting_is, waiting_there}
use Rattle.framework_solver.proofs.Forcing.{whole_halted}
use Rattle.framework_solver.proofs.Joining.{halted_any}
use Rattle.framework_solver.proofs.solver.FrameworkSolver.add_missing.Goals as goal

pub add_axiom_once-requires-clause-name : goal.add_axiom_once-requires-clause-name
add_axiom_once-requires-clause-name c =
    let p = c.loop-self.self in
    let name = c.index-as_slice-self.result in
    let lt = subst (λ n. p.taken < n) c.len.ensures c.loop-self-test.true in
    let whole = c.loop-self.invariant.whole in
    needed_name (framework_of p.framework) whole.numbered name (whole.axioms name
    (subst (λ n. Contains p.needed n) (sym c.index-as_slice-self.is)
    (waiting_there p c.as_slice.result.now name c.as_slice.ensures lt)))

pub returns-in_err-add_axiom_once-clause-whole : goal.returns-in_err-add_axiom_once-clause-whole
returns-in_err-add_axiom_once-clause-whole c =
    whole_halted c.loop-self.self c.add_axiom_once.new.solver c.add_axiom_once.new.names c.loop-self.invariant.whole
    c.in_err-add_axiom_once.ensures.err c.in_err-add_axiom_once.ensures.named

pub returns-in_err-add_axiom_once-clause-gains : goal.returns-in_err-add_axiom_once-clause-gains
returns-in_err-add_axiom_once-clause-gains c =
    gains_halted c.args.self.now c.loop-self.self c.add_axiom_once.new.solver c.loop-self.invariant
    c.in_err-add_axiom_once.ensures.err

pub returns-in_err-add_axiom_once-clause-run : goal.returns-in_err-add_axiom_once-clause-run
returns-in_err-add_axiom_once-clause-run c = λ units.
    halted_any _ _ _ _ units units c.from_residual.result c.in_err-add_axiom_once.field-0.0 c.from_residual.ensures
    (taken_halted c.args.self.now c.loop-self.self c.add_axiom_once.new.solver c.in_err-add_axiom_once.field-0.0
    c.loop-self.invariant c.in_err-add_axiom_once.ensures.err (λ e. c.in_err-add_axiom_once.ensures.full (ap Err e))
    (λ count e. c.in_err-add_axiom_once.ensures.unspent count (ap Err e)) units)

pub loop-self-preserved : goal.loop-self-preserved
loop-self-preserved c =
    let p = c.loop-self.self in
    let name = c.index-as_slice-self.result in
    let lt = subst (λ n. p.taken < n) c.len.ensures c.loop-self-test.true in
    let same = c.index-as_slice-self.is in
    taken_more c.args.self.now p c.add_axiom_once.new.solver c.add_axiom_once.new.names name name c.loop-self.invariant
    lt
    (same ∙ waiting_is p c.as_slice.result.now name c.as_slice.ensures)
    (subst (λ n. Contains p.needed n) (sym same) (waiting_there p c.as_slice.result.now name c.as_slice.ensures lt))
    c.in_ok-add_axiom_once.ensures.ok c.in_ok-add_axiom_once.ensures.named c.in_ok-add_axiom_once.ensures.log
