use Rattle.std.proofs.Common.{◌≡◌, sym, ◌∙◌, true}
use Rattle.std.proofs.lemmas.Bool.{false≢true}
use Rattle.oracle_face.specs.Logs.{is_loop}
use Rattle.entry_taking.proofs.Joining.{came_of_kind, stays_outside}
use Rattle.entry_taking.proofs.taking.take_named.Goals as goal

pub returns-then-is_loop-clause-comes : goal.returns-then-is_loop-clause-comes
returns-then-is_loop-clause-comes c = λ f own same.
    let loop_so : is_loop c.args.name.now ≡ true = sym c.is_loop.ensures ∙ c.if-is_loop.true in
    stays_outside c.args.assumption_based f own c.args.name.now c.args.clause.now c.args.solver.now.log
    c.args.solver.now.log same (λ may. false≢true (sym may.no_loop ∙ loop_so))

pub returns-clause-comes : goal.returns-clause-comes
returns-clause-comes c =
    came_of_kind c.take_axiom.result c.args.assumption_based c.args.name.now c.args.clause.now c.args.solver.now.log
    c.take_axiom.new.solver.log c.take_axiom.ensures.comes

pub returns-clause-steps : goal.returns-clause-steps
returns-clause-steps c = c.take_axiom.ensures.steps
