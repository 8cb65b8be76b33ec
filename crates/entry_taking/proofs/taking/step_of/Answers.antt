use Rattle.std.proofs.Common.{sym, ◌∙◌, subst}
use Rattle.std.proofs.lemmas.Bool.{false≢true}
use Rattle.entry_taking.specs.Taking.{IsCalledFirst}
use Rattle.entry_taking.proofs.Finding.{not_plain, stands}
use Rattle.entry_taking.proofs.taking.step_of.Goals as goal

pub returns-then-is_plain : goal.returns-then-is_plain
returns-then-is_plain c =
    let steps = c.args.solver.now.log.steps in
    stands c.args.own steps c.args.name.now c.in-Some.step
    (subst (IsCalledFirst c.args.own steps c.args.name.now) c.in-Some.is c.in_ok-step.ensures)
    (c.is_plain.ensures.0 c.if-is_plain.true)

pub returns : goal.returns
returns c = λ number stand.
    let steps = c.args.solver.now.log.steps in
    not_plain c.args.own steps c.args.name.now c.in-Some.step number
    (subst (IsCalledFirst c.args.own steps c.args.name.now) c.in-Some.is c.in_ok-step.ensures)
    (λ plain. false≢true (sym c.if-is_plain.false ∙ c.is_plain.ensures.1 plain)) stand
