use Rattle.std.proofs.Common.{◌≡◌, ◌+◌, get_or, take, sym, subst}
use Rattle.session_log.specs.Imports.{StandForSteps}
use Rattle.entry_taking.specs.Taking.{IsFound}
use Rattle.entry_taking.proofs.Finding.{stand_more}
use Rattle.entry_taking.proofs.taking.steps_of.Goals as goal

pub loop-hint-preserved : goal.loop-hint-preserved
loop-hint-preserved c =
    let steps = c.args.solver.now.log.steps in
    let i = c.loop-hint.hint-index in
    let name = c.hint-item.result in
    let at : get_or c.args.hints.now i name ≡ name = sym c.hint-item.is in
    let found = subst (IsFound c.args.own steps name) c.in-Some.is c.in_ok-step.ensures in
    subst (λ hints. StandForSteps c.args.own steps (take (i + 1) c.args.hints.now)
    hints) (sym c.in_ok-push.ensures.ok)
    (stand_more c.args.own steps c.args.hints.now c.loop-hint.steps i name c.in-Some.step c.loop-hint-test.true at
    c.loop-hint.invariant found)
