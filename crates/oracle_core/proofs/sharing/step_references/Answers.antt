use Rattle.std.proofs.Common.{◌≡◌, ◌+◌, get_or, take, sym, subst}
use Rattle.std.specs.Prelude.{IfSome, Option}
use Rattle.oracle_face.specs.declared.entry.HintName.{HintName}
use Rattle.oracle_face.specs.Logs.{step_at}
use Rattle.oracle_core.specs.Sharing.{AreNamesOf, IsNamedAs}
use Rattle.oracle_core.proofs.OfferLemmas.{names_more}
use Rattle.oracle_core.proofs.sharing.step_references.Goals as goal

pub loop-step-preserved : goal.loop-step-preserved
loop-step-preserved c =
    let own = c.args.own in
    let steps = c.args.solver.now.log.steps in
    let i = c.loop-step.step-index in
    let number = c.step-item.result in
    let at : get_or c.args.steps.now i number ≡ number = sym c.step-item.is in
    let named = subst (λ (found : Option HintName). IfSome found
    (λ name. IsNamedAs own name number (step_at steps number))) c.in-Some.is c.in_ok-name.ensures in
    subst (λ names. AreNamesOf own steps (take (i + 1) c.args.steps.now) names) (sym c.in_ok-push.ensures.ok)
    (names_more own steps c.args.steps.now c.loop-step.names i number c.in-Some.name c.loop-step-test.true at
    c.loop-step.invariant named)
