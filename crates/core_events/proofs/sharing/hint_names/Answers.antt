use Rattle.std.proofs.Common.{[], ◌∷◌, ◌++◌, ◌∙◌, ap}
use Rattle.std.proofs.lemmas.List.{get_or_default}
use Rattle.core_logs.proofs.Fronts.{mapped_more}
use Rattle.session_log.specs.Imports.{name_of_step}
use Rattle.core_events.proofs.sharing.hint_names.Goals as goal

pub loop-hint-preserved : goal.loop-hint-preserved
loop-hint-preserved c =
    let f = name_of_step c.args.session c.args.steps.now in
    let read = c.hint-item.is
    ∙ get_or_default c.args.hints.now c.loop-hint.hint-index c.hint-item.result 0 c.loop-hint-test.true in
    c.in_ok-push.ensures.ok
    ∙ (ap (λ x. c.loop-hint.names ++ x ∷ []) (c.in_ok-hint_name.ensures ∙ ap f read)
    ∙ mapped_more f c.args.hints.now c.loop-hint.names c.loop-hint.hint-index 0 c.loop-hint-test.true
    c.loop-hint.invariant)
