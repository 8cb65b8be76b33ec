use Rattle.std.proofs.Common.{[], ◌∷◌, ◌++◌, map, take, ap, sym, ◌∙◌}
use Rattle.lrat_text.specs.Checking.{number_of}
use Rattle.lrat_text.proofs.NamedSteps.{all_ids, named_more}
use Rattle.lrat_text.proofs.ids.name_hints.Goals as goal

pub loop-hint-preserved : goal.loop-hint-preserved
loop-hint-preserved c =
    let number = number_of (all_ids c.args.count c.args.ids.now) in
    c.in_ok-push.ensures.items
    ∙ (ap (λ xs. xs ++ c.number_of.result ∷ []) c.loop-hint.invariant
    ∙ (ap (λ n. map number (take c.loop-hint.hint-index c.args.hints.now) ++ n ∷ []) c.number_of.ensures
    ∙ sym (named_more number c.args.hints.now c.loop-hint.hint-index c.loop-hint-test.true)))
