use Rattle.std.proofs.Common.{sym, ◌∙◌}
use Rattle.std.proofs.lemmas.Bool.{false≢true}
use Rattle.marked_sets.proofs.UnattackedLemmas.{gains_none, gains_one}
use Rattle.marked_sets.proofs.arguments.add_if_unattacked.Goals as goal

pub returns-then-not-alone : goal.returns-then-not-alone
returns-then-not-alone c = gains_none c.args.plain.now c.args.argument _
    (λ none. false≢true (sym c.if-not-alone.true ∙ c.is_unattacked-alone.ensures.1 none))

pub returns : goal.returns
returns c = gains_one c.args.plain.now c.args.argument _ _ (c.is_unattacked-alone.ensures.0 c.if-not-alone.false)
    c.in_ok-push.ensures.items
