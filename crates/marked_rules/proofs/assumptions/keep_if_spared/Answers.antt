use Rattle.std.proofs.Common.{sym, ◌∙◌}
use Rattle.std.proofs.lemmas.Bool.{false≢true}
use Rattle.marked_rules.specs.Tests.{IsSpared}
use Rattle.marked_rules.proofs.TestLemmas.{keeps_not, keeps_one}
use Rattle.marked_rules.proofs.assumptions.keep_if_spared.Goals as goal

pub returns-then-not-spared : goal.returns-then-not-spared
returns-then-not-spared c = keeps_not c.args.number (IsSpared c.args.plain.now c.args.uses.now c.args.closing.now) _
    (λ h. false≢true (sym c.if-not-spared.true ∙ c.is_spared-spared.ensures.1 h))

pub returns : goal.returns
returns c = keeps_one c.args.number (IsSpared c.args.plain.now c.args.uses.now c.args.closing.now) _ _
    (c.is_spared-spared.ensures.0 c.if-not-spared.false) c.in_ok-push.ensures.items
