use Rattle.std.proofs.Common.{◌∙◌}
use Rattle.ideal_set.proofs.RoundLemmas.{are_arguments, are_between, is_round}
use Rattle.ideal_set.proofs.part.framework_round.Goals as goal

pub new-requires-clause-arguments : goal.new-requires-clause-arguments
new-requires-clause-arguments c =
    are_arguments c.args.plain.now _ c.live.ensures.form (c.in_ok-live.ensures ∙ c.live.ensures.value)

pub new-requires-clause-between : goal.new-requires-clause-between
new-requires-clause-between c =
    are_between c.args.plain.now c.args.set.now _ _ c.live.ensures.form (c.in_ok-live.ensures ∙ c.live.ensures.value)
    c.in_ok-attacks.ensures

pub returns : goal.returns
returns c =
    is_round c.args.plain.now c.args.set.now _ _ c.new.result (c.in_ok-live.ensures ∙ c.live.ensures.value)
    c.in_ok-attacks.ensures c.new.ensures.live c.new.ensures.attacks
