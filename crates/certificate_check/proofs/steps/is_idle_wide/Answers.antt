use Rattle.edit_rules.specs.Kinds.{framework_of}
use Rattle.certificate_check.proofs.IdleLemmas.{wider_idle}
use Rattle.certificate_check.proofs.steps.is_idle_wide.Goals as goal

pub returns : goal.returns
returns c = λ t. wider_idle (framework_of c.args.framework.now) c.args.set.now c.in_ok-range.range c.args.number
    c.args.limit c.leaves_more-more.ensures.form c.in_ok-range.ensures (c.leaves_more-more.ensures.more t)
