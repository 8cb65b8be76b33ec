use Rattle.edit_rules.specs.Kinds.{framework_of}
use Rattle.certificate_check.proofs.IdleLemmas.{differs_idle, outside_idle}
use Rattle.certificate_check.proofs.steps.is_idle.Goals as goal

pub returns-in-Outside : goal.returns-in-Outside
returns-in-Outside c = λ t. rw c.in-Outside.is (outside_idle (framework_of c.args.framework.now) c.args.set.now
    c.args.number c.args.limit c.leaves_more-outside.ensures.form (c.leaves_more-outside.ensures.more t))

pub returns-in-Differs : goal.returns-in-Differs
returns-in-Differs c = λ t. rw c.in-Differs.is (differs_idle (framework_of c.args.framework.now) c.args.set.now
    c.args.number c.args.limit c.leaves_more-differs.ensures.form (c.leaves_more-differs.ensures.more t))
