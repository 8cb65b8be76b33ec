use Rattle.std.proofs.Common.{◌≡◌, ap, arith, length, min}
use Rattle.edit_rules.specs.Kinds.{framework_of}
use Rattle.core_answers.proofs.EndLemmas.{fit_comes, refused_comes}
use Rattle.core_answers.proofs.ends.may_end.Goals as goal

pub returns-in-Refused : goal.returns-in-Refused
returns-in-Refused c =
    refused_comes (framework_of c.args.framework.now) c.args.query.now c.args.most c.args.log.now c.args.answered
    c.args.budget c.args.pending.now c.args.outcome.now c.in-Refused.fault c.is_fault.result c.in-Refused.is
    c.is_fault.ensures

pub returns : goal.returns
returns c =
    let long : length c.steps.result.now ≡ length c.args.log.now.steps = ap (λ xs. length xs) c.steps.ensures in
    let least : c.min-from.result ≡ min c.args.answered (length c.args.log.now.steps) =
    omega (arith, c.min-from.ensures, long) in
    fit_comes (framework_of c.args.framework.now) c.args.query.now c.args.most c.args.log.now c.args.answered
    c.min-from.result c.args.budget c.args.pending.now c.args.outcome.now c.in_ok-ends.ends c.in_default.not-Refused
    least c.in_ok-ends.ensures
