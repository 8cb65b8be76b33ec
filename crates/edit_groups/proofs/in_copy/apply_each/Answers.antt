use Rattle.std.proofs.Common.{refl, IfErr}
use Rattle.std.proofs.lemmas.List.{take_all}
use Rattle.edit_rules.specs.Kinds.{framework_of}
use Rattle.edit_groups.specs.Taking.{IsGroupFault}
use Rattle.edit_groups.proofs.TakingLemmas.{fault_handed_on}
use Rattle.edit_groups.proofs.in_copy.apply_each.Goals as goal

pub loop-index-init : goal.loop-index-init
loop-index-init c = rw c.new-effects.ensures (record { told = refl; behind = refl })

pub loop-index-preserved : goal.loop-index-preserved
loop-index-preserved c = c.in_ok-apply_at.ensures.taken _ c.loop-index.invariant

pub returns-clause-taken : goal.returns-clause-taken
returns-clause-taken c =
    rw (take_all c.loop-index.index c.args.edits.now c.loop-index-test.false) at c.loop-index.invariant

pub returns-in_err-apply_at-clause-fault : goal.returns-in_err-apply_at-clause-fault
returns-in_err-apply_at-clause-fault c =
    fault_handed_on (λ r. IfErr r (IsGroupFault (framework_of c.args.framework.now) c.args.edits.now))
    c.from_residual.result c.in_err-apply_at.field-0.0 c.from_residual.ensures
    (c.in_err-apply_at.ensures.fault (framework_of c.args.framework.now) c.loop-index.invariant)
