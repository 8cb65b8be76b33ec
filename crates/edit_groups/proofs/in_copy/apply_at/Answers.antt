use Rattle.std.proofs.Common.{◌+◌, inl, inr, subst, sym, take, ⊎_elim}
use Rattle.edit_rules.specs.Kinds.{framework_of}
use Rattle.edit_groups.specs.Taking.{IsGroupTaken}
use Rattle.edit_groups.proofs.TakingLemmas.{next_refused, next_taken}
use Rattle.edit_groups.proofs.in_copy.apply_at.Goals as goal

pub returns-in_ok-push-in-Ok-clause-taken : goal.returns-in_ok-push-in-Ok-clause-taken
returns-in_ok-push-in-Ok-clause-taken c = λ f taken.
    subst (λ effects. IsGroupTaken f (take (c.args.index + 1) c.args.edits.now) effects
    (framework_of c.apply.new.framework)) (sym c.in_ok-push-in-Ok.ensures.ok)
    (next_taken f (framework_of c.args.framework.now) (framework_of c.apply.new.framework) c.args.edits.now
    c.args.index c.index-edits-index.result c.args.effects.now c.in-Ok.effect c.requires
    (sym c.index-edits-index.is) taken c.in-Ok.ensures.done)

pub returns-in-Err-clause-fault : goal.returns-in-Err-clause-fault
returns-in-Err-clause-fault c = λ f taken. c.fault_at.ensures f c.args.edits.now
    (⊎_elim (λ memory. inl memory)
    (λ refused. inr (next_refused f (framework_of c.args.framework.now) c.args.edits.now c.args.index
    c.index-edits-index.result c.args.effects.now c.in-Err.fault c.requires (sym c.index-edits-index.is) taken
    refused)) c.in-Err.ensures.fault)
