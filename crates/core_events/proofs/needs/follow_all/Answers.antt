use Rattle.edit_rules.specs.Kinds.{framework_of}
use Rattle.core_events.proofs.NeedLemmas.{after_next}
use Rattle.core_events.proofs.needs.follow_all.Goals as goal

pub loop-edit-preserved : goal.loop-edit-preserved
loop-edit-preserved c =
    after_next (framework_of c.args.framework.now) (framework_of c.loop-edit.framework)
    (framework_of c.follow.new.framework) c.args.edits.now c.loop-edit.edit-index c.edit-item.result
    c.loop-edit-test.true c.edit-item.is c.loop-edit.invariant c.in_ok-follow.ensures
