use Rattle.std.proofs.Common.{arith}
use Rattle.edit_rules.specs.Kinds.{framework_of}
use Rattle.core_logs.proofs.NewTests.{ok_carried}
use Rattle.core_events.proofs.NeedLemmas.{after_next, needed_here, needed_last, needed_no_more}
use Rattle.core_events.proofs.needs.is_needed_along.Goals as goal

pub loop-edit-preserved : goal.loop-edit-preserved
loop-edit-preserved c = record {
  now = after_next (framework_of c.args.framework.now) (framework_of c.loop-edit.framework)
      (framework_of c.follow.new.framework) c.args.edits.now c.loop-edit.edit-index c.edit-item.result
      c.loop-edit-test.true c.edit-item.is c.loop-edit.invariant.now c.in_ok-follow.ensures;
  none = needed_no_more (framework_of c.args.framework.now) (framework_of c.loop-edit.framework) c.args.edits.now
      c.loop-edit.edit-index c.args.name.now c.in_ok-is_needed.field-0 c.loop-edit.invariant.now
      c.in_ok-is_needed.ensures c.if-branch.false c.loop-edit.invariant.none;
}

pub returns-then-branch : goal.returns-then-branch
returns-then-branch c =
    needed_here (framework_of c.args.framework.now) (framework_of c.loop-edit.framework) c.args.edits.now
    c.loop-edit.edit-index c.args.name.now c.in_ok-is_needed.field-0 c.loop-edit.invariant.now
    c.in_ok-is_needed.ensures c.if-branch.true (omega (arith, c.loop-edit-test.true))

pub returns : goal.returns
returns c =
    ok_carried c.is_needed-2.result c.is_needed-2.ensures
    (λ b h. needed_last (framework_of c.args.framework.now) (framework_of c.loop-edit.framework) c.args.edits.now
    c.loop-edit.edit-index c.args.name.now b
    (omega (arith, c.loop-edit-test.false, c.loop-edit.auto.edit-index-end)) c.loop-edit.invariant.now
    c.loop-edit.invariant.none h)
