use Rattle.std.proofs.Common.{◌≡◌, Ok, subst, sym, take}
use Rattle.edit_rules.specs.Groups.{group_told}
use Rattle.edit_rules.specs.Replay.{replay}
use Rattle.edit_history.specs.Entries.{edits_in, entries_in, framework_after}
use Rattle.edit_history.specs.declared.entry.Change.{Change}
use Rattle.session_core.specs.Following.{CatchesUp}
use Rattle.session_core.proofs.FollowingLemmas.{caught_more, following_more, group_at}
use Rattle.session_core.proofs.following.follow.Goals as goal

pub follow_group-requires : goal.follow_group-requires
follow_group-requires c =
    let x = c.change-item.result in
    rw c.as_slice.ensures
    (subst (λ f. group_told f (edits_in x.effects) ≡ Ok x.effects) (sym c.loop-change.invariant.framework)
    (subst (λ (y : Change). group_told (framework_after c.args.engine.now.framework
    (take c.loop-change.change-index (entries_in c.args.changes.now))) (edits_in y.effects) ≡ Ok y.effects)
    (sym c.change-item.is)
    (group_at c.args.engine.now.framework c.loop-change.change-index c.args.changes.now x c.requires
    c.loop-change-test.true)))

pub returns-in_err-follow_group-clause-catches_up : goal.returns-in_err-follow_group-clause-catches_up
returns-in_err-follow_group-clause-catches_up c =
    let x = c.change-item.result in
    let now = c.loop-change.engine in
    caught_more c.args.changes.now c.loop-change.change-index x c.args.engine.now now c.follow_group.new.engine.log
    c.loop-change-test.true c.loop-change.invariant
    (subst (λ (y : Change). CatchesUp now.framework (edits_in y.effects) now.log c.follow_group.new.engine.log)
    c.change-item.is (rw c.as_slice.ensures at c.in_err-follow_group.ensures.catches_up))

pub loop-change-preserved : goal.loop-change-preserved
loop-change-preserved c =
    let x = c.change-item.result in
    let now = c.loop-change.engine in
    let after = c.follow_group.new.engine in
    following_more c.args.changes.now c.loop-change.change-index x c.args.engine.now now after c.loop-change-test.true
    c.loop-change.invariant
    (subst (λ (y : Change). after.framework ≡ replay now.framework (edits_in y.effects)) c.change-item.is
    (rw c.as_slice.ensures at c.in_ok-follow_group.ensures.framework))
    (subst (λ (y : Change). CatchesUp now.framework (edits_in y.effects) now.log after.log) c.change-item.is
    (rw c.as_slice.ensures at c.in_ok-follow_group.ensures.catches_up))
    c.in_ok-follow_group.ensures.number
