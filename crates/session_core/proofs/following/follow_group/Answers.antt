use Rattle.std.proofs.Common.{◌≡◌, subst, sym, take}
use Rattle.edit_rules.specs.declared.effect.Effect.{Effect}
use Rattle.edit_rules.specs.Replay.{IsTaken, after_edit, replay}
use Rattle.edit_history.specs.Entries.{edits_in}
use Rattle.framework_solver.specs.Updating.{GainsNeeded}
use Rattle.session_core.proofs.FollowingLemmas.{caught_edit, in_group_more, taken_at}
use Rattle.session_core.proofs.following.follow_group.Goals as goal

pub follow_one-requires : goal.follow_one-requires
follow_one-requires c =
    let x = c.effect-item.result in
    subst (λ f. IsTaken f x.edit x) (sym c.loop-effect.invariant.framework)
    (subst (λ (y : Effect). IsTaken (replay c.args.engine.now.framework
    (take c.loop-effect.effect-index (edits_in c.args.effects.now))) y.edit y)
    (sym c.effect-item.is)
    (taken_at c.args.engine.now.framework c.loop-effect.effect-index c.args.effects.now x c.requires
    c.loop-effect-test.true))

pub returns-in_err-follow_one-clause-catches_up : goal.returns-in_err-follow_one-clause-catches_up
returns-in_err-follow_one-clause-catches_up c =
    let x = c.effect-item.result in
    let now = c.loop-effect.engine in
    caught_edit c.args.effects.now c.loop-effect.effect-index x c.args.engine.now now c.follow_one.new.engine.log
    c.loop-effect-test.true c.loop-effect.invariant
    (subst (λ (y : Effect). GainsNeeded (after_edit now.framework y.edit) now.log c.follow_one.new.engine.log)
    c.effect-item.is c.in_err-follow_one.ensures.gains)

pub loop-effect-preserved : goal.loop-effect-preserved
loop-effect-preserved c =
    let x = c.effect-item.result in
    let now = c.loop-effect.engine in
    let after = c.follow_one.new.engine in
    in_group_more c.args.effects.now c.loop-effect.effect-index x c.args.engine.now now after c.loop-effect-test.true
    c.loop-effect.invariant
    (subst (λ (y : Effect). after.framework ≡ after_edit now.framework y.edit) c.effect-item.is
    c.in_ok-follow_one.ensures.framework)
    (subst (λ (y : Effect). GainsNeeded (after_edit now.framework y.edit) now.log after.log) c.effect-item.is
    c.in_ok-follow_one.ensures.gains)
    c.in_ok-follow_one.ensures.number
