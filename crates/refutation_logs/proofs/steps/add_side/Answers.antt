use Rattle.std.proofs.Common.{◌∙◌}
use Rattle.edit_rules.specs.Kinds.{framework_of}
use Rattle.refutation_logs.proofs.Loggings.{side_added, side_given}
use Rattle.refutation_logs.proofs.steps.add_side.Goals as goal

pub returns : goal.returns
returns c =
    side_added _ _ _ _ _ _ _ _ _ (side_given (framework_of c.args.framework.now) c.args.kind c.args.sets.now
    c.args.place _ _ c.requires.from_one c.requires.within c.index-sets-place.is
    (c.as_slice.ensures.value ∙ c.in_ok-given.ensures))
    (c.as_slice-packed.ensures.value ∙ c.in_ok-number.ensures.packed) c.in_ok-number.ensures.appearance
    c.in_ok-number.ensures.stands c.in_ok-push.ensures.ok c.in_ok-push-2.ensures.step c.requires.idle
    c.in_ok-push-2.ensures.count
