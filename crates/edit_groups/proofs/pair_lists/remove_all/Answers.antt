use Rattle.std.proofs.Common.{refl}
use Rattle.std.proofs.lemmas.List.{take_all}
use Rattle.edit_groups.proofs.GainingLemmas.{lost_more, lost_none}
use Rattle.edit_groups.proofs.pair_lists.remove_all.Goals as goal

pub loop-pair-init : goal.loop-pair-init
loop-pair-init c = lost_none c.args.plain.now c.live-form.ensures.form

pub loop-pair-preserved : goal.loop-pair-preserved
loop-pair-preserved c =
    lost_more c.args.pairs.now c.loop-pair.pair-index _ c.args.plain.now c.loop-pair.plain _ c.loop-pair-test.true refl
    c.loop-pair.invariant c.remove_attack.ensures.live c.remove_attack.ensures.loses c.remove_attack.ensures.form

pub returns : goal.returns
returns c = rw (take_all c.loop-pair.pair-index c.args.pairs.now c.loop-pair-test.false) at c.loop-pair.invariant
