use Rattle.std.proofs.lemmas.List.{take_all}
use Rattle.edit_groups.proofs.ChangeLemmas.{none_taken}
use Rattle.edit_groups.proofs.in_place.changes_of.Goals as goal

pub loop-index-init : goal.loop-index-init
loop-index-init c = none_taken c.args.plain.now _ c.live-form.ensures.form c.new-changes.ensures

pub loop-index-preserved : goal.loop-index-preserved
loop-index-preserved c = c.in_ok-take_at.ensures.taken c.if-not-branch.false

pub returns-clause-taken : goal.returns-clause-taken
returns-clause-taken c =
    rw (take_all c.loop-index.index c.args.edits.now c.loop-index-test.false) at c.loop-index.invariant
