use Rattle.std.proofs.Common.{◌∙◌, subst, Contains}
use Rattle.edit_groups.specs.Gaining.{HasGained, HasLost}
use Rattle.edit_groups.proofs.ChangeLemmas.{coming_between, coming_new, made_is}
use Rattle.edit_groups.proofs.in_place.make_changes.Goals as goal

pub insert_all-requires-clause-live : goal.insert_all-requires-clause-live
insert_all-requires-clause-live c = λ p m.
    coming_between c.args.plain.now c.args.edits.now c.args.changes.now c.requires p
    (subst (λ ps. Contains ps p) (c.as_slice.ensures.value ∙ c.in_ok-coming.ensures) m)

pub insert_all-requires-clause-new : goal.insert_all-requires-clause-new
insert_all-requires-clause-new c = λ p m.
    coming_new c.args.plain.now c.args.changes.now p
    (subst (λ ps. Contains ps p) (c.as_slice.ensures.value ∙ c.in_ok-coming.ensures) m)

pub returns-clause-behind : goal.returns-clause-behind
returns-clause-behind c =
    made_is c.args.plain.now c.insert_all.new.plain c.remove_all.new.plain c.args.edits.now c.args.changes.now
    c.in_ok-coming.coming.items c.in_ok-going.going.items c.requires c.in_ok-coming.ensures c.in_ok-going.ensures
    (subst (λ ps. HasGained ps c.args.plain.now c.insert_all.new.plain) c.as_slice.ensures.value
    c.in_ok-insert_all.ensures.done)
    (subst (λ ps. HasLost ps c.insert_all.new.plain c.remove_all.new.plain) c.as_slice-2.ensures.value
    c.remove_all.ensures)
