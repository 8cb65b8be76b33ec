use Rattle.edit_groups.proofs.attack_changes.AttackChanges.note.Goals as goal

pub returns : goal.returns
returns c = record { here = c.in_ok-insert.ensures.updates.1; others = c.in_ok-insert.ensures.updates.2 }
