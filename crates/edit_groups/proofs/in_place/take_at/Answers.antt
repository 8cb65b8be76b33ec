use Rattle.std.proofs.Common.{inl, inr, sym, ⊎_elim}
use Rattle.semantics.specs.Frameworks.{af}
use Rattle.edit_groups.proofs.ChangeLemmas.{next_in, refused_in}
use Rattle.edit_groups.proofs.in_place.take_at.Goals as goal

pub returns-in-Ok-clause-taken : goal.returns-in-Ok-clause-taken
returns-in-Ok-clause-taken c = λ told.
    next_in c.args.plain.now c.args.edits.now c.args.index c.index-edits-index.result c.args.changes.now
    c.take_edit.new.changes c.requires.index (sym c.index-edits-index.is) c.requires.taken
    (c.in-Ok.ensures.taken told)

pub returns-in-Err-clause-fault : goal.returns-in-Err-clause-fault
returns-in-Err-clause-fault c = c.fault_at.ensures (af c.args.plain.now) c.args.edits.now
    (⊎_elim (λ memory. inl memory)
    (λ refused. inr (refused_in c.args.plain.now c.args.edits.now c.args.index c.index-edits-index.result
    c.args.changes.now c.in-Err.fault c.requires.index (sym c.index-edits-index.is) c.requires.taken refused))
    c.in-Err.ensures.fault)
