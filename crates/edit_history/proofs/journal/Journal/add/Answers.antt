use Rattle.std.proofs.Common.{◌∙◌, ◌+◌, ◌≤◌, ap, length, subst}
use Rattle.edit_rules.specs.Kinds.{framework_of}
use Rattle.edit_history.proofs.EntryLemmas.{committed, continues}
use Rattle.edit_history.proofs.journal.Journal.add.Goals as goal

pub invariant_of-self-2 : goal.invariant_of-self-2
invariant_of-self-2 c =
    let self = c.args.self.now in
    let longer = committed self.limit (framework_of self.opening) (framework_of self.framework)
    (framework_of c.apply_group.new.framework) self.changes.items c.args.session c.args.edits.now
    c.in-Ok.effects.kept c.requires.room self.done self.replayed c.in-Ok.ensures.taken in
    rw (c.push_reserved.ensures.items, c.reserve.ensures.items)
    (record {
      counted = ap (λ n. n + length c.args.edits.now) self.counted ∙ longer.counted;
      within = subst (λ n. n ≤ self.limit) longer.counted c.requires.room;
      done = longer.done;
      replayed = longer.replayed;
    })

pub returns-clause-ok : goal.returns-clause-ok
returns-clause-ok c =
    let self = c.args.self.now in
    let longer = committed self.limit (framework_of self.opening) (framework_of self.framework)
    (framework_of c.apply_group.new.framework) self.changes.items c.args.session c.args.edits.now
    c.in-Ok.effects.kept c.requires.room self.done self.replayed c.in-Ok.ensures.taken in
    rw (c.push_reserved.ensures.items, c.reserve.ensures.items, c.in-Ok.ensures.told) longer.added

pub returns-clause-continued : goal.returns-clause-continued
returns-clause-continued c =
    let self = c.args.self.now in
    let longer = committed self.limit (framework_of self.opening) (framework_of self.framework)
    (framework_of c.apply_group.new.framework) self.changes.items c.args.session c.args.edits.now
    c.in-Ok.effects.kept c.requires.room self.done self.replayed c.in-Ok.ensures.taken in
    rw (c.push_reserved.ensures.items, c.reserve.ensures.items)
    (continues self.limit (framework_of self.opening) c.args.session c.args.edits.now _ _ c.in-Ok.effects.kept
    longer.added)
