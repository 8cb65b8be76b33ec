use Rattle.std.proofs.Common.{arith, sym, ◌∙◌}
use Rattle.conflict_learn.specs.Analyses.{analysis_of}
use Rattle.conflict_learn.proofs.Meeting.{open_counted, open_meets, open_room, kept_pushed}
use Rattle.conflict_learn.proofs.workspace.Workspace.mark.Goals as goal

pub returns-then-kept-clause-counted : goal.returns-then-kept-clause-counted
returns-then-kept-clause-counted c =
    (kept_pushed c.args.search.now c.args.border (analysis_of c.args.self.now) c.args.lit c.args.index
    c.push.new.self.items c.requires.counted c.requires.stands c.requires.fresh
    (sym c.keeps-kept.ensures ∙ c.if-kept.true) c.in_ok-push.ensures.items).0

pub returns-then-kept-clause-met : goal.returns-then-kept-clause-met
returns-then-kept-clause-met c =
    (kept_pushed c.args.search.now c.args.border (analysis_of c.args.self.now) c.args.lit c.args.index
    c.push.new.self.items c.requires.counted c.requires.stands c.requires.fresh
    (sym c.keeps-kept.ensures ∙ c.if-kept.true) c.in_ok-push.ensures.items).1

pub overflow_add-self : goal.overflow_add-self
overflow_add-self c =
    let room = open_room c.args.search.now c.args.border (analysis_of c.args.self.now) c.args.index c.requires.counted
    c.requires.stands.within c.requires.fresh in
    let fits = c.len-count.type_inv in
    omega (arith, room, fits, c.len-count.ensures)

pub returns-clause-counted : goal.returns-clause-counted
returns-clause-counted c =
    open_counted c.args.search.now c.args.border (analysis_of c.args.self.now) c.args.lit c.args.index
    c.requires.counted c.requires.stands c.requires.fresh (sym c.keeps-kept.ensures ∙ c.if-kept.false)

pub returns-clause-met : goal.returns-clause-met
returns-clause-met c =
    open_meets c.args.search.now c.args.border (analysis_of c.args.self.now) c.args.lit c.args.index
    c.requires.counted c.requires.stands c.requires.fresh (sym c.keeps-kept.ensures ∙ c.if-kept.false)
