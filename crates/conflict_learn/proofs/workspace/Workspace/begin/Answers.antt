use Rattle.std.proofs.Common.{arith}
use Rattle.conflict_learn.proofs.Meeting.{begun}
use Rattle.conflict_learn.proofs.workspace.Workspace.begin.Goals as goal

pub returns-clause-counted : goal.returns-clause-counted
returns-clause-counted c =
    begun c.args.search.now c.args.border c.make_room.new.self.marks.items c.truncate.new.self.items
    c.truncate-2.new.self.items c.in_ok-make_room.ensures.clear
    (let long = c.in_ok-make_room.ensures.long in omega (arith, c.vars.ensures.vars, long))
    c.vars.ensures.form.short c.truncate.ensures.items
