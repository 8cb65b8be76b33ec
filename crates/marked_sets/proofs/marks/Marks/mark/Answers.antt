use Rattle.std.proofs.Common.{set, true, ap, ◌∙◌}
use Rattle.marked_sets.proofs.MarkLemmas.{stamped, marks_here}
use Rattle.marked_sets.proofs.marks.Marks.mark.Goals as goal

pub invariant_of-self : goal.invariant_of-self
invariant_of-self c = stamped c.self.inside.stamps.items c.self.inside.present c.args.number c.self.invariant

pub returns : goal.returns
returns c = marks_here c.self.inside.stamps.items c.self.inside.present c.args.number
    ∙ ap (λ m. set m c.args.number true) c.self.view_is
