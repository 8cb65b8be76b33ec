use Rattle.std.proofs.Common.{rules, refl}
use Rattle.plain_lits.proofs.TrailLemmas.{popped_assigned}
use Rattle.plain_lits.proofs.assignment.Assignment.pop.Goals as goal

pub invariant_of-self : goal.invariant_of-self
invariant_of-self c =
    let s = c.self.inside in
    record {
      assigned = popped_assigned s.trail.items c.pop.new.self.items s.values.items _ s.positions.items c.in-Some.lit
          c.self.invariant.assigned
          c.in-Some.ensures.items refl;
      fits = search rules;
    }
